-- No sector is named for a course that the course's list does not work in.
use Rattle.std.specs.Prelude.{◌≡◌}
use mathlib.Core.List.{List, ◌∷◌}
use Prim.Native.Nat.{◌+◌, ◌≤◌, ◌<◌}
use Rattle.flash.specs.Geometry.{start_of}
use Rattle.flash.specs.Build.{Build, geometry}
use Rattle.flash.specs.Operations.{Op}
use Rattle.flash.specs.HarmAllows.{target, begins}
use Rattle.recovery.specs.Named.{Place}

-- an operation of the list begins in that sector
pub data Worked (g : Build) (p : Place) : List Op → Type 0 where
  by_first : {op : Op} {ops : List Op} → target op ≡ p.in_area → (start_of (geometry g) p.at_sector).0 ≤ begins g op
      → begins g op < (start_of (geometry g) p.at_sector).0 + g.sector → Worked g p (op ∷ ops)
  by_later : {op : Op} {ops : List Op} → Worked g p ops → Worked g p (op ∷ ops)
