-- What `Failures` allows: failures one after the other, as many as one likes, each with any bytes wherever an operation works on data.
use Rattle.std.specs.Prelude.{◌≡◌, List, ℕ, ◌+◌, ◌≤◌, length}
use Rattle.spans.specs.Bytes.{part}
use Rattle.flash.specs.Build.{Area, Build, Flash, area}
use Rattle.flash.specs.Operations.{Op, erase, write, copy}
use Rattle.flash.specs.HarmAllows.{target, begins}
use Rattle.recovery.specs.Statement.{Failures}

-- how many bytes an operation works on
abbrev pub size_of : Build → Op → ℕ
size_of g (erase a i) = g.sector
size_of g (write a u bs) = g.unit
size_of g (copy b v a u) = g.unit

-- it works on data: before the last sector of its area
abbrev pub OnData : Build → Op → Flash → Type 0
OnData g op f = begins g op + size_of g op + g.sector ≤ length (area (target op) f)

-- failures can lead from f to a flash that has these bytes there
pub record Led (g : Build) (plan : Flash → List Op) (f : Flash) (a : Area) (at : ℕ) (bytes : List ℕ) : Type 0 where
  pub to : Flash
  pub failures : Failures g plan f to
  pub there : part (area a to) at (length bytes) ≡ bytes
