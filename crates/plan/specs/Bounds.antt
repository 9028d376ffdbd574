-- A course that continues an exchange does so after 3 to 3n marks: what carrying it out relies on.
use Rattle.std.specs.Prelude.{◌≡◌, Bool, ◌&&◌, ℕ, ◌+◌, ◌*◌, ◌≤◌}
use Rattle.std.proofs.Math.Bool.{true}
use Rattle.std.proofs.Common.{arith, leb-true}
use Rattle.std.proofs.Math.ListN.{length}
use Rattle.std.proofs.Math.Dec.{leb}
use Rattle.spans.specs.Choice.{both}
use Rattle.flash.specs.declared.Geometry.{Geometry}
use Rattle.flash.specs.Build.{Build}
use Rattle.flash.specs.Base.{build}
use Rattle.flash.specs.Small.{Small}
use Rattle.plan.specs.declared.Course.{Course}
use Rattle.plan.specs.declared.Course.TheVariants.{Damage, FromLineThree, Resume, Test, Permanent, Revert, Clear, Nothing}
use Rattle.plan.specs.DecisionLaws.{most_marks}

-- "c from 3 to 3n"
unfoldable pub in_bounds : Build → Course → Bool
in_bounds g Damage = true
in_bounds g (FromLineThree p) = true
in_bounds g (Resume c) = leb 3 c && leb c (3 + length g.moves)
in_bounds g Test = true
in_bounds g Permanent = true
in_bounds g Revert = true
in_bounds g Clear = true
in_bounds g Nothing = true

pub resumed_bounds : (g : Geometry) (c : ℕ) → Small g → in_bounds (build g) (Resume c) ≡ true → (3 ≤ c) × (c ≤ 3 * g.sectors)
unfolding in_bounds
resumed_bounds g c small h =
    let two = both (leb 3 c) (leb c (3 + length (build g).moves)) h in
    (leb-true 3 c two.0, omega (arith, leb-true c (3 + length (build g).moves) two.1, most_marks g small))
