-- Damage, and a geometry that is refused: nothing is carried out, all areas are as they were, the count is 0.
use Rattle.std.specs.Prelude.{◌≡◌, refl, List, [], Bool, true, false, ℕ}
use Rattle.std.proofs.Common.{ap}
use Rattle.spans.specs.Choice.{pick}
use Rattle.flash.specs.Build.{Build, Flash, valid}
use Rattle.flash.specs.Operations.{Op, steps, start}
use Rattle.plan.specs.declared.Course.TheVariants.{Damage}
use Rattle.plan.specs.Decision.{decide, list_of, ok_unset, in_force}

-- a list of no operations leaves areas and allowance alone
idle : (g : Build) (b : ℕ) (f : Flash) (ops : List Op) → ops ≡ [] → steps g ops (start b f) ≡ start b f
unfolding steps
idle g b f ops e = ap (λ (x : List Op). steps g x (start b f)) e

-- refusal 2
pub damage_idle : (check : List ℕ → Bool) (g : Build) (b : ℕ) (f : Flash) → decide check g f ≡ Damage
    → steps g (in_force check g f) (start b f) ≡ start b f
unfolding in_force list_of
damage_idle check g b f e = idle g b f (in_force check g f) (go (valid g f))
  where
    go : (v : Bool) → pick v (list_of g (ok_unset g f) (decide check g f)) [] ≡ []
    go true = rw e
    go false = refl

-- refusal 1
pub misfit_idle : (check : List ℕ → Bool) (g : Build) (b : ℕ) (f : Flash) → valid g f ≡ false
    → steps g (in_force check g f) (start b f) ≡ start b f
unfolding in_force
misfit_idle check g b f e = idle g b f (in_force check g f) (rw e)
