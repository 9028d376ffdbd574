-- DEMAND 3, over what the code promises. From flash where an exchange is due under C and its image is accepted (`Due`), let power fail
-- any number of times, each failure doing the harm that document 01 allows (`Failures`). Then one power-up with an allowance of
-- 3m(s/w + 2) + 8 + 2p + 32/w leaves all three areas byte for byte as one that was never cut, and the data sectors of the two slots
-- have changed places whole.
use Rattle.std.specs.Prelude.{◌≡◌, refl, [], Bool, true, false, ℕ, ◌+◌, ◌*◌, ◌-◌, ◌/◌, ◌≤◌}
use Rattle.std.proofs.Common.{sym, ap, ◌∙◌}
use Rattle.spans.specs.Choice.{pick}
use Rattle.flash.specs.declared.Geometry.{Geometry}
use Rattle.flash.specs.Build.{Flash, valid}
use Rattle.flash.specs.Base.{build}
use Rattle.flash.specs.Operations.{start, steps}
use Rattle.causes.specs.Check.{accepted}
use Rattle.plan.specs.declared.Course.{Course}
use Rattle.plan.specs.declared.Course.TheVariants.{Damage, FromLineThree, Resume, Test, Permanent, Revert, Clear, Nothing}
use Rattle.plan.specs.Decision.{decide, list_of, ok_unset, in_force}
use Rattle.plan.specs.Lengths.{one_if}
use Rattle.recovery.specs.Statement.{Failures, Due, Swapped}
use Rattle.recovery.proofs.Demand3 as recovery
use Rattle.answers.specs.declared.Answer.{Answer}
use Rattle.answers.specs.declared.Refusal.{Refusal}
use Rattle.loader.specs.PowerUp.{Result, carried, answered, refused, on_course, full_start}
use Rattle.demands.specs.Promise.{Start}

-- the areas that a power-up leaves are those of the list in force
pub areas : (checked : Bool) (g : Geometry) (b : ℕ) (f : Flash)
    → (full_start checked g b f).flash ≡ (steps (build g) (in_force accepted (build g) f) (start b f)).flash
unfolding full_start in_force on_course answered carried refused list_of steps
areas checked g b f = go (valid (build g) f) (decide accepted (build g) f)
  where
    go : (v : Bool) (c : Course)
        → (pick v (on_course checked g b f c) (refused Refusal.Geometry f)).flash
        ≡ (steps (build g) (pick v (list_of (build g) (ok_unset (build g) f) c) []) (start b f)).flash
    go false c = refl
    go true Damage = refl
    go true (FromLineThree p) = refl
    go true (Resume c) = refl
    go true Test = refl
    go true Permanent = refl
    go true Revert = refl
    go true Clear = refl
    go true Nothing = refl

pub demand_3 : {checked : Bool} {g : Geometry} {b : ℕ} {f f' : Flash} {course : Course} {p : Bool}
    → Due accepted (build g) f course p → Failures (build g) (in_force accepted (build g)) f f'
    → 3 * (g.sectors - 1) * (g.sector / g.unit + 2) + 8 + 2 * one_if p + 32 / g.unit ≤ b
    → {a a' : Answer} {end end' : Flash} → Start checked g b f a end → Start checked g b f' a' end' → (end' ≡ end) × Swapped
    (build g) f end'
demand_3 {checked} {g} {b} {f} {f'} due fs enough {end = end} {end'} q q' =
    let d = recovery.demand_3 accepted g.unit g.sector g.sectors due fs b enough in
    let e : end ≡ (steps (build g) (in_force accepted (build g) f) (start b f)).flash = ap (λ (r : Result). r.flash) q.promised
    ∙ areas checked g b f in
    let e' : end' ≡ (steps (build g) (in_force accepted (build g) f') (start b f')).flash = ap (λ (r : Result). r.flash)
    q'.promised ∙ areas checked g b f' in
    (e' ∙ d.0.carried ∙ sym e, rw e' d.1)
