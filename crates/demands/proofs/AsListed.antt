-- A power-up in document 01's words: the first b operations of the list in force, the count that is the smaller of the two, Stopped
-- exactly where another operation is due. Refusal 8 is not among its answers.
use Rattle.std.specs.Prelude.{◌≡◌, refl, List, Bool, true, false, ℕ, ◌-◌, min, length, ltb}
use Rattle.std.proofs.Common.{sym, ap, ◌∙◌, arith}
use Rattle.spans.specs.Choice.{pick}
use Rattle.flash.specs.declared.Geometry.{Geometry}
use Rattle.flash.specs.declared.End.TheVariants.{Going, Stopped}
use Rattle.flash.specs.Build.{Flash, valid}
use Rattle.flash.specs.Base.{base, build}
use Rattle.flash.specs.Operations.{Op, run, start, steps}
use Rattle.causes.specs.Check.{accepted}
use Rattle.plan.specs.declared.Course.{Course}
use Rattle.plan.specs.Decision.{decide, list_of, ok_unset, in_force}
use Rattle.recovery.specs.Statement.{Sound}
use Rattle.recovery.specs.Validity.{of_valid}
use Rattle.recovery.specs.BaseMoves.{base_sound}
use Rattle.recovery.proofs.Bridge as bridge
use Rattle.answers.specs.declared.Refusal.{Refusal}
use Rattle.answers.specs.declared.Outcome.{Outcome}
use Rattle.loader.specs.PowerUp.{boot_of, ended, carried, answered, refused, is_damage, on_course, full_start}
use Rattle.loader.specs.Results.{undamaged}
use Rattle.demands.specs.Statement.{as_listed}

pub sound : (g : Geometry) (f : Flash) → valid (build g) f ≡ true → Sound (build g)
unfolding base
sound g f v = base_sound g.unit g.sector g.sectors (omega (arith, (of_valid (build g) f v).geo.two))

listed : (g : Geometry) (f : Flash) (course : Course) → valid (build g) f ≡ true → decide accepted (build g) f ≡ course
    → in_force accepted (build g) f ≡ list_of (build g) (ok_unset (build g) f) course
unfolding in_force
listed g f course v d = rw (v, d)

ended_as : (checked : Bool) (g : Geometry) (f : Flash) (t : Bool) → ended checked g f (pick t Stopped Going)
    ≡ pick t Outcome.Stopped (boot_of checked g f)
unfolding ended
ended_as checked g f true = refl
ended_as checked g f false = refl

-- the answer by the state that the list in force comes to
pub by_state : (checked : Bool) (g : Geometry) (b : ℕ) (f : Flash) (course : Course) → valid (build g) f ≡ true
    → decide accepted (build g) f ≡ course → is_damage course ≡ false
    → full_start checked g b f ≡ answered checked g b course (steps (build g) (in_force accepted (build g) f) (start b f))
unfolding full_start carried
by_state checked g b f course v d h =
    ap (λ (t : Bool). pick t (on_course checked g b f (decide accepted (build g) f)) (refused Refusal.Geometry f)) v
    ∙ ap (on_course checked g b f) d ∙ undamaged checked g b f course h
    ∙ ap (λ (l : List Op). answered checked g b course (steps (build g) l (start b f))) (sym (listed g f course v d))

pub as_listed_lem : (checked : Bool) (g : Geometry) (b : ℕ) (f : Flash) (course : Course) → valid (build g) f ≡ true
    → decide accepted (build g) f ≡ course → is_damage course ≡ false → full_start checked g b f ≡ as_listed checked g b f course
unfolding as_listed answered
as_listed_lem checked g b f course v d h =
    let ops : List Op = in_force accepted (build g) f in
    let n : b - (b - length ops) ≡ min b (length ops) = omega arith in
    by_state checked g b f course v d h
    ∙ ap (answered checked g b course) (bridge.in_force_steps accepted (build g) (sound g f v) b f)
    ∙ rw (n, ended_as checked g (run (build g) b ops f) (ltb b (length ops)))
