-- When a start answers Stopped.
use Rattle.std.specs.Prelude.{◌≡◌, refl, List, Bool, true, false, ℕ, ◌<◌, length, ltb, Ok, Err}
use Rattle.std.proofs.Common.{sym, ap, ◌∙◌, arith, ltb-true}
use Rattle.spans.specs.Choice.{pick}
use Rattle.flash.specs.declared.Geometry.{Geometry}
use Rattle.flash.specs.Build.{Flash, valid}
use Rattle.flash.specs.Base.{build}
use Rattle.flash.specs.Operations.{Op, run}
use Rattle.causes.specs.Check.{Header, Verdict, head, check, accepted}
use Rattle.plan.specs.Decision.{decide, in_force}
use Rattle.answers.specs.declared.Answer.{Answer}
use Rattle.answers.specs.declared.Refusal.{Refusal}
use Rattle.answers.specs.declared.Outcome.{Outcome}
use Rattle.loader.specs.PowerUp.{Result, judged_start, started, data_of, boot_of, refused, is_damage, full_start}
use Rattle.loader.specs.Results.{damaged}
use Rattle.demands.specs.Promise.{Start}
use Rattle.demands.specs.Statement.{as_listed}
use Rattle.demands.proofs.AsListed.{as_listed_lem}

-- slot 0, once it is looked at, is booted or refused
not_stopped : (checked : Bool) (h : Header) (v : Verdict) → started checked h v ≡ Outcome.Stopped → ⊥
unfolding started judged_start
not_stopped checked (Err c) v e = let z : ◌≡◌ {A = ℕ} 0 1 = cc in omega arith
not_stopped false (Ok t) v e = let z : ◌≡◌ {A = ℕ} 0 1 = cc in omega arith
not_stopped true (Ok t) (Ok tt) e = let z : ◌≡◌ {A = ℕ} 0 1 = cc in omega arith
not_stopped true (Ok t) (Err c) e = let z : ◌≡◌ {A = ℕ} 0 1 = cc in omega arith

refusal : (r : Refusal) → Outcome.Refused r ≡ Outcome.Stopped → ⊥
refusal r e = let z : ◌≡◌ {A = ℕ} 0 1 = cc in omega arith

-- "It is Stopped only if another operation is due."
pub stopped_due : {checked : Bool} {g : Geometry} {b : ℕ} {f f' : Flash} {a : Answer} → Start checked g b f a f'
    → a.outcome ≡ Outcome.Stopped → b < length (in_force accepted (build g) f)
unfolding full_start refused as_listed boot_of
stopped_due {checked} {g} {b} {f} q s =
    go (valid (build g) f) refl (is_damage (decide accepted (build g) f)) refl (sym (ap outcome q.promised) ∙ s)
  where
    outcome : Result → Outcome
    outcome r = r.answer.outcome

    ops : List Op
    ops = in_force accepted (build g) f

    slot0_data : List ℕ
    slot0_data = data_of g (run (build g) b ops f).in0

    short : (t : Bool) → ltb b (length ops) ≡ t → pick t Outcome.Stopped (started checked (head slot0_data) (check slot0_data)) ≡ Outcome.Stopped
        → b < length ops
    short true e h = ltb-true b (length ops) e
    short false e h = absurd (not_stopped checked (head slot0_data) (check slot0_data) h)

    go : (v : Bool) → valid (build g) f ≡ v → (d : Bool) → is_damage (decide accepted (build g) f) ≡ d
        → outcome (full_start checked g b f) ≡ Outcome.Stopped → b < length ops
    go false v d e h = let r : Outcome.Refused Refusal.Geometry ≡ Outcome.Stopped = rw v at h in absurd (refusal Refusal.Geometry r)
    go true v true e h =
        let r : Outcome.Refused Refusal.Damage ≡ Outcome.Stopped = rw (v, damaged checked g b f (decide accepted (build g) f) e) at h in
        absurd (refusal Refusal.Damage r)
    go true v false e h =
        short (ltb b (length ops)) refl (sym (ap outcome (as_listed_lem checked g b f (decide accepted (build g) f) v refl e)) ∙ h)
