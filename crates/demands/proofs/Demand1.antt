-- DEMAND 1. Whatever the three areas hold, a power-up ends with a boot offset, a stop at its allowance, or a refusal numbered 1 to 4;
-- a wrong geometry and damaged marks are refused before anything is written. (That no memory outside the areas is touched, and that
-- every call returns, is what a proved Rattle function is: the prover accepts no other.)
use Rattle.std.specs.Prelude.{◌≡◌, refl, List, Bool, true, false, ℕ, ◌≤◌, length, ltb, Ok, Err}
use Rattle.std.proofs.Common.{sym, subst, ◌∙◌, arith}
use Rattle.std.proofs.Math.Path.{ap}
use Rattle.spans.specs.Choice.{pick}
use Rattle.flash.specs.declared.Geometry.{Geometry}
use Rattle.flash.specs.Build.{Flash, valid}
use Rattle.flash.specs.Base.{build}
use Rattle.flash.specs.Operations.{run}
use Rattle.causes.specs.Check.{Header, Verdict, head, check, accepted}
use Rattle.plan.specs.declared.Course.{Course}
use Rattle.plan.specs.declared.Course.TheVariants.{Damage}
use Rattle.plan.specs.Decision.{decide, in_force}
use Rattle.answers.specs.declared.Answer.{Answer}
use Rattle.answers.specs.declared.Refusal.{Refusal}
use Rattle.answers.specs.declared.Outcome.{Outcome}
use Rattle.answers.specs.Numbers.{refusal_number}
use Rattle.loader.specs.PowerUp.{Result, judged_start, started, data_of, boot_of, refused, is_damage, on_course, full_start}
use Rattle.loader.specs.Results.{damaged}
use Rattle.demands.specs.Promise.{Start}
use Rattle.demands.specs.Statement.{Ends, boots, stops, refuses, as_listed}
use Rattle.demands.proofs.AsListed.{as_listed_lem}

booted : (checked : Bool) (h : Header) (v : Verdict) → Ends (started checked h v)
unfolding started judged_start
booted checked (Err c) v = refuses Refusal.Header (omega arith) (omega arith)
booted false (Ok t) v = boots t.header
booted true (Ok t) (Ok tt) = boots t.header
booted true (Ok t) (Err c) = refuses (Refusal.Image c) (omega arith) (omega arith)

listed_ends : (checked : Bool) (g : Geometry) (b : ℕ) (f : Flash) (course : Course) → Ends (as_listed checked g b f course).answer.outcome
unfolding as_listed boot_of
listed_ends checked g b f course = go (ltb b (length (in_force accepted (build g) f)))
  where
    bytes_of_data : List ℕ
    bytes_of_data = data_of g (run (build g) b (in_force accepted (build g) f) f).in0

    go : (t : Bool) → Ends (pick t Outcome.Stopped (started checked (head bytes_of_data) (check bytes_of_data)))
    go true = stops
    go false = booted checked (head bytes_of_data) (check bytes_of_data)

start_ends : (checked : Bool) (g : Geometry) (b : ℕ) (f : Flash) → Ends (full_start checked g b f).answer.outcome
unfolding full_start refused
start_ends checked g b f = go (valid (build g) f) refl (is_damage (decide accepted (build g) f)) refl
  where
    outcome : Result → Outcome
    outcome r = r.answer.outcome

    go : (v : Bool) → valid (build g) f ≡ v → (d : Bool) → is_damage (decide accepted (build g) f) ≡ d → Ends
        (full_start checked g b f).answer.outcome
    go false v d h = rw v (refuses Refusal.Geometry (omega arith) (omega arith))
    go true v true h = rw (v, damaged checked g b f (decide accepted (build g) f) h) (refuses Refusal.Damage (omega arith) (omega arith))
    go true v false h = subst Ends (sym (ap outcome (as_listed_lem checked g b f (decide accepted (build g) f) v refl h)))
        (listed_ends checked g b f (decide accepted (build g) f))

pub demand_1 : {checked : Bool} {g : Geometry} {b : ℕ} {f f' : Flash} {a : Answer} → Start checked g b f a f' → Ends a.outcome
demand_1 {checked} {g} {b} {f} q = subst Ends (sym (ap (λ (r : Result). r.answer.outcome) q.promised)) (start_ends checked g b f)

-- A refusal of a power-up is one of 1 to 4 (each of them comes: `starred`). 5 to 7 are those of marking and confirming; 8 does not come.
module _ {checked : Bool} {g : Geometry} {b : ℕ} {f f' : Flash} {a : Answer} (q : Start checked g b f a f') (r : Refusal)
    (e : a.outcome ≡ Outcome.Refused r) where
  ends_so : Ends (Outcome.Refused r)
  ends_so = subst Ends e (demand_1 q)

  pub refusal_from_1 : 1 ≤ refusal_number r
  refusal_from_1 = go ends_so
    where
      go : Ends (Outcome.Refused r) → 1 ≤ refusal_number r
      go (refuses r l h) = l

  pub refusal_to_4 : refusal_number r ≤ 4
  refusal_to_4 = go ends_so
    where
      go : Ends (Outcome.Refused r) → refusal_number r ≤ 4
      go (refuses r l h) = h

-- "1 .. as before", "2 .. as before", with none done and count 0
module _ {checked : Bool} {g : Geometry} {b : ℕ} {f f' : Flash} {a : Answer} (q : Start checked g b f a f') where
  unanswered : (r : Refusal) → full_start checked g b f ≡ refused r f → (a ≡ (refused r f).answer) × (f' ≡ f)
  unfolding refused
  unanswered r e = (ap (λ (x : Result). x.answer) (q.promised ∙ e), ap (λ (x : Result). x.flash) (q.promised ∙ e))

  pub misfit_untouched : valid (build g) f ≡ false → (a ≡ (refused Refusal.Geometry f).answer) × (f' ≡ f)
  unfolding full_start
  misfit_untouched v = unanswered Refusal.Geometry (rw v)

  pub damage_untouched : valid (build g) f ≡ true → decide accepted (build g) f ≡ Damage → (a ≡ (refused Refusal.Damage f).answer) × (f' ≡ f)
  unfolding full_start on_course
  damage_untouched v d = unanswered Refusal.Damage (rw (v, d))
