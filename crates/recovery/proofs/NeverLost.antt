-- For every sound build: an exchange that is cut any number of times ends as one that was never cut.
-- ---- an exchange that is due under C is not under way
use Rattle.recovery.specs.Statement.{never, AsNeverCut}
use Rattle.std.specs.Prelude.{◌≡◌, refl, List, Bool, true, false, ℕ, ◌≤◌, length, take, ltb}
use Rattle.std.proofs.Common.{sym, ap, ◌∙◌, arith, le-ltb}
use Rattle.spans.specs.Choice.{pick}
use Rattle.flash.specs.declared.End.TheVariants.{Going, Stopped}
use Rattle.flash.specs.Build.{slot0, slot1, scratch, Build, Flash, lent_bytes}
use Rattle.flash.specs.Operations.{run, run_all, State, steps, start}
use Rattle.trailer.specs.Trailer.{trailer, magic_of, is_good}
use Rattle.plan.specs.declared.Course.{Course}
use Rattle.plan.specs.declared.Course.TheVariants.{Damage, FromLineThree, Resume, Test, Permanent, Revert, Clear, Nothing}
use Rattle.plan.specs.Lists.{exchange}
use Rattle.plan.specs.AskedBefore.{by_a}
use Rattle.plan.specs.Decision.{step_a, step_b, state_c, asks, judged, decide, in_force}
use Rattle.recovery.specs.Cuts.{run_all_lem}
use Rattle.recovery.specs.Statement.{Failures, Exchange, by_test, by_permanent, by_revert, Due, Sound}
use Rattle.recovery.specs.Validity.{Valid, of_valid}
use Rattle.recovery.proofs.Follows.{Way, follows}
use Rattle.recovery.proofs.Bridge.{in_force_steps}

exchanges : Course → Bool
exchanges Damage = false
exchanges (FromLineThree p) = false
exchanges (Resume c) = false
exchanges Test = true
exchanges Permanent = true
exchanges Revert = true
exchanges Clear = false
exchanges Nothing = false

of_exchange : {course : Course} {p : Bool} → Exchange course p → exchanges course ≡ true
unfolding exchanges
of_exchange by_test = refl
of_exchange by_permanent = refl
of_exchange by_revert = refl

not_by_a : (g : Build) (t : List ℕ) (accepted : Bool) → exchanges (judged accepted (step_a g t)) ≡ false
unfolding exchanges judged
not_by_a g t accepted = by_a (λ c. exchanges (judged accepted c) ≡ false) (λ p. refl) refl g t

-- "with scratch magic not Good"
pub quiet : {check : List ℕ → Bool} {g : Build} {f : Flash} {course : Course} {p : Bool} → Due check g f course p
    → is_good (magic_of g (trailer g scratch f)) ≡ false
unfolding decide asks
quiet {check} {g} {f} {course} due = go (is_good (magic_of g t2)) due.decided
  where
    t0 : List ℕ
    t0 = trailer g slot0 f

    t2 : List ℕ
    t2 = trailer g scratch f

    accepted : Bool
    accepted = check (take (lent_bytes g).0 f.in1)

    go : (b : Bool) → judged accepted (pick b (step_a g t2) (step_b g t0 (state_c g t0 (trailer g slot1 f)))) ≡ course → b ≡ false
    go true h = sym (of_exchange due.which) ∙ ap exchanges (sym h) ∙ not_by_a g t2 accepted
    go false h = refl

-- ---- the theorem

module _ (check : List ℕ → Bool) {g : Build} (sound : Sound g) {f₀ : Flash} {course : Course} {p : Bool}
    (due : Due check g f₀ course p) where
  pub outcome_of : {f : Flash} → Failures g (in_force check g) f₀ f
      → (run_all g (in_force check g f) f ≡ run_all g (exchange g p) f₀) × Way check g p f₀ f
  outcome_of =
      let v : Valid g f₀ = of_valid g f₀ due.fits in
      follows check v.geo sound due.which f₀ due.fits v.sized (quiet due) due.decided

  module _ {f : Flash} (fs : Failures g (in_force check g) f₀ f) (b : ℕ) (enough : length (exchange g p) ≤ b) where
    -- where one power-up with an allowance for a whole exchange leads
    pub run_ends : run g b (in_force check g f) f ≡ run_all g (exchange g p) f₀
    run_ends =
        let o = outcome_of fs in
        run_all_lem g b (in_force check g f) f (omega (arith, o.1.short)) ∙ o.0

    pub steps_ends : (steps g (in_force check g f) (start b f)).flash ≡ run_all g (exchange g p) f₀
    steps_ends = ap (λ (s : State). s.flash) (in_force_steps check g sound b f) ∙ run_ends

    -- and nothing more is due
    pub steps_end : (steps g (in_force check g f) (start b f)).run.end ≡ Going
    steps_end =
        let n : ℕ = length (in_force check g f) in
        let e : ltb b n ≡ false = le-ltb b n (omega (arith, (outcome_of fs).1.short)) in
        ap (λ (s : State). s.run.end) (in_force_steps check g sound b f) ∙ ap (λ (x : Bool). pick x Stopped Going) e

-- all of it, for every sound build
pub never_lost : (check : List ℕ → Bool) {g : Build} → Sound g → {f f' : Flash} {course : Course} {p : Bool}
    → Due check g f course p → Failures g (in_force check g) f f' → (b : ℕ) → length (exchange g p) ≤ b → AsNeverCut check g p b f f'
never_lost check sound due fs b enough =
    let r = run_ends check sound due fs b enough in
    let s = steps_ends check sound due fs b enough in
    record {
      whole = r;
      areas = r ∙ sym (run_ends check sound due never b enough);
      carried = s ∙ sym (steps_ends check sound due never b enough);
      same = s ∙ sym r;
      ended = steps_end check sound due fs b enough;
    }
