-- The least allowance, over what the code promises. From an exchange that is due, after any failures, starts with allowances of at least
-- s/w + 2 operations are all Stopped but the last, which boots what was checked and leaves the areas as an exchange that was never
-- cut; 3m + 2 of them are enough. With fewer operations, as long as more is left than copy done, they are all Stopped, however many.
use Rattle.std.specs.Prelude.{◌≡◌, refl, Bool, length}
use Rattle.std.proofs.Math.Path.{ap}
use Rattle.std.proofs.Common.{◌∙◌, le-ltb, lt-ltb}
use mathlib.Core.List.{List}
use Prim.Native.Nat.{ℕ, ◌+◌, ◌*◌, ◌-◌, ◌/◌, ◌≤◌, ◌<◌}
use Rattle.flash.specs.declared.Geometry.{Geometry}
use Rattle.flash.specs.Build.{Flash}
use Rattle.flash.specs.Base.{build}
use Rattle.flash.specs.Operations.{run, run_all}
use Rattle.causes.specs.Header.{header_size}
use Rattle.causes.specs.Check.{head, check, accepted}
use Rattle.causes.proofs.Theorem.{accepts_images}
use Rattle.plan.specs.declared.Course.{Course}
use Rattle.plan.specs.Lists.{exchange}
use Rattle.plan.specs.Decision.{decide, in_force}
use Rattle.recovery.specs.All.{All}
use Rattle.recovery.specs.Cuts.{stopped_cut}
use Rattle.recovery.specs.Statement.{Failures, again, FinishedBy, at_last, once_more, AllStopped, no_more, once_more_stopped, Due}
use Rattle.recovery.proofs.NeverLost.{outcome_of}
use Rattle.recovery.specs.BaseMoves.{base_swaps}
use Rattle.recovery.specs.Validity.{of_valid}
use Rattle.recovery.proofs.LeastAllowance as recovery
use Rattle.answers.specs.declared.Outcome.{Outcome}
use Rattle.loader.specs.PowerUp.{Result, started, data_of, boot_of, full_start}
use Rattle.demands.specs.Statement.{as_listed, Starts, the_last, stopped, AllStop, no_start, stops_too}
use Rattle.demands.proofs.AsListed.{sound, as_listed_lem}
use Rattle.demands.proofs.Causes.{at_d, boots}
use Rattle.demands.proofs.Demand2.{exchange_of_image}
use Rattle.demands.proofs.Boots.{swapped_data, not_damage}

-- as an exchange that was never cut
abbrev exchanged : Geometry → Bool → Flash → Flash
exchanged g p f₀ = run_all (build g) (exchange (build g) p) f₀

module _ (checked : Bool) (g : Geometry) {f₀ : Flash} {course : Course} {p : Bool} (due : Due accepted (build g) f₀ course p) where
  -- after any failures a start is answered by the list in force
  listed : {f : Flash} → Failures (build g) (in_force accepted (build g)) f₀ f → (b : ℕ)
      → full_start checked g b f ≡ as_listed checked g b f (decide accepted (build g) f)
  listed {f} fs b =
      let way = (outcome_of accepted (sound g f₀ due.fits) due fs).1 in
      as_listed_lem checked g b f (decide accepted (build g) f) way.fits refl (not_damage (decide accepted (build g) f) way.undamaged)

  answers_stopped : {f : Flash} → Failures (build g) (in_force accepted (build g)) f₀ f
      → (b : ℕ) → b < length (in_force accepted (build g) f)
      → ((full_start checked g b f).answer.outcome ≡ Outcome.Stopped)
      × ((full_start checked g b f).flash ≡ run (build g) b (in_force accepted (build g) f) f)
  unfolding as_listed
  answers_stopped {f} fs b l = (
    ap (λ (r : Result). r.answer.outcome) (listed fs b) ∙ rw (lt-ltb b (length (in_force accepted (build g) f)) l),
    ap (λ (r : Result). r.flash) (listed fs b),
  )

  -- starts of the list in force are starts of the loader
  as_started : {bs : List ℕ} {f : Flash} → Failures (build g) (in_force accepted (build g)) f₀ f
      → FinishedBy (build g) (in_force accepted (build g)) (exchanged g p f₀) bs f
      → Starts checked g (boot_of checked g (exchanged g p f₀)) (exchanged g p f₀) bs f
  unfolding as_listed
  as_started fs (at_last {b} {bs} {f} l e) =
      the_last (ap (λ (r : Result). r.answer.outcome) (listed fs b)
      ∙ rw (le-ltb b (length (in_force accepted (build g) f)) l) (ap (boot_of checked g) e))
      (ap (λ (r : Result). r.flash) (listed fs b) ∙ e)
  as_started fs (once_more {b} {bs} {f} l more) =
      let s = answers_stopped fs b l in
      let rest : Starts checked g (boot_of checked g (exchanged g p f₀)) (exchanged g p f₀) bs (full_start checked g b f).flash =
      rw s.1 (as_started (again fs (stopped_cut (build g) b (in_force accepted (build g) f) f l)) more) in
      stopped s.0 rest

  as_stopped : {bs : List ℕ} {f : Flash} → Failures (build g) (in_force accepted (build g)) f₀ f
      → AllStopped (build g) (in_force accepted (build g)) bs f → AllStop checked g bs f
  as_stopped fs no_more = no_start
  as_stopped fs (once_more_stopped {b} {bs} {f} l more) =
      let s = answers_stopped fs b l in
      let rest : AllStop checked g bs (full_start checked g b f).flash =
      rw s.1 (as_stopped (again fs (stopped_cut (build g) b (in_force accepted (build g) f) f l)) more) in
      stops_too s.0 rest

  -- slot 0 then holds the image that was checked
  boots_exchanged : boot_of checked g (exchanged g p f₀) ≡ Outcome.Boot (header_size (data_of g f₀.in1))
  unfolding boot_of
  boots_exchanged =
      let xs : List ℕ = data_of g f₀.in1 in
      ap (λ (ys : List ℕ). started checked (head ys) (check ys)) (swapped_data g f₀ (exchanged g p f₀)
      (base_swaps g.unit g.sector g.sectors f₀ p (of_valid (build g) f₀ due.fits)))
      ∙ boots (at_d xs checked) (accepts_images xs (exchange_of_image g f₀ due.which due.decided))

  pub least_allowance : {f : Flash} → Failures (build g) (in_force accepted (build g)) f₀ f
      → (bs : List ℕ) → All (λ (b : ℕ). g.sector / g.unit + 2 ≤ b) bs → 3 * (g.sectors - 1) + 2 ≤ length bs
      → Starts checked g (Outcome.Boot (header_size (data_of g f₀.in1))) (run_all (build g) (exchange (build g) p) f₀) bs f
  least_allowance fs bs hs l =
      rw (← boots_exchanged) (as_started fs (recovery.least_allowance accepted g.unit g.sector g.sectors due fs bs hs l))

  pub fewer_never_end : {f : Flash} → Failures (build g) (in_force accepted (build g)) f₀ f
      → 1 < length (in_force accepted (build g) f)
      → (bs : List ℕ) → All (λ (b : ℕ). b < g.sector / g.unit + 2) bs → AllStop checked g bs f
  fewer_never_end fs l bs hs =
      as_stopped fs (recovery.fewer_never_end accepted g.unit g.sector g.sectors due fs l bs hs)
