-- Starts with the least allowance one after the other: with an allowance for a move and its mark an exchange is done after so many, and with
-- fewer none comes past a move.
use Rattle.std.specs.Prelude.{◌≡◌, List, ◌∷◌, Bool, length}
use Prim.Native.Nat.{ℕ, ◌+◌, ◌≤◌, ◌<◌}
use Rattle.flash.specs.Build.{Build, Flash, Move}
use Rattle.flash.specs.Operations.{run_all}
use Rattle.plan.specs.declared.Course.{Course}
use Rattle.plan.specs.Lists.{exchange}
use Rattle.plan.specs.Decision.{in_force}
use Rattle.recovery.specs.All.{All}
use Rattle.recovery.specs.Places.{per}
use Rattle.recovery.specs.Statement.{Failures, FinishedBy, AllStopped, Due, Sound}
use Rattle.recovery.specs.Validity.{Valid, of_valid}
use Rattle.recovery.proofs.Follows.{follows_on, follows_never}
use Rattle.recovery.proofs.NeverLost.{quiet}

-- for every sound build; f₀ is where the exchange was due, f what any failures since have left
module _ (check : List ℕ → Bool) {g : Build} (sound : Sound g) {f₀ : Flash} {course : Course} {p : Bool}
    (due : Due check g f₀ course p) {f : Flash} (fs : Failures g (in_force check g) f₀ f) where
  pub done_by_starts : (bs : List ℕ) → All (λ (b : ℕ). per g + 2 ≤ b) bs → length g.moves + 2 ≤ length bs
      → FinishedBy g (in_force check g) (run_all g (exchange g p) f₀) bs f
  done_by_starts =
      let v : Valid g f₀ = of_valid g f₀ due.fits in
      follows_on check v.geo sound due.which f₀ due.fits v.sized (quiet due) due.decided v.large fs

  pub never_done : {m : Move} {ms : List Move} → g.moves ≡ m ∷ ms → 1 < length (in_force check g f)
      → (bs : List ℕ) → All (λ (b : ℕ). b ≤ per g + 1) bs → AllStopped g (in_force check g) bs f
  never_done e =
      let v : Valid g f₀ = of_valid g f₀ due.fits in
      follows_never check v.geo sound due.which f₀ due.fits v.sized (quiet due) due.decided e fs
