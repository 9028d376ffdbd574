-- The least allowance. A start that is stopped amid a move leaves it without its mark, and the next start begins it again from its
-- erase. With an allowance for a move and its mark, s/w + 2, each start leaves a longer run of marks, and an exchange of m sectors is
-- done after 3m + 2 starts at the most: one for the trailer exchange, one for each move, one for copy done. With fewer, none comes past
-- a move.
use Rattle.std.specs.Prelude.{◌≡◌, List, Bool, length}
use Rattle.std.proofs.Common.{ap, arith}
use Prim.Native.Nat.{ℕ, suc, ◌+◌, ◌*◌, ◌-◌, ◌/◌, ◌≤◌, ◌<◌}
use Rattle.flash.specs.Build.{Flash}
use Rattle.flash.specs.Operations.{run_all}
use Rattle.flash.specs.Base.{base, three_moves, all_moves}
use Rattle.flash.specs.BaseLaws.{length_moves}
use Rattle.plan.specs.declared.Course.{Course}
use Rattle.plan.specs.Lists.{exchange}
use Rattle.plan.specs.Decision.{in_force}
use Rattle.recovery.specs.All.{All, all_map}
use Rattle.recovery.specs.Statement.{Failures, FinishedBy, AllStopped, Due}
use Rattle.recovery.specs.Validity.{Valid, of_valid}
use Rattle.recovery.proofs.DoneByStarts.{done_by_starts, never_done}
use Rattle.recovery.specs.BaseMoves.{base_sound}

-- for document 01's builds
module _ (check : List ℕ → Bool) (w s n : ℕ) {f₀ : Flash} {course : Course} {p : Bool} (due : Due check (base w s n) f₀ course p)
    {f : Flash} (fs : Failures (base w s n) (in_force check (base w s n)) f₀ f) where
  pub least_allowance : (bs : List ℕ) → All (λ (b : ℕ). s / w + 2 ≤ b) bs → 3 * (n - 1) + 2 ≤ length bs
      → FinishedBy (base w s n) (in_force check (base w s n)) (run_all (base w s n) (exchange (base w s n) p) f₀) bs f
  unfolding base
  least_allowance bs hs l =
      let v : Valid (base w s n) f₀ = of_valid (base w s n) f₀ due.fits in
      done_by_starts check (base_sound w s n (omega (arith, v.geo.two))) due fs bs hs (omega (arith, length_moves (n - 1)))

  -- s/w + 2 is the least: with fewer, no number of starts ends an exchange of which more is left than copy done
  pub fewer_never_end : 1 < length (in_force check (base w s n) f) → (bs : List ℕ) → All (λ (b : ℕ). b < s / w + 2) bs
      → AllStopped (base w s n) (in_force check (base w s n)) bs f
  unfolding base all_moves three_moves
  fewer_never_end l bs hs =
      let v : Valid (base w s n) f₀ = of_valid (base w s n) f₀ due.fits in
      let k : n - 1 ≡ suc (n - 2) = omega (arith, v.geo.two) in
      never_done check (base_sound w s n (omega (arith, v.geo.two))) due fs (ap all_moves k) l bs (all_map (λ b h. omega arith) hs)
