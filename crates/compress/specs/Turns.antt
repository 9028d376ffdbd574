-- The turns of 6.2.2, as the code takes them.
use Rattle.std.specs.Prelude.{◌≡◌, ℕ, ◌+◌, List, slice_index}
use Rattle.std.proofs.Math.Path.{refl}
use Rattle.std.proofs.Common.{ap, add-one, arith}
use Rattle.fips.specs.Fips.{Eight, round, rounds, K}

-- the turn for t
unfoldable pub turn : List ℕ → Eight → ℕ → Eight
turn W v t = round v (slice_index K t) (slice_index W t)

-- the turns for t to t + 7
unfoldable pub eight_turns : List ℕ → Eight → ℕ → Eight
eight_turns W v t =
    turn W (turn W (turn W (turn W (turn W (turn W (turn W (turn W v t) (t + 1)) (t + 2)) (t + 3)) (t + 4)) (t + 5)) (t + 6)) (t + 7)

pub eight_of : (W : List ℕ) (t : ℕ) (v v₁ v₂ v₃ v₄ v₅ v₆ v₇ v₈ : Eight) → v₁ ≡ turn W v t → v₂ ≡ turn W v₁ (t + 1)
    → v₃ ≡ turn W v₂ (t + 2) → v₄ ≡ turn W v₃ (t + 3) → v₅ ≡ turn W v₄ (t + 4) → v₆ ≡ turn W v₅ (t + 5)
    → v₇ ≡ turn W v₆ (t + 6) → v₈ ≡ turn W v₇ (t + 7) → v₈ ≡ eight_turns W v t
unfolding eight_turns
eight_of W t v v₁ v₂ v₃ v₄ v₅ v₆ v₇ v₈ e₁ e₂ e₃ e₄ e₅ e₆ e₇ e₈ = cc

pub rounds_none : (W : List ℕ) (v : Eight) → v ≡ rounds W v 0
unfolding rounds
rounds_none W v = refl

module _ (W : List ℕ) (v₀ : Eight) where
  pub rounds_next : (v : Eight) (t u : ℕ) → u ≡ t + 1 → v ≡ rounds W v₀ t → turn W v t ≡ rounds W v₀ u
  unfolding turn rounds
  rounds_next v t u e h = rw (e, add-one) (ap (λ (x : Eight). round x (slice_index K t) (slice_index W t)) h)

  pub rounds_eight : (v : Eight) (t : ℕ) → v ≡ rounds W v₀ t → eight_turns W v t ≡ rounds W v₀ (t + 8)
  unfolding eight_turns
  rounds_eight v t h =
      rounds_next _ (t + 7) (t + 8) (omega arith) (rounds_next _ (t + 6) (t + 7) (omega arith) (rounds_next _ (t + 5) (t + 6) (omega arith)
      (rounds_next _ (t + 4) (t + 5) (omega arith) (rounds_next _ (t + 3) (t + 4) (omega arith) (rounds_next _ (t + 2) (t + 3) (omega arith)
      (rounds_next _ (t + 1) (t + 2) (omega arith) (rounds_next v t (t + 1) refl h)))))))
