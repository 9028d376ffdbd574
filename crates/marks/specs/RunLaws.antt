-- The run of progress marks as loops go through it: mark by mark, from number 0 up to number n.
use Rattle.std.specs.Prelude.{◌≡◌, List, Bool, true, false, ◌&&◌, ltb}
use Rattle.std.proofs.Common.{sym, ◌∙◌, add-one}
use Rattle.std.proofs.Math.Path.{ap}
use Prim.Native.Nat.{ℕ, suc, ◌+◌, ◌-◌, ◌≤◌, ◌<◌}
use native.Mathlib.Omega.{arith}
use Rattle.spans.specs.Choice.{pick}
use Rattle.flash.specs.Build.{Build}
use Rattle.trailer.specs.Trailer.{mark_at, mark_of, is_unset, has_value, written, legal}
use Rattle.trailer.proofs.MarkRun.{written_none, written_more}

-- mark number k is as a run of c marks has it
abbrev pub fits_run : Build → List ℕ → ℕ → ℕ → Bool
fits_run g t c k = let m = mark_of g t (mark_at g k) in pick (ltb k c) (has_value (g.value k) m) (is_unset m)

module _ (g : Build) (t : List ℕ) (n k : ℕ) where
  written_end : n ≤ k → written g t k (n - k) ≡ 0
  unfolding written
  written_end h = let e : n - k ≡ 0 = omega arith in ap (written g t k) e

  count_ends : k < n → is_unset (mark_of g t (mark_at g k)) ≡ true → written g t k (n - k) ≡ 0
  count_ends h u =
      let e : n - k ≡ suc (n - (k + 1)) = omega arith in
      ap (written g t k) e ∙ written_none g t k (n - (k + 1)) u

  count_goes_on : k < n → is_unset (mark_of g t (mark_at g k)) ≡ false
      → written g t k (n - k) ≡ suc (written g t (k + 1) (n - (k + 1)))
  count_goes_on h u =
      let e : n - k ≡ suc (n - (k + 1)) = omega arith in
      ap (written g t k) e ∙ written_more g t k (n - (k + 1)) u ∙ ap (λ (i : ℕ). suc (written g t i (n - (k + 1)))) (sym (add-one k))

  -- the loop's invariant, and how it ends
  abbrev pub Counted : Type 0
  Counted = written g t 0 n ≡ k + written g t k (n - k)

  pub counted_end : Counted → n ≤ k → k ≡ written g t 0 n
  counted_end i h = omega (arith, i, written_end h)

  pub counted_here : Counted → k < n → is_unset (mark_of g t (mark_at g k)) ≡ true → k ≡ written g t 0 n
  counted_here i h u = omega (arith, i, count_ends h u)

  pub legal_end : (c : ℕ) → n ≤ k → legal g t c k (n - k) ≡ true
  unfolding legal
  legal_end c h = let e : n - k ≡ 0 = omega arith in ap (legal g t c k) e

  legal_step : (c : ℕ) → k < n → legal g t c k (n - k) ≡ (fits_run g t c k && legal g t c (k + 1) (n - (k + 1)))
  unfolding legal
  legal_step c h =
      let e : n - k ≡ suc (n - (k + 1)) = omega arith in
      ap (legal g t c k) e ∙ ap (λ (i : ℕ). fits_run g t c k && legal g t c i (n - (k + 1))) (sym (add-one k))

  pub legal_more : (c : ℕ) → k < n → fits_run g t c k ≡ true → legal g t c k (n - k) ≡ legal g t c (k + 1) (n - (k + 1))
  legal_more c h u = legal_step c h ∙ ap (λ (b : Bool). b && legal g t c (k + 1) (n - (k + 1))) u

  pub legal_fails : (c : ℕ) → k < n → fits_run g t c k ≡ false → legal g t c k (n - k) ≡ false
  legal_fails c h u = legal_step c h ∙ ap (λ (b : Bool). b && legal g t c (k + 1) (n - (k + 1))) u

pub counted_start : (g : Build) (t : List ℕ) (n : ℕ) → Counted g t n 0
counted_start g t n = let e : n - 0 ≡ n = omega arith in omega (arith, ap (written g t 0) e)

pub counted_more : (g : Build) (t : List ℕ) (n k : ℕ) → Counted g t n k → k < n
    → is_unset (mark_of g t (mark_at g k)) ≡ false → Counted g t n (k + 1)
counted_more g t n k i h u = omega (arith, i, count_goes_on g t n k h u)
