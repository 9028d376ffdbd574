-- What the count of written marks tells: each of them is written, and the next one, if there is one, is not.
use Rattle.std.specs.Prelude.{◌≡◌, List, Bool}
use Rattle.std.proofs.Math.Path.{refl, ap}
use Rattle.std.proofs.Common.{◌∙◌, add-zero}
use Rattle.std.proofs.Math.Bool.{true, false}
use Prim.Native.Nat.{ℕ, zero, suc, ◌+◌, ◌<◌}
use native.Mathlib.Omega.{arith}
use Rattle.flash.specs.Build.{Build}
use Rattle.trailer.specs.Trailer.{mark_at, mark_of, is_unset, written}

module _ (g : Build) (t : List ℕ) where
  -- mark number k is Unset
  unset : ℕ → Bool
  unset k = is_unset (mark_of g t (mark_at g k))

  -- an erased mark ends the run, and is not counted
  pub written_none : (k r : ℕ) → is_unset (mark_of g t (mark_at g k)) ≡ true → written g t k (suc r) ≡ 0
  unfolding written
  written_none k r e = rw e

  pub written_more : (k r : ℕ) → is_unset (mark_of g t (mark_at g k)) ≡ false → written g t k (suc r) ≡ suc (written g t (suc k) r)
  unfolding written
  written_more k r e = rw e

  pub written_before : (k r i : ℕ) → i < written g t k r → is_unset (mark_of g t (mark_at g (k + i))) ≡ false
  unfolding unset written
  written_before k zero i h = absurd (omega arith)
  written_before k (suc r) i h = go (unset k) refl (written_before (suc k) r) i h
    where
      go : (b : Bool) → unset k ≡ b → ((i : ℕ) → i < written g t (suc k) r → unset (suc k + i) ≡ false)
          → (i : ℕ) → i < written g t k (suc r) → unset (k + i) ≡ false
      go true e ih i h = absurd (omega (arith, written_none k r e))
      go false e ih zero h = ap unset (add-zero k) ∙ e
      go false e ih (suc i) h =
          let s : k + suc i ≡ suc k + i = omega arith in
          ap unset s ∙ ih i (omega (arith, written_more k r e))

  pub written_after : (k r : ℕ) → written g t k r < r → is_unset (mark_of g t (mark_at g (k + written g t k r))) ≡ true
  unfolding unset
  written_after k zero h = absurd (omega arith)
  written_after k (suc r) h = go (unset k) refl (written_after (suc k) r)
    where
      go : (b : Bool) → unset k ≡ b → (written g t (suc k) r < r → unset (suc k + written g t (suc k) r) ≡ true)
          → unset (k + written g t k (suc r)) ≡ true
      go true e ih =
          let s : k + written g t k (suc r) ≡ k = omega (arith, written_none k r e) in
          ap unset s ∙ e
      go false e ih =
          let s : k + written g t k (suc r) ≡ suc k + written g t (suc k) r = omega (arith, written_more k r e) in
          ap unset s ∙ ih (omega (arith, written_more k r e))
