-- What stands from a place on, where the place is cut down to the end of the bytes.
use Rattle.std.specs.Prelude.{◌≡◌, refl, List, [], ◌∷◌, Bool, true, false, ℕ, zero, suc, ◌-◌, ◌≤◌, min, length, take, drop, ltb}
use Rattle.std.proofs.Common.{sym, ap, ◌∙◌, arith, length-drop, ltb-true, ltb-false, take_all}
use Rattle.std.proofs.Math.Seq.{drop-nil}

past : (xs : List ℕ) (i : ℕ) → length xs ≤ i → drop i xs ≡ []
past [] i h = drop-nil i
past (x ∷ xs) zero h = absurd (omega arith)
past (x ∷ xs) (suc i) h = past xs i (omega arith)

pub drop_least : (xs : List ℕ) (at i : ℕ) → i ≡ min at (length xs) → take (length xs - i) (drop i xs) ≡ drop at xs
drop_least xs at i e = take_all (length xs - i) (drop i xs) (simp length-drop (omega arith)) ∙ go (ltb at (length xs)) refl
  where
    go : (b : Bool) → ltb at (length xs) ≡ b → drop i xs ≡ drop at xs
    go true l =
        let h = ltb-true at (length xs) l in
        let k : i ≡ at = omega arith in
        ap (λ (n : ℕ). drop n xs) k
    go false l =
        let h = ltb-false at (length xs) l in
        let k : length xs ≤ i = omega arith in
        past xs i k ∙ sym (past xs at h)
