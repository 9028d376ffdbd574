-- Laws of runs of one byte, of stores one after the other, and of parts of parts.
use Rattle.std.specs.Prelude.{◌≡◌, refl, List, [], ◌∷◌, ◌++◌, ℕ, zero, suc, ◌+◌, ◌-◌, ◌≤◌, length, take, drop, set, replicate}
use Rattle.std.proofs.Common.{sym, ap, ◌∙◌, zero-add, arith, length-append, length-take, take_at}
use Rattle.std.proofs.Math.Nat.{sub-zero, zero-sub, suc-sub-suc}
use Rattle.std.proofs.lemmas.List.{length-replicate}
use Rattle.std.proofs.Math.Seq.{take-nil}
use Rattle.spans.specs.Bytes.{put}
use Rattle.spans.specs.Laws.{put_is, put_join, set_put, put_next}

-- four bytes stored one after the other, as straight code has it
pub put_four : (xs : List ℕ) (at a b c d : ℕ)
    → set (set (set (set xs at a) (at + 1) b) (at + 2) c) (at + 3) d ≡ put xs at (a ∷ b ∷ c ∷ d ∷ [])
put_four xs at a b c d =
    rw (set_put xs at a, put_next xs at (a ∷ []) b (at + 1) refl, put_next xs at (a ∷ b ∷ []) c (at + 2) refl)
    (put_next xs at (a ∷ b ∷ c ∷ []) d (at + 3) refl)

-- two puts that join are one, where the place is known by an equation
pub put_on : (xs : List ℕ) (at : ℕ) (ys zs : List ℕ) (i : ℕ) → i ≡ at + length ys → put (put xs at ys) i zs ≡ put xs at (ys ++ zs)
put_on xs at ys zs i e = ap (λ (n : ℕ). put (put xs at ys) n zs) e ∙ put_join xs at ys zs

pub drop_replicate : (k n a : ℕ) → drop k (replicate n a) ≡ replicate (n - k) a
drop_replicate zero n a = rw sub-zero refl
drop_replicate (suc k) zero a = rw zero-sub refl
drop_replicate (suc k) (suc n) a = drop_replicate k n a ∙ rw suc-sub-suc refl

pub take_replicate : (k n a : ℕ) → k ≤ n → take k (replicate n a) ≡ replicate k a
take_replicate zero n a h = refl
take_replicate (suc k) zero a h = absurd (omega arith)
take_replicate (suc k) (suc n) a h = ap {B = List ℕ} (λ r. a ∷ r) (take_replicate k n a (omega arith))

pub drop_take : (k n : ℕ) (xs : List ℕ) → drop k (take n xs) ≡ take (n - k) (drop k xs)
drop_take zero n xs = rw sub-zero refl
drop_take (suc k) zero xs = rw zero-sub refl
drop_take (suc k) (suc n) [] = sym (take-nil (suc n - suc k))
drop_take (suc k) (suc n) (x ∷ xs) = drop_take k n xs ∙ rw suc-sub-suc refl

-- a put at the front of a run
pub put_run : (n a : ℕ) (ys : List ℕ) → length ys ≤ n → put (replicate n a) 0 ys ≡ ys ++ replicate (n - length ys) a
put_run n a ys h =
    let l : 0 + length ys ≤ length (replicate n a) = simp length-replicate (omega arith) in
    put_is (replicate n a) 0 ys l ∙ ap (λ (k : ℕ). ys ++ drop k (replicate n a)) (zero-add (length ys))
    ∙ ap (λ (r : List ℕ). ys ++ r) (drop_replicate (length ys) n a)

-- what stands up to the end of a put
pub take_put : (xs : List ℕ) (at : ℕ) (ys : List ℕ) (n : ℕ) → n ≡ at + length ys → n ≤ length xs
    → take n (put xs at ys) ≡ take at xs ++ ys
take_put xs at ys n e h =
    let l : length (take at xs ++ ys) ≡ n = simp (length-append, length-take) (omega arith) in
    ap (take n) (put_is xs at ys (omega arith)) ∙ take_at (take at xs ++ ys) (drop (at + length ys) xs) n l
