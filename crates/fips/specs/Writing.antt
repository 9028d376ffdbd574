-- A word written at a place: byte by byte, or by `copy_from_slice`, which leaves `put_mid`.
use Rattle.std.specs.Prelude.{◌≡◌, List, ◌++◌, ℕ, ◌+◌, ◌-◌, ◌≤◌, ◌/◌, ◌%◌, ◌^◌, length, set, take, drop, refl}
use Rattle.std.specs.Int.{w32, to_be_bytes}
use Rattle.std.proofs.Common.{sym, ap, ◌∙◌, arith, append_assoc, div-one, drop-drop}
use borrow.Rule.Slice.PartMut.{put_mid}
use Rattle.spans.specs.Bytes.{put}
use Rattle.spans.specs.Laws.{put_is}
use Rattle.spans.specs.Runs.{put_four}
use Rattle.spans.specs.Words.{bytes_of}

pub put_word : (xs : List ℕ) (at x a b c d : ℕ) → a ≡ x / 2 ^ 24 % 256 → b ≡ x / 2 ^ 16 % 256 → c ≡ x / 2 ^ 8 % 256
    → d ≡ x % 256 → set (set (set (set xs at a) (at + 1) b) (at + 2) c) (at + 3) d ≡ put xs at (bytes_of 4 x)
unfolding bytes_of
put_word xs at x a b c d p q r s = rw (div-one, ← p, ← q, ← r, ← s) (put_four xs at a b c d)

-- any bytes in the place of as many
pub put_part : (xs : List ℕ) (at k : ℕ) (ys : List ℕ) → k ≡ length ys → at + length ys ≤ length xs → put_mid at k xs ys ≡ put xs at ys
put_part xs at k ys e h =
    sym (append_assoc (take at xs) ys (drop k (drop at xs)))
    ∙ ap (λ (r : List ℕ). take at xs ++ ys ++ r) (drop-drop k at xs ∙ ap (λ (n : ℕ). drop (at + n) xs) e) ∙ sym (put_is xs at ys h)

-- the library's four bytes of a word
pub put_be_bytes : (xs : List ℕ) (at x : ℕ) (ys : List ℕ) → ys ≡ to_be_bytes w32 x → at + 4 ≤ length xs
    → put_mid at (at + 4 - at) xs ys ≡ put xs at (bytes_of 4 x)
unfolding bytes_of
put_be_bytes xs at x ys e h =
    let b : ys ≡ bytes_of 4 x = e ∙ rw div-one refl in
    let l : length ys ≡ 4 = ap length e in
    put_part xs at (at + 4 - at) ys (omega arith) (omega arith) ∙ ap (put xs at) b
