-- Laws of number, bytes_of and words.
use Rattle.std.specs.Prelude.{◌≡◌, refl, List, [], ◌∷◌, ◌++◌, ℕ, zero, suc, ◌+◌, ◌*◌, ◌/◌, ◌%◌, ◌^◌, ◌-◌, ◌≤◌, ◌<◌, length, get_or, take, drop, set}
use Rattle.std.proofs.Common.{sym, ap, ◌∙◌, zero-add, suc-add, mul-suc, mul-zero, add_comm, add-one, arith, shr-shr, drop-cons, drop-drop, take-suc-set, take-take}
use Rattle.std.proofs.Math.Pow.{field, mod-mod-pow}
use Rattle.spans.specs.Bytes.{part}
use Rattle.spans.specs.Laws.{length_part}
use Rattle.spans.specs.Runs.{drop_take}
use Rattle.spans.specs.Words.{number, bytes_of, words}

pub length_bytes_of : (n x : ℕ) → length (bytes_of n x) ≡ n
unfolding bytes_of
length_bytes_of zero x = refl
length_bytes_of (suc n) x = ap suc (length_bytes_of n x)

pub length_words : (w n : ℕ) (xs : List ℕ) → length (words w n xs) ≡ n
unfolding words
length_words w zero xs = refl
length_words w (suc n) xs = ap suc (length_words w n (drop w xs))

-- ---- reading

part_cons : (xs : List ℕ) (at n : ℕ) → at < length xs → part xs at (suc n) ≡ get_or xs at 0 ∷ part xs (at + 1) n
unfolding part
part_cons xs at n h = rw (drop-cons xs at 0, add-one)

-- the first byte is the highest
number_part : (xs : List ℕ) (at n next : ℕ) → next ≡ at + 1 → at + suc n ≤ length xs
    → number (part xs at (suc n)) ≡ get_or xs at 0 * 2 ^ (8 * n) + number (part xs next n)
unfolding number
number_part xs at n next e h =
    let l : at < length xs = omega arith in
    rw (part_cons xs at n l, e) (ap (λ (k : ℕ). get_or xs at 0 * 2 ^ (8 * k) + number (part xs (at + 1) n)) (length_part xs (at + 1) n
    (omega arith)))

pub number_four : (xs : List ℕ) (at : ℕ) → at + 4 ≤ length xs
    → number (part xs at 4) ≡ get_or xs at 0 * 16777216 + get_or xs (at + 1) 0 * 65536 + get_or xs (at + 2) 0 * 256 + get_or xs (at + 3) 0
unfolding number part
number_four xs at h =
    let e₀ = number_part xs at 3 (at + 1) refl h in
    let e₁ = number_part xs (at + 1) 2 (at + 2) (omega arith) (omega arith) in
    let e₂ = number_part xs (at + 2) 1 (at + 3) (omega arith) (omega arith) in
    let e₃ = number_part xs (at + 3) 0 (at + 4) (omega arith) (omega arith) in
    omega arith

-- one more word
pub words_next : (w n : ℕ) (xs : List ℕ) → words w (suc n) xs ≡ words w n xs ++ (number (part xs (w * n) w) ∷ [])
unfolding words part
words_next w zero xs = rw mul-zero refl
words_next w (suc n) xs =
    ap {B = List ℕ} (λ r. number (take w xs) ∷ r)
    (words_next w n (drop w xs) ∙ ap (λ (l : List ℕ). words w n (drop w xs) ++ (number (take w l) ∷ []))
    (drop-drop (w * n) w xs ∙ ap (λ (k : ℕ). drop k xs) (add_comm w (w * n) ∙ sym (mul-suc w n))))

-- words do not see what stands behind them
pub words_take : (w n k : ℕ) (xs : List ℕ) → w * n ≤ k → words w n (take k xs) ≡ words w n xs
unfolding words
words_take w zero k xs h = refl
words_take w (suc n) k xs h =
    let m : w + w * n ≤ k = rw (mul-suc w n, add_comm (w * n) w) at h in
    let r : w * n ≤ k - w = omega arith in
    ap (λ (l : List ℕ). number l ∷ words w n (drop w (take k xs))) (take-take w k xs (omega arith))
    ∙ ap {B = List ℕ} (λ r. number (take w xs) ∷ r) (ap (words w n) (drop_take w k xs) ∙ words_take w n (k - w) (drop w xs) r)

-- one more word stored, as a loop's code has it
pub store_next : (w : ℕ) (xs : List ℕ) (at : ℕ) (ws : List ℕ) (n v : ℕ) → n < length ws → take n ws ≡ words w n (drop at xs)
    → v ≡ number (part xs (at + w * n) w) → take (n + 1) (set ws n v) ≡ words w (n + 1) (drop at xs)
unfolding part
store_next w xs at ws n v h e d =
    rw add-one
    (take-suc-set ws n v h ∙ ap (λ (l : List ℕ). l ++ (v ∷ [])) e ∙ ap (λ (x : ℕ). words w n (drop at xs) ++ (x ∷ [])) d
    ∙ ap (λ (l : List ℕ). words w n (drop at xs) ++ (number (take w l) ∷ [])) (sym (drop-drop (w * n) at xs))
    ∙ sym (words_next w n (drop at xs)))

-- ---- writing

-- a byte of x below bit b is a byte of x modulo 2 ^ b
byte_mod : (x b k : ℕ) → k + 8 ≤ b → x % 2 ^ b / 2 ^ k % 256 ≡ x / 2 ^ k % 256
byte_mod x b k h =
    let e : b ≡ b - k - 8 + 8 + k = omega arith in
    ap (λ (n : ℕ). x % 2 ^ n / 2 ^ k % 256) e ∙ ap (λ (n : ℕ). n % 256) (field x (b - k - 8 + 8) k)
    ∙ mod-mod-pow (x / 2 ^ k) (b - k - 8) 8

pub bytes_of_mod : (n x b : ℕ) → 8 * n ≤ b → bytes_of n (x % 2 ^ b) ≡ bytes_of n x
unfolding bytes_of
bytes_of_mod zero x b h = refl
bytes_of_mod (suc n) x b h =
    let k : 8 * n + 8 ≤ b = omega arith in
    ap (λ (d : ℕ). d ∷ bytes_of n (x % 2 ^ b)) (byte_mod x b (8 * n) k)
    ∙ ap {B = List ℕ} (λ r. x / 2 ^ (8 * n) % 256 ∷ r) (bytes_of_mod n x b (omega arith))

-- the higher bytes, then the lower
pub bytes_of_split : (n m x : ℕ) → bytes_of (n + m) x ≡ bytes_of n (x / 2 ^ (8 * m)) ++ bytes_of m x
unfolding bytes_of
bytes_of_split zero m x = rw zero-add refl
bytes_of_split (suc n) m x =
    let e : 8 * (n + m) ≡ 8 * m + 8 * n = omega arith in
    rw suc-add
    (ap (λ (k : ℕ). x / 2 ^ k % 256 ∷ bytes_of (n + m) x) e
    ∙ ap (λ (y : ℕ). y % 256 ∷ bytes_of (n + m) x) (sym (shr-shr x (8 * m) (8 * n)))
    ∙ ap {B = List ℕ} (λ r. x / 2 ^ (8 * m) / 2 ^ (8 * n) % 256 ∷ r) (bytes_of_split n m x))
