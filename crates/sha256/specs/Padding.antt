-- The end of the padded message (5.1.1), as it stands in an array of two blocks.
use Rattle.std.specs.Prelude.{◌≡◌, take, set}
use Rattle.std.proofs.Math.Path.{sym, ap, refl}
use Rattle.std.proofs.Common.{ap₂, ◌∙◌, mul_comm, div-one, arith, length-set, take_all}
use mathlib.Core.List.{List, [], ◌∷◌, ◌++◌, append_assoc}
use Prim.Native.Nat.{ℕ, ◌+◌, ◌-◌, ◌*◌, ◌/◌, ◌%◌, ◌^◌, ◌≤◌, ◌<◌}
use Rattle.std.proofs.Math.ListN.{length, drop, replicate, length-append, length-replicate, length-drop}
use Rattle.std.proofs.Math.Seq.{drop-append-le, take-append-add}
use Rattle.spans.specs.Bytes.{part, put}
use Rattle.spans.specs.Laws.{set_put, put_join, length_put}
use Rattle.spans.specs.Runs.{put_run, take_put, take_replicate}
use Rattle.spans.specs.Words.{bytes_of}
use Rattle.spans.specs.WordLaws.{length_bytes_of, bytes_of_mod, bytes_of_split}
use Rattle.fips.specs.Fips.{zeros, pad}
use Rattle.fips.specs.Laws.{zeros_solve}
use Rattle.fips.specs.Writing.{put_part}
use Rattle.std.specs.Int.{w64, to_be_bytes}
use borrow.Rule.Slice.PartMut.{put_mid}

-- the length field, written as two words
pub put_length : (xs : List ℕ) (at size hi lo : ℕ) → hi ≡ size * 2 ^ 3 % 2 ^ 64 / 2 ^ 32 % 2 ^ 32
    → lo ≡ size * 2 ^ 3 % 2 ^ 64 % 2 ^ 32
    → put (put xs at (bytes_of 4 hi)) (at + 4) (bytes_of 4 lo) ≡ put xs at (bytes_of 8 (8 * size))
put_length xs at size hi lo h l =
    let bits : ℕ = size * 2 ^ 3 % 2 ^ 64 in
    let e : bytes_of 4 hi ++ bytes_of 4 lo ≡ bytes_of 8 (8 * size) =
    ap₂ (λ (x y : ℕ). bytes_of 4 x ++ bytes_of 4 y) h l
    ∙ ap₂ (λ (x y : List ℕ). x ++ y) (bytes_of_mod 4 (bits / 2 ^ 32) 32 (omega arith)) (bytes_of_mod 4 bits 32 (omega arith))
    ∙ sym (bytes_of_split 4 4 bits) ∙ bytes_of_mod 8 (size * 8) 64 (omega arith) ∙ ap (bytes_of 8) (mul_comm size 8) in
    ap (λ (n : ℕ). put (put xs at (bytes_of 4 hi)) (at + n) (bytes_of 4 lo)) (sym (length_bytes_of 4 hi))
    ∙ put_join xs at (bytes_of 4 hi) (bytes_of 4 lo) ∙ ap (put xs at) e

-- the length field, as the library's eight bytes
pub bit_length : (size : ℕ) → to_be_bytes w64 (size * 8 % 2 ^ 64) ≡ bytes_of 8 (8 * size)
unfolding bytes_of
bit_length size = eight_bytes (size * 8 % 2 ^ 64) ∙ bytes_of_mod 8 (size * 8) 64 (omega arith) ∙ ap (bytes_of 8) (mul_comm size 8)
  where
    eight_bytes : (x : ℕ) → to_be_bytes w64 x ≡ bytes_of 8 x
    eight_bytes x = rw div-one refl

module _ (m : List ℕ) (from rest count : ℕ) (whole : from + rest ≡ length m) (at_block : from % 64 ≡ 0) (few : rest < 64)
    (count_is : count ≡ (rest + 72) / 64) where
  zeros_is : zeros (length m) ≡ 64 * count - 8 - (rest + 1)
  unfolding zeros
  zeros_is = rw (sym whole) (omega arith)

  pub length_pad : length (pad m) ≡ from + 64 * count
  unfolding pad
  length_pad = simp (length-append, length-replicate, length_bytes_of) (omega (arith, zeros_is))

  -- what is left of the message, with the bit 1
  begun : List ℕ
  begun = drop from m ++ (128 ∷ [])

  length_begun : length begun ≡ rest + 1
  unfolding begun
  length_begun = simp (length-append, length-drop) (omega arith)

  drop_pad : drop from (pad m) ≡ begun ++ replicate (64 * count - 8 - (rest + 1)) 0 ++ bytes_of 8 (8 * length m)
  unfolding pad begun
  drop_pad =
      let z : ℕ = zeros (length m) in
      let L : List ℕ = bytes_of 8 (8 * length m) in
      let l : from ≤ length (m ++ (128 ∷ replicate z 0)) = simp length-append (omega arith) in
      drop-append-le from (m ++ (128 ∷ replicate z 0)) L l
      ∙ ap (λ (x : List ℕ). x ++ L) (drop-append-le from m (128 ∷ replicate z 0) (omega arith)
      ∙ sym (append_assoc (drop from m) (128 ∷ []) (replicate z 0)))
      ∙ ap (λ (k : ℕ). drop from m ++ (128 ∷ []) ++ replicate k 0 ++ L) zeros_is

  -- put into n zeros, and the length put at the end of the last block, it is what the padded message ends with
  module _ (n : ℕ) (room : 128 ≤ n) where
    put_begun : put (put (replicate n 0) 0 (part m from rest)) rest (128 ∷ []) ≡ begun ++ replicate (n - length begun) 0
    unfolding part begun
    put_begun =
        let e : rest ≡ 0 + length (drop from m) = simp length-drop (omega arith) in
        let l : length (drop from m) ≤ rest = simp length-drop (omega arith) in
        ap (λ (x : List ℕ). put (put (replicate n 0) 0 x) rest (128 ∷ [])) (take_all rest (drop from m) l)
        ∙ ap (λ (k : ℕ). put (put (replicate n 0) 0 (drop from m)) k (128 ∷ [])) e
        ∙ put_join (replicate n 0) 0 (drop from m) (128 ∷ []) ∙ put_run n 0 begun (omega (arith, length_begun))

    take_begun : take (64 * count - 8) (begun ++ replicate (n - length begun) 0) ≡ begun ++ replicate (64 * count - 8 - (rest + 1)) 0
    take_begun =
        let e : 64 * count - 8 ≡ length begun + (64 * count - 8 - (rest + 1)) = omega (arith, length_begun) in
        let l : 64 * count - 8 - (rest + 1) ≤ n - length begun = omega (arith, length_begun) in
        ap (λ (k : ℕ). take k (begun ++ replicate (n - length begun) 0)) e
        ∙ take-append-add begun (replicate (n - length begun) 0) (64 * count - 8 - (rest + 1))
        ∙ ap (λ (x : List ℕ). begun ++ x) (take_replicate (64 * count - 8 - (rest + 1)) (n - length begun) 0 l)

    pub ending : take (64 * count)
        (put (put (put (replicate n 0) 0 (part m from rest)) rest (128 ∷ [])) (64 * count - 8) (bytes_of 8 (8 * length m)))
        ≡ drop from (pad m)
    ending =
        let L : List ℕ = bytes_of 8 (8 * length m) in
        let e : 64 * count ≡ 64 * count - 8 + length L = omega (arith, length_bytes_of 8 (8 * length m)) in
        let l : 64 * count ≤ length (begun ++ replicate (n - length begun) 0) = simp (length-append, length-replicate) (omega
        (arith, length_begun)) in
        ap (λ (x : List ℕ). take (64 * count) (put x (64 * count - 8) L)) put_begun
        ∙ take_put (begun ++ replicate (n - length begun) 0) (64 * count - 8) L (64 * count) e l
        ∙ ap (λ (x : List ℕ). x ++ L) take_begun ∙ sym drop_pad

-- the padded message is whole blocks, no fewer than the message has
pub blocks_of_pad : (m : List ℕ) → (length (pad m) % 64 ≡ 0) × (length m ≤ length (pad m))
unfolding pad
blocks_of_pad m =
    let long : length (pad m) ≡ length m + (1 + zeros (length m)) + 8 = simp (length-append, length-replicate, length_bytes_of) (omega arith) in
    (omega (arith, zeros_solve (length m)), omega arith)

-- tail begins with the count blocks that the padded message has after from bytes
pub record Ending (m : List ℕ) (from count : ℕ) (tail : List ℕ) : Type 0 where
  pub long : length tail ≡ 128
  pub few : count ≤ 2
  pub whole : length (pad m) ≡ from + 64 * count
  pub is : take (64 * count) tail ≡ drop from (pad m)

-- three stores make it: what is left of the message, the bit 1, the length
pub ending_of : (m : List ℕ) (from rest count : ℕ) (tail₀ tail₁ tail₂ : List ℕ) → from % 64 ≡ 0 → from + rest ≡ length m
    → rest < 64
    → count ≡ (rest + 72) / 64 → tail₀ ≡ replicate 128 0 → tail₁ ≡ put tail₀ 0 (part m from rest)
    → tail₂ ≡ put (set tail₁ rest 128) (64 * count - 8) (bytes_of 8 (8 * length m)) → Ending m from count tail₂
ending_of m from rest count tail₀ tail₁ tail₂ at_block all few count_is e₀ e₁ e₂ = record {
  long = simp (length_put, length-set) at (ap length e₂) ∙ simp length_put at (ap length e₁) ∙ ap length e₀;
  few = omega arith;
  whole = length_pad m from rest count all at_block few count_is;
  is =
      ap (take (64 * count))
      (e₂ ∙ ap (λ (t : List ℕ). put t (64 * count - 8) (bytes_of 8 (8 * length m)))
      (set_put tail₁ rest 128 ∙ ap (λ (t : List ℕ). put t rest (128 ∷ [])) (e₁
      ∙ ap (λ (t : List ℕ). put t 0 (part m from rest)) e₀)))
      ∙ ending m from rest count all at_block few count_is 128 (omega arith);
}

-- the same of the blocks alone, as the code cuts them off
pub last_blocks : (m : List ℕ) (rest end : ℕ) (tail₀ tail₁ tail₂ field : List ℕ) → rest ≡ length m % 64 → end ≡ (rest + 72) / 64 * 64
    → tail₀ ≡ replicate 128 0 → tail₁ ≡ put tail₀ 0 (part m (length m - rest) rest) → field ≡ bytes_of 8 (8 * length m)
    → tail₂ ≡ put_mid (end - 8) (end - (end - 8)) (set tail₁ rest 128) field → take end tail₂ ≡ drop (64 * (length m / 64)) (pad m)
last_blocks m rest end tail₀ tail₁ tail₂ field r e e₀ e₁ l e₂ =
    let count : ℕ = (rest + 72) / 64 in
    let before : List ℕ = set tail₁ rest 128 in
    let k : end ≡ 64 * count = omega arith in
    let f : length m - rest ≡ 64 * (length m / 64) = omega arith in
    let eight : length field ≡ 8 = ap length l ∙ length_bytes_of 8 (8 * length m) in
    let room : length before ≡ 128 = length-set tail₁ rest 128 ∙ ap length e₁ ∙ length_put tail₀ 0 (part m (length m - rest) rest) ∙ ap length e₀ in
    let stored : tail₂ ≡ put before (64 * count - 8) (bytes_of 8 (8 * length m)) =
    e₂ ∙ put_part before (end - 8) (end - (end - 8)) field (omega arith) (omega arith)
    ∙ (λ i. put before (k i - 8) (l i)) in
    let it = ending_of m (length m - rest) rest count tail₀ tail₁ tail₂ (omega arith) (omega arith) (omega arith) refl e₀ e₁ stored in
    ap (λ (n : ℕ). take n tail₂) k ∙ it.is ∙ ap (λ (n : ℕ). drop n (pad m)) f
