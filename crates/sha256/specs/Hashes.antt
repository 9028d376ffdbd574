-- The hash value after some blocks, taken block by block and part by part.
use Rattle.std.specs.Prelude.{◌≡◌, refl, List, ◌∷◌, ◌++◌, ℕ, zero, suc, ◌+◌, ◌-◌, ◌*◌, ◌/◌, ◌≤◌, length, take, drop, replicate}
use Rattle.std.proofs.Common.{sym, ap, ◌∙◌, add-one, add-zero, add-suc, arith, length-append, length-drop, drop-drop, drop_at, take_at, take_all}
use Rattle.std.proofs.lemmas.List.{take-append-le}
use Rattle.spans.specs.Runs.{drop_take}
use Rattle.spans.specs.Words.{words, bytes_of}
use Rattle.spans.specs.WordLaws.{words_take}
use Rattle.fips.specs.Fips.{Eight, M, zeros, pad, H₀, compress, hash, result, sha256}
use Rattle.sha256.specs.Padding.{Ending, blocks_of_pad}

-- one more block
pub hash_next : (H : Eight) (p : List ℕ) (i : ℕ) (v r : Eight) → v ≡ hash H p i
    → r ≡ compress v (words 4 16 (drop (64 * i) p)) → r ≡ hash H p (i + 1)
unfolding hash M
hash_next H p i v r e d = rw add-one (d ∙ ap (λ (x : Eight). compress x (words 4 16 (drop (64 * i) p))) e)

-- some blocks, then the rest
hash_split : (H : Eight) (p : List ℕ) (a b : ℕ) → hash H p (a + b) ≡ hash (hash H p a) (drop (64 * a) p) b
unfolding hash M
hash_split H p a zero = rw add-zero refl
hash_split H p a (suc b) =
    let e : 64 * a + 64 * b ≡ 64 * (a + b) = omega arith in
    rw add-suc
    (ap (λ (v : Eight). compress v (words 4 16 (drop (64 * (a + b)) p))) (hash_split H p a b)
    ∙ ap (λ (x : List ℕ). compress (hash (hash H p a) (drop (64 * a) p) b) (words 4 16 x)) (ap (λ (k : ℕ). drop k p) (sym e)
    ∙ sym (drop-drop (64 * b) (64 * a) p)))

-- what stands behind the blocks does not count
hash_take : (H : Eight) (p : List ℕ) (n k : ℕ) → 64 * n ≤ k → hash H (take k p) n ≡ hash H p n
unfolding hash M
hash_take H p zero k h = refl
hash_take H p (suc n) k h =
    let l : 4 * 16 ≤ k - 64 * n = omega arith in
    ap (λ (v : Eight). compress v (words 4 16 (drop (64 * n) (take k p)))) (hash_take H p n k (omega arith))
    ∙ ap (compress (hash H p n)) (ap (words 4 16) (drop_take (64 * n) k p) ∙ words_take 4 16 (k - 64 * n) (drop (64 * n) p) l)

hash_same : (H : Eight) (p q : List ℕ) (n : ℕ) → take (64 * n) p ≡ take (64 * n) q → hash H p n ≡ hash H q n
hash_same H p q n e =
    let l : 64 * n ≤ 64 * n = omega arith in
    sym (hash_take H p n (64 * n) l) ∙ ap (λ (x : List ℕ). hash H x n) e ∙ hash_take H q n (64 * n) l

-- the message's own blocks, then those of its end
hash_pad : (m tail : List ℕ) (full count : ℕ) → 64 * full ≤ length m → length (pad m) ≡ 64 * full + 64 * count
    → take (64 * count) tail ≡ drop (64 * full) (pad m) → hash (hash H₀ m full) tail count ≡ hash H₀ (pad m) (length (pad m) / 64)
unfolding pad
hash_pad m tail full count h l e =
    let x : List ℕ = 128 ∷ replicate (zeros (length m)) 0 in
    let f : 64 * full ≤ length (m ++ x) = simp length-append (omega arith) in
    let front : take (64 * full) m ≡ take (64 * full) (pad m) =
    sym (take-append-le (64 * full) (m ++ x) (bytes_of 8 (8 * length m)) f ∙ take-append-le (64 * full) m x h) in
    let n : full + count ≡ length (pad m) / 64 = omega arith in
    sym (hash_take (hash H₀ m full) tail count (64 * count) (omega arith)) ∙ ap (λ (t : List ℕ). hash (hash H₀ m full) t count) e
    ∙ ap (λ (v : Eight). hash v (drop (64 * full) (pad m)) count) (hash_same H₀ m (pad m) full front)
    ∙ sym (hash_split H₀ (pad m) full count) ∙ ap (hash H₀ (pad m)) n

-- the digest: the message's own blocks, the last ones, the result
pub digest_of : (m tail : List ℕ) (full count : ℕ) (first body last : Eight) (out : List ℕ) → 64 * full ≤ length m
    → Ending m (64 * full) count tail → first ≡ H₀ → body ≡ hash first m full → last ≡ hash body tail count → out ≡ result last
    → out ≡ sha256 m
unfolding sha256
digest_of m tail full count first body last out h e p q r s =
    s ∙ ap result (r ∙ ap (λ (v : Eight). hash v tail count) (q ∙ ap (λ (v : Eight). hash v m full) p)
    ∙ hash_pad m tail full count h e.whole e.is)

-- the first block, then the others
pub hash_block : (H : Eight) (p b r : List ℕ) → p ≡ b ++ r → length b ≡ 64
    → hash (compress H (words 4 16 b)) r (length r / 64) ≡ hash H p (length p / 64)
unfolding hash M
hash_block H p b r e l =
    let n : ℕ = length r / 64 in
    let long : length p ≡ 64 + length r = ap length e ∙ length-append b r ∙ ap (λ (k : ℕ). k + length r) l in
    let front : words 4 16 p ≡ words 4 16 b = sym (words_take 4 16 64 p (omega arith)) ∙ ap (words 4 16) (ap (take 64) e ∙ take_at b r 64 l) in
    let behind : drop 64 p ≡ r = ap (drop 64) e ∙ drop_at b r 64 l in
    sym
    (ap (hash H p) (omega arith) ∙ hash_split H p 1 n
    ∙ (λ i. hash (compress H (front i)) (behind i) n))

-- the digest, as the code goes: the message's own blocks, the last ones, the result
pub digest_is : (m last : List ℕ) (first body after : Eight) (out : List ℕ) → last ≡ drop (64 * (length m / 64)) (pad m) → first ≡ H₀
    → body ≡ hash first m (length m / 64) → after ≡ hash body last (length last / 64) → out ≡ result after → out ≡ sha256 m
unfolding sha256
digest_is m last first body after out e p q r s =
    let full : ℕ = length m / 64 in
    let count : ℕ = length last / 64 in
    let long : length last ≡ length (pad m) - 64 * full = ap length e ∙ length-drop (64 * full) (pad m) in
    let whole : length (pad m) ≡ 64 * full + 64 * count = omega (arith, blocks_of_pad m) in
    let cut : take (64 * count) last ≡ last = take_all (64 * count) last (omega arith) in
    s ∙ ap result (r ∙ ap (λ (v : Eight). hash v last count) (q ∙ ap (λ (v : Eight). hash v m full) p)
    ∙ hash_pad m last full count (omega arith) whole (cut ∙ e))
