-- SHA-256 of FIPS 180-4 (August 2015), in the standard's order and with its names.
-- A word is a number below 2 ^ 32, a byte one below 256; a message is a list of bytes.
use Rattle.std.specs.Prelude.{List, [], ◌∷◌, ◌++◌, ℕ, zero, suc, ◌+◌, ◌-◌, ◌*◌, ◌/◌, ◌%◌, ◌^◌, length, get_or, drop, replicate}
use Rattle.std.specs.Int.Bits.{bit_and, bit_or, bit_xor}
use Rattle.spans.specs.Words.{bytes_of, words}

infixl 60 ◌⊕◌
infixl 65 ◌⊞◌
infixl 67 ◌⋁◌
infixl 70 ◌⋀◌
-- ---- 2.2.2 and 3.2: operations on words of w = 32 bits (the standard writes + for ⊞)

-- bitwise AND, OR, exclusive OR and complement
abbrev pub ◌⋀◌ : ℕ → ℕ → ℕ
◌⋀◌ x y = bit_and x y

abbrev pub ◌⋁◌ : ℕ → ℕ → ℕ
◌⋁◌ x y = bit_or x y

abbrev pub ◌⊕◌ : ℕ → ℕ → ℕ
◌⊕◌ x y = bit_xor x y

abbrev pub complement : ℕ → ℕ
complement x = 2 ^ 32 - 1 - x

-- addition modulo 2 ^ w
abbrev pub ◌⊞◌ : ℕ → ℕ → ℕ
◌⊞◌ x y = (x + y) % 2 ^ 32

-- right shift; rotate right
abbrev pub SHR : ℕ → ℕ → ℕ
SHR n x = x / 2 ^ n

abbrev pub ROTR : ℕ → ℕ → ℕ
ROTR n x = (x / 2 ^ n) ⋁ (x * 2 ^ (32 - n) % 2 ^ 32)

-- ---- 4.1.2: functions (4.2) to (4.7)

unfoldable pub Ch : ℕ → ℕ → ℕ → ℕ
Ch x y z = (x ⋀ y) ⊕ (complement x ⋀ z)

unfoldable pub Maj : ℕ → ℕ → ℕ → ℕ
Maj x y z = (x ⋀ y) ⊕ (x ⋀ z) ⊕ (y ⋀ z)

unfoldable pub Σ₀ : ℕ → ℕ
Σ₀ x = ROTR 2 x ⊕ ROTR 13 x ⊕ ROTR 22 x

unfoldable pub Σ₁ : ℕ → ℕ
Σ₁ x = ROTR 6 x ⊕ ROTR 11 x ⊕ ROTR 25 x

unfoldable pub σ₀ : ℕ → ℕ
σ₀ x = ROTR 7 x ⊕ ROTR 18 x ⊕ SHR 3 x

unfoldable pub σ₁ : ℕ → ℕ
σ₁ x = ROTR 17 x ⊕ ROTR 19 x ⊕ SHR 10 x

-- ---- 4.2.2: the constants K_0 to K_63

unfoldable pub K : List ℕ
K =
    0x428a2f98 ∷ 0x71374491 ∷ 0xb5c0fbcf ∷ 0xe9b5dba5 ∷ 0x3956c25b ∷ 0x59f111f1 ∷ 0x923f82a4 ∷ 0xab1c5ed5 ∷
    0xd807aa98 ∷ 0x12835b01 ∷ 0x243185be ∷ 0x550c7dc3 ∷ 0x72be5d74 ∷ 0x80deb1fe ∷ 0x9bdc06a7 ∷ 0xc19bf174 ∷
    0xe49b69c1 ∷ 0xefbe4786 ∷ 0x0fc19dc6 ∷ 0x240ca1cc ∷ 0x2de92c6f ∷ 0x4a7484aa ∷ 0x5cb0a9dc ∷ 0x76f988da ∷
    0x983e5152 ∷ 0xa831c66d ∷ 0xb00327c8 ∷ 0xbf597fc7 ∷ 0xc6e00bf3 ∷ 0xd5a79147 ∷ 0x06ca6351 ∷ 0x14292967 ∷
    0x27b70a85 ∷ 0x2e1b2138 ∷ 0x4d2c6dfc ∷ 0x53380d13 ∷ 0x650a7354 ∷ 0x766a0abb ∷ 0x81c2c92e ∷ 0x92722c85 ∷
    0xa2bfe8a1 ∷ 0xa81a664b ∷ 0xc24b8b70 ∷ 0xc76c51a3 ∷ 0xd192e819 ∷ 0xd6990624 ∷ 0xf40e3585 ∷ 0x106aa070 ∷
    0x19a4c116 ∷ 0x1e376c08 ∷ 0x2748774c ∷ 0x34b0bcb5 ∷ 0x391c0cb3 ∷ 0x4ed8aa4a ∷ 0x5b9cca4f ∷ 0x682e6ff3 ∷
    0x748f82ee ∷ 0x78a5636f ∷ 0x84c87814 ∷ 0x8cc70208 ∷ 0x90befffa ∷ 0xa4506ceb ∷ 0xbef9a3f7 ∷ 0xc67178f2 ∷ []

-- ---- 5.1.1: padding

-- The zero bytes behind the byte that begins with the bit 1. The standard's k, the least with l + 1 + k ≡ 448 mod 512, counts
-- in bits; in bytes this is the least with len + 1 + zeros ≡ 56 mod 64 (proved in Laws).
unfoldable pub zeros : ℕ → ℕ
zeros len = (119 - len % 64) % 64

-- The message, the bit 1 and zero bits, and the message's length l in bits as a 64-bit number. The standard ends below
-- l = 2 ^ 64; here, as in other implementations, a longer message has l modulo 2 ^ 64 there.
unfoldable pub pad : List ℕ → List ℕ
pad m = m ++ (128 ∷ replicate (zeros (length m)) 0) ++ bytes_of 8 (8 * length m)

-- ---- 5.2.1: parsing

-- the sixteen words of a block of 64 bytes; blocks are counted from 0, so this is M(i + 1)
unfoldable pub M : List ℕ → ℕ → List ℕ
M padded i = words 4 16 (drop (64 * i) padded)

-- ---- 5.3.3: the initial hash value

-- eight words: a hash value H_0 to H_7, or the working variables a to h
pub record Eight : Type 0 where
  pub a : ℕ
  pub b : ℕ
  pub c : ℕ
  pub d : ℕ
  pub e : ℕ
  pub f : ℕ
  pub g : ℕ
  pub h : ℕ

unfoldable pub H₀ : Eight
H₀ = record {
  a = 0x6a09e667;
  b = 0xbb67ae85;
  c = 0x3c6ef372;
  d = 0xa54ff53a;
  e = 0x510e527f;
  f = 0x9b05688c;
  g = 0x1f83d9ab;
  h = 0x5be0cd19;
}

-- ---- 6.2.2: the hash computation

-- 1. W_t of the message schedule, 16 ≤ t, from the words before it
unfoldable pub next : List ℕ → ℕ → ℕ
next W t = σ₁ (get_or W (t - 2) 0) ⊞ get_or W (t - 7) 0 ⊞ σ₀ (get_or W (t - 15) 0) ⊞ get_or W (t - 16) 0

-- the words up to W_t, from those before it
unfoldable pub upto : List ℕ → ℕ → List ℕ
upto W t = W ++ (next W t ∷ [])

-- the first 16 + n words: those of the block, then n more
unfoldable pub schedule : List ℕ → ℕ → List ℕ
schedule block zero = block
schedule block (suc n) = upto (schedule block n) (16 + n)

-- 3. one turn for t, with K_t and W_t
unfoldable pub T₁ : Eight → ℕ → ℕ → ℕ
T₁ v k w = v.h ⊞ Σ₁ v.e ⊞ Ch v.e v.f v.g ⊞ k ⊞ w

unfoldable pub T₂ : Eight → ℕ
T₂ v = Σ₀ v.a ⊞ Maj v.a v.b v.c

unfoldable pub round : Eight → ℕ → ℕ → Eight
round v k w = record {
  h = v.g;
  g = v.f;
  f = v.e;
  e = v.d ⊞ T₁ v k w;
  d = v.c;
  c = v.b;
  b = v.a;
  a = T₁ v k w ⊞ T₂ v;
}

-- the working variables after the turns for 0 to t - 1
unfoldable pub rounds : List ℕ → Eight → ℕ → Eight
rounds W v zero = v
rounds W v (suc t) = round (rounds W v t) (get_or K t 0) (get_or W t 0)

-- 4. the intermediate hash value
unfoldable pub plus : Eight → Eight → Eight
plus v H = record {
  a = v.a ⊞ H.a;
  b = v.b ⊞ H.b;
  c = v.c ⊞ H.c;
  d = v.d ⊞ H.d;
  e = v.e ⊞ H.e;
  f = v.f ⊞ H.f;
  g = v.g ⊞ H.g;
  h = v.h ⊞ H.h;
}

-- 1. to 4. for one block; 2. sets the working variables to the hash value before it
unfoldable pub compress : Eight → List ℕ → Eight
compress H block = plus (rounds (schedule block 48) H 64) H

-- the hash value after i blocks: H(i)
unfoldable pub hash : Eight → List ℕ → ℕ → Eight
hash H padded zero = H
hash H padded (suc i) = compress (hash H padded i) (M padded i)

-- H_0 to H_7, one after the other
unfoldable pub result : Eight → List ℕ
result H =
    bytes_of 4 H.a ++ bytes_of 4 H.b ++ bytes_of 4 H.c ++ bytes_of 4 H.d
    ++ bytes_of 4 H.e ++ bytes_of 4 H.f ++ bytes_of 4 H.g ++ bytes_of 4 H.h

-- the message digest: 32 bytes
unfoldable pub sha256 : List ℕ → List ℕ
sha256 m = result (hash H₀ (pad m) (length (pad m) / 64))
