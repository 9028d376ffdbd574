-- Numbers written as bytes, the highest byte first.
use Rattle.std.specs.Prelude.{List, [], ◌∷◌, ℕ, zero, suc, ◌+◌, ◌*◌, ◌/◌, ◌%◌, ◌^◌, length, take, drop}

-- the number that the bytes write
unfoldable pub number : List ℕ → ℕ
number [] = 0
number (x ∷ xs) = x * 2 ^ (8 * length xs) + number xs

-- the n bytes that write x modulo 2 ^ (8 * n)
unfoldable pub bytes_of : ℕ → ℕ → List ℕ
bytes_of zero x = []
bytes_of (suc n) x = x / 2 ^ (8 * n) % 256 ∷ bytes_of n x

-- the first n words of w bytes
unfoldable pub words : ℕ → ℕ → List ℕ → List ℕ
words w zero xs = []
words w (suc n) xs = number (take w xs) ∷ words w n (drop w xs)
