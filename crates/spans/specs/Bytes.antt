-- Parts of a list of bytes: what stands where, and what a store leaves.
use Rattle.std.specs.Prelude.{List, [], ◌∷◌, Bool, true, false, ◌&&◌, ℕ, zero, suc, take, drop, replicate, eqb}

-- the len bytes from at on
unfoldable pub part : List ℕ → ℕ → ℕ → List ℕ
part xs at len = take len (drop at xs)

-- xs with ys in the place of what stood from at on (what would stand beyond the end of xs is lost)
unfoldable pub put : List ℕ → ℕ → List ℕ → List ℕ
put [] at ys = []
put (x ∷ xs) zero [] = x ∷ xs
put (x ∷ xs) zero (y ∷ ys) = y ∷ put xs zero ys
put (x ∷ xs) (suc at) ys = x ∷ put xs at ys

-- n erased bytes
unfoldable pub blank : ℕ → List ℕ
blank n = replicate n 255

unfoldable pub same : List ℕ → List ℕ → Bool
same [] [] = true
same [] (y ∷ ys) = false
same (x ∷ xs) [] = false
same (x ∷ xs) (y ∷ ys) = eqb x y && same xs ys
