-- What a caller may need of the digest, that it is 32 bytes, and a reader of the padding, that it is the standard's.
use Rattle.std.specs.Prelude.{◌≡◌, List, ℕ, ◌+◌, ◌%◌, ◌≤◌, length}
use Rattle.std.proofs.Common.{arith, length-append}
use Rattle.spans.specs.WordLaws.{length_bytes_of}
use Rattle.fips.specs.Fips.{Eight, zeros, result, sha256}

pub length_result : (H : Eight) → length (result H) ≡ 32
unfolding result
length_result H = simp (length-append, length_bytes_of)

pub length_sha256 : (m : List ℕ) → length (sha256 m) ≡ 32
unfolding sha256
length_sha256 m = length_result _

-- 5.1.1: a solution, and the least
pub zeros_solve : (len : ℕ) → (len + 1 + zeros len) % 64 ≡ 56
unfolding zeros
zeros_solve len = omega arith

pub zeros_least : (len k : ℕ) → (len + 1 + k) % 64 ≡ 56 → zeros len ≤ k
unfolding zeros
zeros_least len k h = omega arith
