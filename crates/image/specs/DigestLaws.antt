-- Cause 5, as the code asks for it: the digest that it made of the bytes from 0 to covered, and whether that stands at a place.
use Rattle.std.specs.Prelude.{◌≡◌, refl, List, Bool, true, false, ℕ, length, take, Ok, Err}
use Rattle.std.proofs.Common.{sym, ◌∙◌}
use Rattle.spans.specs.Bytes.{part, same}
use Rattle.fips.specs.Fips.{sha256}
use Rattle.fips.specs.Laws.{length_sha256}
use Rattle.causes.specs.Check.{digest_at}
use Rattle.causes.specs.CheckLaws.{digest_same, digest_other}
use Rattle.causes.specs.declared.Cause.TheVariants.{DigestDiffers}
use Rattle.causes.specs.declared.Signed.{Signed}

module _ (xs : List ℕ) (s : Signed) (digest : List ℕ) (is : digest ≡ sha256 (take s.covered xs)) (found : Bool)
    (asked : found ≡ same (part xs s.digest (length digest)) digest) where
  answer : same (part xs s.digest 32) (sha256 (take s.covered xs)) ≡ found
  answer = sym (asked ∙ rw (is, length_sha256 (take s.covered xs)) refl)

  pub found_same : found ≡ true → Ok tt ≡ digest_at (Ok s) xs
  found_same e = sym (digest_same xs s (answer ∙ e))

  pub found_other : found ≡ false → Err DigestDiffers ≡ digest_at (Ok s) xs
  found_other e = sym (digest_other xs s (answer ∙ e))
