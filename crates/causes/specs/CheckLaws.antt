-- When the header is good, and what the bytes come to then.
use Rattle.std.specs.Prelude.{◌≡◌, List, ℕ, ◌+◌, ◌-◌, ◌≤◌, ◌<◌, length, take, drop, true, false, Ok, Err}
use borrow.Author.Tests.{lt-ltb, le-ltb, eq-eqb, ne_eqb}
use Rattle.std.proofs.Math.Nat.{add-sub_cancel_left}
use Rattle.spans.specs.Bytes.{part, same}
use Rattle.fips.specs.Fips.{sha256}
use Rattle.causes.specs.Header.{magic_number, header_magic, records_size, header_size, body_size, image_size}
use Rattle.causes.specs.Check.{sizes, head, digest_at}
use Rattle.causes.specs.declared.Cause.TheVariants.{HeaderMagic, HeaderSizes, DigestDiffers}
use Rattle.causes.specs.declared.Signed.{Signed}

module _ (xs : List ℕ) where
  pub sizes_small : header_size xs < 32 → sizes xs ≡ Err HeaderSizes
  unfolding sizes
  sizes_small h = rw (lt-ltb _ _ h)

  pub sizes_above : 32 ≤ header_size xs → length xs < image_size xs → sizes xs ≡ Err HeaderSizes
  unfolding sizes
  sizes_above h k = rw (le-ltb _ _ h, lt-ltb _ _ k)

  pub sizes_good : 32 ≤ header_size xs → image_size xs ≤ length xs → sizes xs ≡ Ok (record { header = header_size xs; body = body_size xs; records = records_size xs })
  unfolding sizes
  sizes_good h k = rw (le-ltb _ _ h, le-ltb _ _ k)

  pub head_short : length xs < 32 → head xs ≡ Err HeaderSizes
  unfolding head
  head_short h = rw (lt-ltb _ _ h)

  pub head_other : 32 ≤ length xs → (header_magic xs ≡ magic_number → ⊥) → head xs ≡ Err HeaderMagic
  unfolding head
  head_other h n = rw (le-ltb _ _ h, ne_eqb _ _ n)

  pub head_known : 32 ≤ length xs → header_magic xs ≡ magic_number → head xs ≡ sizes xs
  unfolding head
  head_known h e = rw (le-ltb _ _ h, eq-eqb _ _ e)

module _ (xs : List ℕ) (s : Signed) where
  pub digest_same : same (part xs s.digest 32) (sha256 (take s.covered xs)) ≡ true → digest_at (Ok s) xs ≡ Ok tt
  unfolding digest_at
  digest_same e = rw e

  pub digest_other : same (part xs s.digest 32) (sha256 (take s.covered xs)) ≡ false → digest_at (Ok s) xs ≡ Err DigestDiffers
  unfolding digest_at
  digest_other e = rw e

-- a part as a slice from a place to a place has it
pub part_is : (xs : List ℕ) (at size : ℕ) → take (at + size - at) (drop at xs) ≡ part xs at size
unfolding part
part_is xs at size = rw add-sub_cancel_left
