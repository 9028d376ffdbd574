-- Document 01, "Image": the causes of rejection, in their order, against the bytes lent.
use Rattle.std.specs.Prelude.{List, [], ◌∷◌, Bool, true, false, ℕ, ◌+◌, length, take, ltb, eqb, Result, Ok, Err, ⊤}
use Rattle.spans.specs.Bytes.{part, same}
use Rattle.spans.specs.Choice.{pick}
use Rattle.fips.specs.Fips.{sha256}
use Rattle.causes.specs.Header.{magic_number, header_magic, records_size, header_size, body_size, image_size}
use Rattle.records.specs.Records.{Split, Place, records, digests}
use Rattle.records.specs.declared.Fault.{Fault}
use Rattle.records.specs.declared.Fault.TheVariants.{NotFilled, NotOneDigest}
use Rattle.causes.specs.declared.Cause.{Cause}
use Rattle.causes.specs.declared.Cause.TheVariants.{HeaderMagic, HeaderSizes, RecordsArea, DigestRecord, DigestDiffers}
use Rattle.causes.specs.declared.Sizes.{Sizes}
use Rattle.causes.specs.declared.Signed.{Signed}

-- "The image check answers accepted or its cause"
abbrev pub Verdict : Type 0
Verdict = Result ⊤ Cause

-- what the header comes to: the three sizes, or cause 1 or 2
abbrev pub Header : Type 0
Header = Result Sizes Cause

-- what the bytes come to before the digest: what it covers and where it stands, or a cause from 1 to 4
abbrev pub Layout : Type 0
Layout = Result Signed Cause

-- "Causes of rejection, in this order": their numbers
unfoldable pub number_of : Cause → ℕ
number_of HeaderMagic = 1
number_of HeaderSizes = 2
number_of RecordsArea = 3
number_of DigestRecord = 4
number_of DigestDiffers = 5

-- "The image check answers accepted or its cause": 0 for accepted
unfoldable pub cause_of : Verdict → ℕ
cause_of (Ok _) = 0
cause_of (Err c) = number_of c

-- "3. the records do not fill their area exactly", "4. not exactly one record of type 1, or its length is not 32"
unfoldable pub cause_of_fault : Fault → Cause
cause_of_fault NotFilled = RecordsArea
cause_of_fault NotOneDigest = DigestRecord

-- Cause 2, of 32 bytes or more: "header size under 32, or the three sizes sum above the bytes lent"
unfoldable pub sizes : List ℕ → Header
sizes xs =
    pick (ltb (header_size xs) 32) (Err HeaderSizes)
    (pick (ltb (length xs) (image_size xs)) (Err HeaderSizes)
    (Ok (record { header = header_size xs; body = body_size xs; records = records_size xs })))

-- Causes 1 and 2: "fewer than 32 bytes lent (asked before cause 1)", "header magic wrong"; else the three sizes.
unfoldable pub head : List ℕ → Header
head xs = pick (ltb (length xs) 32) (Err HeaderSizes) (pick (eqb (header_magic xs) magic_number) (sizes xs) (Err HeaderMagic))

-- Cause 4: "not exactly one record of type 1, or its length is not 32"; else what the digest covers, and where it stands.
unfoldable pub one_digest : ℕ → List Place → Layout
one_digest covered [] = Err DigestRecord
one_digest covered (d ∷ []) = pick (eqb d.size 32) (Ok (record { covered = covered; digest = d.at })) (Err DigestRecord)
one_digest covered (d ∷ e ∷ ds) = Err DigestRecord

-- Cause 3: "the records do not fill their area exactly".
unfoldable pub filled : ℕ → List Place → List ℕ → Layout
filled covered ds [] = one_digest covered ds
filled covered ds (x ∷ xs) = Err RecordsArea

unfoldable pub layout_of : ℕ → Split → Layout
layout_of covered s = filled covered (digests covered s.found) s.over

unfoldable pub with_sizes : Header → List ℕ → Layout
with_sizes (Err c) xs = Err c
with_sizes (Ok s) xs = layout_of (s.header + s.body) (records (part xs (s.header + s.body) s.records))

-- Causes 1 to 4, or how many bytes the digest covers and where its 32 bytes stand.
unfoldable pub structure : List ℕ → Layout
structure xs = with_sizes (head xs) xs

-- Cause 5: "the digest differs".
unfoldable pub digest_at : Layout → List ℕ → Verdict
digest_at (Err c) xs = Err c
digest_at (Ok s) xs = pick (same (part xs s.digest 32) (sha256 (take s.covered xs))) (Ok tt) (Err DigestDiffers)

-- The image check.
unfoldable pub check : List ℕ → Verdict
check xs = digest_at (structure xs) xs

unfoldable pub is_accepted : Verdict → Bool
is_accepted (Ok _) = true
is_accepted (Err c) = false

unfoldable pub accepted : List ℕ → Bool
accepted xs = is_accepted (check xs)
