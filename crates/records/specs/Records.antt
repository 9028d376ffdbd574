-- Document 01, "Image": the trailing records.
use Rattle.std.specs.Prelude.{List, [], ◌∷◌, ℕ, zero, suc, ◌+◌, length, get_or, drop, leb, eqb}
use Rattle.spans.specs.Bytes.{part}
use Rattle.spans.specs.Choice.{pick}
use Rattle.fields.specs.Fields.{field}
use Rattle.records.specs.declared.Step.{Step}
use Rattle.records.specs.declared.Step.TheVariants.{End, Stump, Record}

-- "type, pad byte, length (2 bytes), then that many bytes"
pub record Trailing : Type 0 where
  pub kind : ℕ
  pub pad : ℕ
  pub low : ℕ
  pub high : ℕ
  pub bytes : List ℕ

-- What stands at a place of an area: nothing more, a whole record (its type, where its bytes start, how many they are), or bytes that
-- make none.
unfoldable pub record_at : List ℕ → ℕ → ℕ → Step
record_at xs at size = pick (leb (at + 4 + size) (length xs)) (Record (get_or xs at 0) (at + 4) size) Stump

unfoldable pub step_at : List ℕ → ℕ → Step
step_at xs at = pick (leb (length xs) at) End (pick (leb (at + 4) (length xs)) (record_at xs at (field xs (at + 2) 2)) Stump)

-- where the record that was found ends
unfoldable pub after : Step → ℕ
after End = 0
after Stump = 0
after (Record kind start size) = start + size

-- An area as the records that stand in it from its start on, and the bytes left over, which begin with no whole record.
pub record Split : Type 0 where
  pub found : List Trailing
  pub over : List ℕ

unfoldable pub record_of : List ℕ → ℕ → Trailing
record_of xs size =
    record { kind = get_or xs 0 0; pad = get_or xs 1 0; low = get_or xs 2 0; high = get_or xs 3 0; bytes = part xs 4 size }

unfoldable pub first_then : Step → List ℕ → Split → Split
first_then End xs rest = record { found = []; over = [] }
first_then Stump xs rest = record { found = []; over = xs }
first_then (Record kind start size) xs rest = record { found = record_of xs size ∷ rest.found; over = rest.over }

-- "The area is read as the first record, and then the rest of the area by the same rule." Each record takes four bytes at least, so that an
-- area has no more records than bytes: the number counts down from its length.
unfoldable pub split_in : ℕ → List ℕ → Split
split_in zero xs = record { found = []; over = xs }
split_in (suc n) xs = first_then (step_at xs 0) xs (split_in n (drop (after (step_at xs 0)) xs))

unfoldable pub records : List ℕ → Split
records xs = split_in (length xs) xs

-- where the bytes of a record stand, and how many they are
pub record Place : Type 0 where
  pub at : ℕ
  pub size : ℕ

-- "The digest record has type 1": the places of the records of that type, where the first record of all stands at `at`
unfoldable pub digests : ℕ → List Trailing → List Place
digests at [] = []
digests at (r ∷ rs) =
    pick (eqb r.kind 1)
    (record { at = at + 4; size = length r.bytes } ∷ digests (at + (4 + length r.bytes)) rs)
    (digests (at + (4 + length r.bytes)) rs)
