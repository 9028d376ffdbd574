-- What one is told who reads on to the end, and what the records of an area tell.
use Rattle.std.specs.Prelude.{List, [], ◌∷◌, map, ℕ, zero, suc}
use Rattle.spans.specs.Bytes.{part}
use Rattle.records.specs.Records.{Trailing, Split, step_at, after}
use Rattle.records.specs.declared.Step.{Step}
use Rattle.records.specs.declared.Step.TheVariants.{End, Stump, Record}

-- what a reader tells of a record: its type and its bytes
pub record Told : Type 0 where
  pub kind : ℕ
  pub bytes : List ℕ

pub record Reading : Type 0 where
  pub told : List Told
  pub last : Step

-- One who reads on: the record at the reader's place, and then on from behind it, until the step is no record.
unfoldable pub reading_by : Step → List ℕ → Reading → Reading
reading_by End xs later = record { told = []; last = End }
reading_by Stump xs later = record { told = []; last = Stump }
reading_by (Record kind start size) xs later = record {
  told = record { kind = kind; bytes = part xs start size } ∷ later.told;
  last =
      later.last;
}

unfoldable pub read_on : ℕ → List ℕ → ℕ → Reading
read_on zero xs at = record { told = []; last = step_at xs at }
read_on (suc n) xs at = reading_by (step_at xs at) xs (read_on n xs (after (step_at xs at)))

-- the same of the definition's records: all of them, and then the end, or a stump where bytes are left over
unfoldable pub tell : Trailing → Told
tell r = record { kind = r.kind; bytes = r.bytes }

unfoldable pub last_of : List ℕ → Step
last_of [] = End
last_of (x ∷ xs) = Stump

unfoldable pub reading_of : Split → Reading
reading_of s = record { told = map tell s.found; last = last_of s.over }
