-- The walk over the trailing records, as the code counts: how many are of type 1, and where the last of them stands.
use Rattle.std.specs.Prelude.{List, [], ◌∷◌, ℕ, ◌+◌, eqb, Result, Ok, Err}
use Rattle.spans.specs.Choice.{pick}
use Rattle.records.specs.Records.{Split, Place, digests}
use Rattle.records.specs.declared.Fault.{Fault}
use Rattle.records.specs.declared.Fault.TheVariants.{NotFilled, NotOneDigest}

-- some bytes make no record; or the records fill the area, and of so many of type 1 the last has so many bytes at a place
pub data Walked : Type 0 where
  Short : Walked
  Filled : ℕ → ℕ → ℕ → Walked

unfoldable pub counted : List Place → ℕ → ℕ → ℕ → Walked
counted [] n place size = Filled n place size
counted (d ∷ ds) n place size = counted ds (n + 1) d.at d.size

unfoldable pub unless_over : List ℕ → Walked → Walked
unless_over [] w = w
unless_over (x ∷ xs) w = Short

unfoldable pub walked : Split → ℕ → ℕ → ℕ → ℕ → Walked
walked s at n place size = unless_over s.over (counted (digests at s.found) n place size)

-- the walk's answer: where the one digest of 32 bytes stands, or why there is none
unfoldable pub place_or_cause : Walked → Result ℕ Fault
place_or_cause Short = Err NotFilled
place_or_cause (Filled n place size) = pick (eqb n 1) (pick (eqb size 32) (Ok place) (Err NotOneDigest)) (Err NotOneDigest)
