-- Document 01's edges of a whole start, with the image check itself, in its numbers: exchanges of an accepted image, and refusal 4.
use Rattle.std.specs.Prelude.{Bool, false}
use mathlib.Core.List.{List, [], ◌∷◌, ◌++◌}
use Rattle.std.proofs.Math.Bool.{true}
use Prim.Native.Nat.{ℕ}
use Rattle.spans.specs.Table.{Row, row}
use Rattle.flash.specs.Build.{Flash}
use Rattle.causes.specs.Edges.{header, digest}
use Rattle.answers.specs.declared.numbers.Numbers.{Numbers}
use Rattle.answers.specs.Numbers.{answer_numbers}
use Rattle.loader.specs.PowerUp.{full_start}
use Rattle.demands.specs.Instances.{small, for_test, for_good, on_trial, booted}

-- what the full start answers, slot 0 checked or not
unfoldable pub answer : Bool → ℕ → Flash → Numbers
answer checked allowance f = answer_numbers (full_start checked small allowance f).answer

-- ---- refusal 4

-- what it says: what was done, the count, the end, the offset, the refusal and the cause, with no marks found
unfoldable pub says : ℕ → ℕ → ℕ → ℕ → ℕ → ℕ → Numbers
says done count end offset refusal cause =
    record { done = done; found = 0; count = count; end = end; offset = offset; refusal = refusal; cause = cause }

unfoldable pub edges : List Row
edges =
    -- "Both I and slot 0 ready for III, image accepted: test." "Allowance 0, exchange due: Stopped, count 0."
    row (answer true 0 for_test) (says 1 0 1 0 0 0)
    -- "test exchange 1,582 operations, permanent 1,584"; then slot 0 boots at its header size
    ∷ row (answer true 1582 for_test) (says 1 1582 0 32 0 0) ∷ row (answer true 1584 for_good) (says 2 1584 0 32 0 0)
    ∷ row (answer true 1584 on_trial) (says 3 1584 0 32 0 0)
    -- "full start, checking chosen: cause 3, 4 or 5 in slot 0; the cause is given": records area 0 bytes, and 38 with the digest record first;
    -- "The plain start does not check slot 0"
    ∷ row (answer true 4000 (booted (header 0 32 8 0))) (says 0 0 2 0 4 4)
    ∷ row (answer true 4000 (booted (header 38 32 0 0 ++ digest 32 ++ (0 ∷ 0 ∷ [])))) (says 0 0 2 0 4 3)
    ∷ row (answer false 4000 (booted (header 0 32 8 0))) (says 0 0 0 32 0 0) ∷ []
