-- Document 01's numbers of what is answered, by computing: "Refusal numbers", what was done, and which number stands in which field.
use Rattle.std.specs.Prelude.{refl, List, [], ◌∷◌, ℕ, Result, Ok, Err, ⊤}
use Rattle.spans.specs.Table.{Row, row, Holds, no_more, and}
use Rattle.causes.specs.Check.{number_of}
use Rattle.causes.specs.declared.Cause.TheVariants.{RecordsArea, DigestRecord, DigestDiffers}
use Rattle.plan.specs.declared.Done.{Done}
use Rattle.answers.specs.declared.Refusal.{Refusal}
use Rattle.answers.specs.declared.Refusal.TheVariants.{Geometry, Damage, Header, Image, Marks, UnderWay, Needs, Unerased}
use Rattle.answers.specs.declared.Outcome.{Outcome}
use Rattle.answers.specs.declared.numbers.Numbers.{Numbers}
use Rattle.answers.specs.declared.numbers.MarkNumbers.{MarkNumbers}
use Rattle.answers.specs.Numbers.{refusal_number, refusal_cause, done_number, end_number, offset_number, outcome_refusal, outcome_cause, ending_refusal}
use Rattle.answers.specs.Numbers.{with_outcome, answer_numbers, marked_numbers}

-- an answer after 7 operations, with 4 marks found
ended : Done → Outcome → Numbers
ended done outcome = answer_numbers (record { done = done; found = 4; count = 7; outcome = outcome })

-- the numbers, in the order of their fields
numbers : ℕ → ℕ → ℕ → ℕ → ℕ → Numbers
numbers done end offset refusal cause =
    record { done = done; found = 4; count = 7; end = end; offset = offset; refusal = refusal; cause = cause }

marked : Result ⊤ Refusal → MarkNumbers
marked ending = marked_numbers (record { ending = ending; count = 16 })

mark_numbers : ℕ → MarkNumbers
mark_numbers refusal = record { refusal = refusal; count = 16 }

pub edges : List Row
edges =
    -- "1 | geometry or area lengths wrong", "2 | damage under A or B", "3 | slot 0, at D, would meet cause 1 or 2"
    row (refusal_number Geometry) 1 ∷ row (refusal_number Damage) 2 ∷ row (refusal_number Header) 3
    -- "4 | full start, checking chosen: cause 3, 4 or 5 in slot 0; the cause is given"
    ∷ row (refusal_number (Image RecordsArea)) 4 ∷ row (refusal_number (Image DigestRecord)) 4 ∷ row (refusal_number (Image DigestDiffers)) 4
    -- "5 | marking: image ok or magic of slot 1 not Unset", "6 | marking or confirming: exchange under way",
    -- "7 | confirming: its needs not met", "8 | a unit to be written is not erased"
    ∷ row (refusal_number Marks) 5 ∷ row (refusal_number UnderWay) 6 ∷ row (refusal_number Needs) 7 ∷ row (refusal_number Unerased) 8
    -- "what was done (none, test, permanent, revert, resumed, cleared)"; a boot ends it as 0, with its offset
    ∷ row (ended Done.None (Outcome.Boot 32)) (numbers 0 0 32 0 0) ∷ row (ended Done.Test (Outcome.Boot 48)) (numbers 1 0 48 0 0)
    ∷ row (ended Done.Permanent (Outcome.Boot 64)) (numbers 2 0 64 0 0) ∷ row (ended Done.Revert (Outcome.Boot 80)) (numbers 3 0 80 0 0)
    ∷ row (ended Done.Resumed (Outcome.Boot 96)) (numbers 4 0 96 0 0) ∷ row (ended Done.Cleared (Outcome.Boot 112)) (numbers 5 0 112 0 0)
    -- "The offset is 0 without a boot": Stopped ends it as 1, a refusal as 2; "the cause is given" with refusal 4 alone
    ∷ row (ended Done.Test Outcome.Stopped) (numbers 1 1 0 0 0) ∷ row (ended Done.Cleared (Outcome.Refused Header)) (numbers 5 2 0 3 0)
    ∷ row (ended Done.None (Outcome.Refused (Image RecordsArea))) (numbers 0 2 0 4 3)
    ∷ row (ended Done.None (Outcome.Refused (Image DigestRecord))) (numbers 0 2 0 4 4)
    ∷ row (ended Done.None (Outcome.Refused (Image DigestDiffers))) (numbers 0 2 0 4 5)
    -- marking and confirming: 0 where it is written
    ∷ row (marked (Ok tt)) (mark_numbers 0) ∷ row (marked (Err UnderWay)) (mark_numbers 6) ∷ []

pub edges_hold : Holds edges
unfolding edges ended numbers marked mark_numbers
    number_of
edges_hold =
    and refl (and refl (and refl (and refl (and refl (and refl (and refl (and refl (and refl (and refl (and refl
    (and refl (and refl (and refl (and refl (and refl (and refl (and refl (and refl (and refl (and refl (and refl
    (and refl no_more))))))))))))))))))))))
