-- Document 01, "Refusal numbers", and the values of an answer: this paper's number for each case of an enum.
use Rattle.std.specs.Prelude.{ℕ, Result, Ok, Err, ⊤}
use Rattle.causes.specs.Check.{number_of}
use Rattle.plan.specs.declared.Done.{Done}
use Rattle.answers.specs.declared.Refusal.{Refusal}
use Rattle.answers.specs.declared.Refusal.TheVariants.{Geometry, Damage, Header, Image, Marks, UnderWay, Needs, Unerased}
use Rattle.answers.specs.declared.Outcome.{Outcome}
use Rattle.answers.specs.declared.Answer.{Answer}
use Rattle.answers.specs.declared.Marked.{Marked}
use Rattle.answers.specs.declared.numbers.Numbers.{Numbers}
use Rattle.answers.specs.declared.numbers.MarkNumbers.{MarkNumbers}

abbrev pub refusal_number : Refusal → ℕ
refusal_number Geometry = 1
refusal_number Damage = 2
refusal_number Header = 3
refusal_number (Image c) = 4
refusal_number Marks = 5
refusal_number UnderWay = 6
refusal_number Needs = 7
refusal_number Unerased = 8

-- "cause 3, 4 or 5 in slot 0; the cause is given"; 0 with any other refusal
abbrev pub refusal_cause : Refusal → ℕ
refusal_cause Geometry = 0
refusal_cause Damage = 0
refusal_cause Header = 0
refusal_cause (Image c) = number_of c
refusal_cause Marks = 0
refusal_cause UnderWay = 0
refusal_cause Needs = 0
refusal_cause Unerased = 0

-- "what was done (none, test, permanent, revert, resumed, cleared)", counted from 0
abbrev pub done_number : Done → ℕ
done_number Done.None = 0
done_number Done.Test = 1
done_number Done.Permanent = 2
done_number Done.Revert = 3
done_number Done.Resumed = 4
done_number Done.Cleared = 5

-- 0 a boot, 1 Stopped, 2 a refusal
abbrev pub end_number : Outcome → ℕ
end_number (Outcome.Boot o) = 0
end_number Outcome.Stopped = 1
end_number (Outcome.Refused r) = 2

-- "The offset is 0 without a boot."
abbrev pub offset_number : Outcome → ℕ
offset_number (Outcome.Boot o) = o
offset_number Outcome.Stopped = 0
offset_number (Outcome.Refused r) = 0

-- the refusal, and its cause; 0 without one
abbrev pub outcome_refusal : Outcome → ℕ
outcome_refusal (Outcome.Boot o) = 0
outcome_refusal Outcome.Stopped = 0
outcome_refusal (Outcome.Refused r) = refusal_number r

abbrev pub outcome_cause : Outcome → ℕ
outcome_cause (Outcome.Boot o) = 0
outcome_cause Outcome.Stopped = 0
outcome_cause (Outcome.Refused r) = refusal_cause r

abbrev pub ending_refusal : Result ⊤ Refusal → ℕ
ending_refusal (Ok x) = 0
ending_refusal (Err r) = refusal_number r

-- ---- the numbers that the C boundary answers

abbrev pub with_outcome : ℕ → ℕ → ℕ → Outcome → Numbers
with_outcome done found count o = record {
  done = done;
  found = found;
  count = count;
  end = end_number o;
  offset = offset_number o;
  refusal = outcome_refusal o;
  cause = outcome_cause o;
}

-- "what was done", "c as found", "the count", then the boot, Stopped or the refusal
abbrev pub answer_numbers : Answer → Numbers
answer_numbers a = with_outcome (done_number a.done) a.found a.count a.outcome

-- the refusal, 0 without one; "each answers its count"
abbrev pub marked_numbers : Marked → MarkNumbers
marked_numbers m = record { refusal = ending_refusal m.ending; count = m.count }
