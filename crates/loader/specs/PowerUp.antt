-- Document 01, "What a power-up does": D, the answer, the plain start and the full start.
use Rattle.std.specs.Prelude.{List, Bool, true, false, ℕ, ◌-◌, take, Ok, Err}
use Rattle.spans.specs.Choice.{pick}
use Rattle.flash.specs.declared.Geometry.{Geometry}
use Rattle.flash.specs.declared.End.{End}
use Rattle.flash.specs.Geometry.{data_bytes}
use Rattle.flash.specs.Build.{Flash, valid}
use Rattle.flash.specs.Base.{build}
use Rattle.flash.specs.Operations.{State, start, steps}
use Rattle.causes.specs.Check.{Verdict, Header, head, check, accepted}
use Rattle.plan.specs.declared.Course.{Course}
use Rattle.plan.specs.declared.Course.TheVariants.{Damage, FromLineThree, Resume, Test, Permanent, Revert, Clear, Nothing}
use Rattle.plan.specs.declared.Done.{Done}
use Rattle.plan.specs.Decision.{decide, list_of, ok_unset, done_of, found_of}
use Rattle.answers.specs.declared.Refusal.{Refusal}
use Rattle.answers.specs.declared.Outcome.{Outcome}
use Rattle.answers.specs.declared.Answer.{Answer}

-- what a power-up comes to: its answer, and what the areas then hold
pub record Result : Type 0 where
  pub answer : Answer
  pub flash : Flash

-- an answer with what the areas then hold, as the promises pair them
abbrev pub result_of : Answer → Flash → Result
result_of a f = record { answer = a; flash = f }

-- ---- D

-- "the full start takes a choice, and if told to, runs the image check on slot 0 before booting it"; 4: "cause 3, 4 or 5 in slot 0"
unfoldable pub judged_start : ℕ → Verdict → Outcome
judged_start offset (Ok _) = Outcome.Boot offset
judged_start offset (Err c) = Outcome.Refused (Refusal.Image c)

-- "the answer is its header size as an offset"; 3: "slot 0, at D, would meet cause 1 or 2"
unfoldable pub started : Bool → Header → Verdict → Outcome
started checked (Err c) v = Outcome.Refused Refusal.Header
started checked (Ok s) v = pick checked (judged_start s.header v) (Outcome.Boot s.header)

-- "against the slot's m·s data bytes"
unfoldable pub data_of : Geometry → List ℕ → List ℕ
data_of g xs = take (data_bytes g).0 xs

unfoldable pub boot_of : Bool → Geometry → Flash → Outcome
boot_of checked g f = started checked (head (data_of g f.in0)) (check (data_of g f.in0))

-- ---- the answer

-- "Stopped comes before 3"; 8: "a unit to be written is not erased"
unfoldable pub ended : Bool → Geometry → Flash → End → Outcome
ended checked g f End.Going = boot_of checked g f
ended checked g f End.Stopped = Outcome.Stopped
ended checked g f End.Unerased = Outcome.Refused Refusal.Unerased

-- the list of a course, carried out under an allowance of b operations
unfoldable pub carried : Geometry → ℕ → Flash → Course → State
carried g b f course = steps (build g) (list_of (build g) (ok_unset (build g) f) course) (start b f)

unfoldable pub answered : Bool → Geometry → ℕ → Course → State → Result
answered checked g b course s = record {
  answer = record {
    done = done_of course;
    found = found_of course;
    count = b - s.run.left;
    outcome = ended checked g s.flash
        s.run.end;
  };
  flash = s.flash;
}

-- "Refusals 1, 2 and 5 to 7 have count 0"; "on 1 and 2 it is none"; the areas are as before
unfoldable pub refused : Refusal → Flash → Result
refused r f = record { answer = record { done = Done.None; found = 0; count = 0; outcome = Outcome.Refused r }; flash = f }

-- damage, and every other course
unfoldable pub is_damage : Course → Bool
is_damage Damage = true
is_damage (FromLineThree p) = false
is_damage (Resume c) = false
is_damage Test = false
is_damage Permanent = false
is_damage Revert = false
is_damage Clear = false
is_damage Nothing = false

-- refusal 2 before anything is written; else the list in force
unfoldable pub on_course : Bool → Geometry → ℕ → Flash → Course → Result
on_course checked g b f Damage = refused Refusal.Damage f
on_course checked g b f (FromLineThree p) = answered checked g b (FromLineThree p) (carried g b f (FromLineThree p))
on_course checked g b f (Resume c) = answered checked g b (Resume c) (carried g b f (Resume c))
on_course checked g b f Test = answered checked g b Test (carried g b f Test)
on_course checked g b f Permanent = answered checked g b Permanent (carried g b f Permanent)
on_course checked g b f Revert = answered checked g b Revert (carried g b f Revert)
on_course checked g b f Clear = answered checked g b Clear (carried g b f Clear)
on_course checked g b f Nothing = answered checked g b Nothing (carried g b f Nothing)

-- "It takes the geometry, the areas and an allowance of operations." "Power-up order: 1, 2, then as things come"
unfoldable pub full_start : Bool → Geometry → ℕ → Flash → Result
full_start checked g b f = pick (valid (build g) f) (on_course checked g b f (decide accepted (build g) f)) (refused Refusal.Geometry f)

-- "The plain start does not check slot 0"
unfoldable pub power_up : Geometry → ℕ → Flash → Result
power_up = full_start false
