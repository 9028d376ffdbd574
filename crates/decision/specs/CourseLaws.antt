-- What the check's answer changes, in one line.
use Rattle.std.specs.Prelude.{◌≡◌, refl, Bool, true, false, ◌&&◌, not}
use Rattle.spans.specs.Choice.{pick}
use Rattle.plan.specs.declared.Course.{Course}
use Rattle.plan.specs.declared.Course.TheVariants.{Damage, FromLineThree, Resume, Test, Permanent, Revert, Clear, Nothing}
use Rattle.plan.specs.Decision.{judged}
use Rattle.plan.specs.Asked.{asks_check}

pub judged_by : (accepted : Bool) (c : Course) → judged accepted c ≡ pick (not accepted && asks_check c) Clear c
unfolding judged asks_check
judged_by true Damage = refl
judged_by true (FromLineThree p) = refl
judged_by true (Resume c) = refl
judged_by true Test = refl
judged_by true Permanent = refl
judged_by true Revert = refl
judged_by true Clear = refl
judged_by true Nothing = refl
judged_by false Damage = refl
judged_by false (FromLineThree p) = refl
judged_by false (Resume c) = refl
judged_by false Test = refl
judged_by false Permanent = refl
judged_by false Revert = refl
judged_by false Clear = refl
judged_by false Nothing = refl
