-- Laws for the code of B and C: the tests by name, the number of moves of the base, and what the check of the image changes.
use Rattle.std.specs.Prelude.{◌≡◌, refl, List, Bool, true, false, ◌&&◌, ℕ, ◌+◌, ◌*◌, ◌-◌, length, take}
use Rattle.std.proofs.Common.{arith}
use Rattle.flash.specs.declared.Geometry.{Geometry}
use Rattle.flash.specs.Geometry.{data_bytes}
use Rattle.flash.specs.Build.{Build, lent_bytes, Flash}
use Rattle.flash.specs.Base.{base, build}
use Rattle.flash.specs.BaseLaws.{length_moves}
use Rattle.flash.specs.Small.{Small}
use Rattle.trailer.specs.Trailer.{ok_at, copy_done_at, magic_of, is_good, is_no_magic, mark_of, is_unset, has_value}
use Rattle.plan.specs.declared.Course.{Course}
use Rattle.plan.specs.declared.Course.TheVariants.{Damage, FromLineThree, Resume, Test, Permanent, Revert, Clear, Nothing}
use Rattle.plan.specs.Decision.{judged, decide}
use Rattle.plan.specs.Asked.{asked_by, asks_check}

-- ---- the tests of B and C by name

abbrev pub marks_read : Build → List ℕ → Bool
marks_read g t0 = is_good (magic_of g t0) && is_unset (mark_of g t0 (copy_done_at g))

abbrev pub test_due : Build → List ℕ → Bool
test_due g t1 = is_good (magic_of g t1) && is_unset (mark_of g t1 (ok_at g))

abbrev pub permanent_due : Build → List ℕ → Bool
permanent_due g t1 = is_good (magic_of g t1) && has_value 1 (mark_of g t1 (ok_at g))

abbrev pub revert_due : Build → List ℕ → List ℕ → Bool
revert_due g t0 t1 =
    is_good (magic_of g t0) && (is_unset (mark_of g t0 (ok_at g)) && (has_value 1 (mark_of g t0 (copy_done_at g)) && is_no_magic (magic_of g t1)))

-- ---- the run of marks

-- "c from 3 to 3n"
pub most_marks : (g : Geometry) → Small g → 3 + length (build g).moves ≡ 3 * g.sectors
unfolding base
most_marks g small = omega (arith, length_moves (g.sectors - 1))

-- ---- what the check's answer changes

pub accepted_course : (c : Course) → judged true c ≡ c
unfolding judged
accepted_course Damage = refl
accepted_course (FromLineThree p) = refl
accepted_course (Resume c) = refl
accepted_course Test = refl
accepted_course Permanent = refl
accepted_course Revert = refl
accepted_course Clear = refl
accepted_course Nothing = refl

-- where the check is not asked for, its answer changes nothing
pub unchecked_course : (accepted : Bool) (c : Course) → asks_check c ≡ false → judged accepted c ≡ c
unfolding asks_check judged
unchecked_course accepted Damage h = refl
unchecked_course accepted (FromLineThree p) h = refl
unchecked_course accepted (Resume c) h = refl
unchecked_course accepted Test h = cc
unchecked_course accepted Permanent h = cc
unchecked_course accepted Revert h = cc
unchecked_course accepted Clear h = refl
unchecked_course accepted Nothing h = refl

pub rejected_course : (c : Course) → asks_check c ≡ true → judged false c ≡ Clear
unfolding asks_check judged
rejected_course Damage h = cc
rejected_course (FromLineThree p) h = cc
rejected_course (Resume c) h = cc
rejected_course Test h = refl
rejected_course Permanent h = refl
rejected_course Revert h = refl
rejected_course Clear h = refl
rejected_course Nothing h = cc

-- the decision of the base, as code comes to it: first what the trailers ask for, then the check where it is asked for
pub decide_checked : (check : List ℕ → Bool) (g : Geometry) (f : Flash)
    → decide check (build g) f ≡ judged (check (take (data_bytes g).0 f.in1)) (asked_by g f)
unfolding decide base
decide_checked check g f = refl

pub decide_unchecked : (check : List ℕ → Bool) (g : Geometry) (f : Flash) → asks_check (asked_by g f) ≡ false
    → decide check (build g) f ≡ asked_by g f
unfolding decide
decide_unchecked check g f h = unchecked_course (check (take (lent_bytes (build g)).0 f.in1)) (asked_by g f) h
