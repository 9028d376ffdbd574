-- State III by slot 1 and by slot 0.
use Rattle.std.specs.Prelude.{◌≡◌, refl, List, Bool, true, false, ◌&&◌, ℕ}
use Rattle.flash.specs.Build.{Build}
use Rattle.trailer.specs.Trailer.{ok_at, copy_done_at, magic_of, is_good, is_no_magic, mark_of, is_unset, has_value}
use Rattle.plan.specs.DecisionLaws.{revert_due}

-- what it asks of slot 0
abbrev pub on_trial : Build → List ℕ → Bool
on_trial g t0 = is_good (magic_of g t0) && (is_unset (mark_of g t0 (ok_at g)) && has_value 1 (mark_of g t0 (copy_done_at g)))

last_first : (a b c d : Bool) → (a && (b && (c && d))) ≡ (d && (a && (b && c)))
last_first true true true true = refl
last_first true true true false = refl
last_first true true false true = refl
last_first true true false false = refl
last_first true false c true = refl
last_first true false c false = refl
last_first false b c true = refl
last_first false b c false = refl

pub revert_by : (g : Build) (t0 t1 : List ℕ) → revert_due g t0 t1 ≡ (is_no_magic (magic_of g t1) && on_trial g t0)
revert_by g t0 t1 =
    last_first (is_good (magic_of g t0)) (is_unset (mark_of g t0 (ok_at g))) (has_value 1 (mark_of g t0 (copy_done_at g)))
    (is_no_magic (magic_of g t1))
