-- The theorems about marking and confirming applied: their hypotheses can be met, and what they say then is document 01's.
use Rattle.std.specs.Prelude.{◌≡◌, Bool, true, false, ◌&&◌, ℕ, ◌+◌, drop, Ok}
use Rattle.std.proofs.Math.Path.{refl}
use Rattle.std.proofs.Common.{sym, ap, ◌∙◌, arith}
use mathlib.Core.List.{List, [], ◌∷◌}
use Rattle.std.proofs.Math.Bool.{false≢true}
use Rattle.spans.specs.Bytes.{part, put, blank, same}
use Rattle.flash.specs.Geometry.{sector_no}
use Rattle.flash.specs.Build.{slot0, slot1, Flash}
use Rattle.flash.specs.Base.{base, build}
use Rattle.trailer.specs.Trailer.{magic_bytes, ok_at, copy_done_at, magic_of, mark_of, is_good, is_no_magic, is_unset, has_value, written, legal}
use Rattle.causes.specs.Check.{accepted}
use Rattle.plan.specs.declared.Course.TheVariants.{Revert, Nothing}
use Rattle.plan.specs.Asked.{flash_of, asked_by}
use Rattle.plan.specs.Decision.{step_a, continue, step_b, state_c, asks, decide}
use Rattle.plan.specs.Lengths.{one_if}
use Rattle.recovery.specs.All.{none, one}
use Rattle.recovery.specs.Statement.{Due, sector_of}
use Rattle.answers.specs.declared.Marked.{Marked}
use Rattle.marking.specs.Marking.{unmarked, marking, confirmable, confirming}
use Rattle.marking.specs.Standing.{standing_of}
use Rattle.demands.specs.Promise.{Marks, met_mark}
use Rattle.demands.specs.MarkStatement.{ok_put, magic_put, MarkEnds, writes, refuses, Allowed, marked_for, unreverted}
use Rattle.demands.proofs.Marking.{whole_areas, marking_ends, confirming_ends}
use Rattle.demands.proofs.Allowed.{marking_allowed, confirming_allowed, allowed_marking, allowed_confirming, marking_only, confirming_only}
use Rattle.demands.proofs.MarkedNext.{marked_next, marked_due}
use Rattle.demands.proofs.ConfirmedNext.{confirmed_next, confirmed_stays}
use Rattle.demands.specs.Instances.{small, ending, for_test, on_trial}
use Rattle.demands.proofs.Instances.{fits_so}
use Rattle.demands.proofs.Instances.{ends_0, ends_1, lent_image, asked_so}
use Rattle.demands.specs.AppliedMarks.{bare}

whole_count : {numbers : List ℕ} {count : ℕ} {f whole f' : Flash} {a : Marked} → MarkEnds numbers count f whole a f'
    → a.ending ≡ Ok tt → a.count ≡ count
whole_count (writes e c h) w = c
whole_count (refuses r n e c h) w = absurd (let z : ◌≡◌ {A = ℕ} 0 1 = cc in omega arith)

-- ---- marking

nothing_due : asks (build small) (blank 512) (blank 512) (drop 512 (blank 1024)) ≡ Nothing
unfolding small base asks step_a step_b continue state_c written legal has_value is_unset is_no_magic is_good mark_of magic_of magic_bytes part blank same
nothing_due = refl

no_marks : (is_unset (mark_of (build small) (blank 512) (ok_at (build small))) && is_no_magic (magic_of (build small) (blank 512))) ≡ true
unfolding small base is_unset is_no_magic mark_of magic_of magic_bytes part blank same
no_marks = refl

markable : Allowed small bare (unmarked small bare)
unfolding bare unmarked standing_of blank
markable = record {
  fits = fits_so (blank 512) (blank 512) refl refl;
  free = ap standing_of (asked_so (blank 512) (blank 512) nothing_due);
  met = rw (ends_1 (blank 512) (blank 512)) no_marks;
}

marks_there : (is_unset (mark_of (build small) (ending [] [] magic_bytes) (ok_at (build small)))
    && is_no_magic (magic_of (build small) (ending [] [] magic_bytes))) ≡ false
unfolding small base ending is_unset is_no_magic mark_of magic_of magic_bytes put part blank same
marks_there = refl

module _ (p : Bool) where
  bare_marked : Marks (marking p) small bare (marking p small bare).answer (marking p small bare).flash
  bare_marked = met_mark (marking p) small bare

  pub marks_written : (marking p small bare).answer.ending ≡ Ok tt
  marks_written = allowed_marking p bare_marked markable

  pub marks_counted : (marking p small bare).answer.count ≡ 16 + one_if p
  unfolding small
  marks_counted = whole_count (marking_ends p bare_marked) marks_written

  pub marks_put : (marking p small bare).flash
      ≡ flash_of bare.in0 (magic_put (build small) slot1 (ok_put (build small) slot1 p bare.in1)) bare.in2
  marks_put = whole_areas (marking_ends p bare_marked) marks_written

  pub image_left : sector_of (build small) (marking p small bare).flash slot1 (sector_no 0) ≡ sector_of (build small) bare slot1 (sector_no 0)
  unfolding small base
  image_left = marking_only p bare_marked slot1 (sector_no 0) (one refl none)

  pub asked_as_marked : asked_by small (marking p small bare).flash ≡ marked_for p
  asked_as_marked = marked_next p bare_marked marks_written

  -- the image is accepted: demand 3 speaks of what the next power-up does
  pub due_as_marked : Due accepted (build small) (marking p small bare).flash (marked_for p) p
  unfolding bare
  due_as_marked = marked_due p bare_marked marks_written (lent_image (blank 512) (blank 512))

  pub not_marked_twice : (marking p small for_test).answer.ending ≡ Ok tt → ⊥
  unfolding for_test unmarked
  not_marked_twice w =
      let m = (marking_allowed p (met_mark (marking p) small for_test) w).met in
      false≢true (sym marks_there ∙ (rw (ends_1 (ending (1 ∷ []) [] magic_bytes) (ending [] [] magic_bytes)) at m))

-- ---- confirming

revert_asked : asks (build small) (ending (1 ∷ []) [] magic_bytes) (blank 512) (drop 512 (blank 1024)) ≡ Revert
unfolding small ending base asks step_a step_b continue state_c written legal has_value is_unset is_no_magic is_good mark_of magic_of magic_bytes put part blank
    same
revert_asked = refl

trial : (is_good (magic_of (build small) (ending (1 ∷ []) [] magic_bytes))
    && (has_value 1 (mark_of (build small) (ending (1 ∷ []) [] magic_bytes) (copy_done_at (build small)))
    && is_unset (mark_of (build small) (ending (1 ∷ []) [] magic_bytes) (ok_at (build small))))) ≡ true
unfolding small ending base has_value is_unset is_good mark_of magic_of magic_bytes put part blank same
trial = refl

allowed_on_trial : Allowed small on_trial (confirmable small on_trial)
unfolding on_trial confirmable standing_of ending put blank magic_bytes
allowed_on_trial = record {
  fits = fits_so (ending (1 ∷ []) [] magic_bytes) (blank 512) refl refl;
  free = ap standing_of (asked_so (ending (1 ∷ []) [] magic_bytes) (blank 512) revert_asked);
  met = rw (ends_0 (ending (1 ∷ []) [] magic_bytes) (blank 512)) trial;
}

trial_confirmed : Marks confirming small on_trial (confirming small on_trial).answer (confirming small on_trial).flash
trial_confirmed = met_mark confirming small on_trial

pub ok_written : (confirming small on_trial).answer.ending ≡ Ok tt
ok_written = allowed_confirming trial_confirmed allowed_on_trial

pub ok_counted : (confirming small on_trial).answer.count ≡ 1
ok_counted = whole_count (confirming_ends trial_confirmed) ok_written

pub ok_put_lem : (confirming small on_trial).flash ≡ flash_of (ok_put (build small) slot0 true on_trial.in0) on_trial.in1 on_trial.in2
ok_put_lem = whole_areas (confirming_ends trial_confirmed) ok_written

pub running_image_left : sector_of (build small) (confirming small on_trial).flash slot0 (sector_no 0)
    ≡ sector_of (build small) on_trial slot0 (sector_no 0)
unfolding small base
running_image_left = confirming_only trial_confirmed slot0 (sector_no 0) (one refl none)

-- a revert was asked, and none is
pub none_asked : asked_by small (confirming small on_trial).flash ≡ Nothing
unfolding on_trial
none_asked = confirmed_next trial_confirmed ok_written ∙ ap unreverted (asked_so (ending (1 ∷ []) [] magic_bytes) (blank 512) revert_asked)

pub not_reverted : decide accepted (build small) (confirming small on_trial).flash ≡ Revert → ⊥
not_reverted = confirmed_stays accepted trial_confirmed ok_written

no_trial : (is_good (magic_of (build small) (blank 512)) && (has_value 1 (mark_of (build small) (blank 512) (copy_done_at (build small)))
    && is_unset (mark_of (build small) (blank 512) (ok_at (build small))))) ≡ false
unfolding small base has_value is_unset is_good mark_of magic_of magic_bytes part blank same
no_trial = refl

pub not_confirmed_bare : (confirming small bare).answer.ending ≡ Ok tt → ⊥
unfolding bare confirmable
not_confirmed_bare w =
    let m = (confirming_allowed (met_mark confirming small bare) w).met in
    false≢true (sym no_trial ∙ (rw (ends_0 (blank 512) (blank 512)) at m))
