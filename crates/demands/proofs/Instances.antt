-- Flash for which the hypotheses of the demands hold, with the image check itself: an image in slot 1 (w 1, s 512, n 2), an exchange of each
-- kind due, and power that fails while slot 1's sector, the image in it, is erased.
use Rattle.std.specs.Prelude.{◌≡◌, refl, List, [], ◌∷◌, ◌++◌, Bool, true, false, ℕ, drop, replicate}
use Rattle.std.proofs.Math.Path.{ap, ap₂}
use Rattle.std.proofs.Common.{◌∙◌, arith, take_at}
use Rattle.std.proofs.Math.ListN.{length, length-append}
use Rattle.std.proofs.Math.Seq.{drop_at}
use Rattle.spans.specs.Bytes.{part, put, blank, same}
use Rattle.spans.specs.Choice.{every}
use Rattle.spans.specs.Laws.{length_blank}
use Rattle.flash.specs.Geometry.{sector_no}
use Rattle.flash.specs.Build.{slot0, slot1, Build, Flash, asked, fits, valid}
use Rattle.flash.specs.Base.{three_moves, all_moves, base, build}
use Rattle.flash.specs.Operations.{erase}
use Rattle.flash.specs.Harm.{half_erased}
use Rattle.trailer.specs.Trailer.{magic_bytes, trailer, magic_of, mark_of, is_good, is_no_magic, is_unset, has_value, written, legal}
use Rattle.causes.specs.Check.{accepted}
use Rattle.plan.specs.declared.Course.{Course}
use Rattle.plan.specs.declared.Course.TheVariants.{Test, Permanent, Revert}
use Rattle.plan.specs.Lists.{writes, magic_ops, ok_ops, lines_one_two, lines_three_to_six, copies, move_ops, data_ops, exchange}
use Rattle.plan.specs.Decision.{step_a, continue, step_b, state_c, asks, judged, ok_unset, in_force}
use Rattle.plan.specs.DecisionLaws.{decide_checked}
use Rattle.plan.specs.Asked.{asked_by}
use Rattle.recovery.specs.Cuts.{at_cut}
use Rattle.recovery.proofs.Follows.{exchange_list}
use Rattle.recovery.specs.Statement.{Due, Exchange, by_test, by_permanent, by_revert, Failures, never, again}
use Rattle.loader.specs.PowerUp.{data_of}
use Rattle.demands.proofs.Demand2.{image_accepted}
use Rattle.demands.specs.Instances.{small, image, an_image, image_whole, ending, flash, for_test, for_good, on_trial, harmed}

-- ---- an exchange is due, if the trailers ask for it

exchanged : {course : Course} {p : Bool} → Exchange course p → judged true course ≡ course
unfolding judged
exchanged by_test = refl
exchanged by_permanent = refl
exchanged by_revert = refl

module _ (t0 t1 : List ℕ) where
  -- what the trailers and the data bytes of these areas are
  pub ends_0 : trailer (build small) slot0 (flash t0 t1) ≡ t0
  unfolding flash small base trailer
  ends_0 = drop_at (blank 512) t0 512 (length_blank 512)

  pub ends_1 : trailer (build small) slot1 (flash t0 t1) ≡ t1
  unfolding flash small base trailer
  ends_1 = drop_at image t1 512 image_whole

  pub lent_image : accepted (data_of small (flash t0 t1).in1) ≡ true
  unfolding flash small data_of
  lent_image = ap accepted (take_at image t1 512 image_whole) ∙ image_accepted image an_image

  pub asked_so : {course : Course} → asks (build small) t0 t1 (drop 512 (blank 1024)) ≡ course → asked_by small (flash t0 t1) ≡ course
  unfolding flash small base trailer
  asked_so e = rw (ends_0, ends_1) e

  module _ (l0 : length t0 ≡ 512) (l1 : length t1 ≡ 512) where
    pub fits_so : valid (build small) (flash t0 t1) ≡ true
    unfolding flash small base valid fits asked every
    fits_so =
        let b2 : length (blank 1024) ≡ 1024 = length_blank 1024 in
        let n0 : length (blank 512 ++ t0) ≡ 1024 = length-append (blank 512) t0 ∙ omega (arith, length_blank 512) in
        let n1 : length (image ++ t1) ≡ 1024 = length-append image t1 ∙ omega (arith, image_whole) in
        rw (n0, n1, b2)

    due : {course : Course} {p : Bool} → Exchange course p → asks (build small) t0 t1 (drop 512 (blank 1024)) ≡ course
        → Due accepted (build small) (flash t0 t1) course p
    unfolding data_of
    due which e = record {
      fits = fits_so;
      which = which;
      decided = decide_checked accepted small (flash t0 t1) ∙ ap₂ judged lent_image (asked_so e) ∙ exchanged which;
    }

pub test_due_lem : Due accepted (build small) for_test Test false
unfolding for_test small ending base asks step_a step_b continue state_c written legal has_value is_unset is_no_magic is_good mark_of magic_of magic_bytes put
    part blank same
test_due_lem = due (ending (1 ∷ []) [] magic_bytes) (ending [] [] magic_bytes) refl refl by_test refl

pub permanent_due_lem : Due accepted (build small) for_good Permanent true
unfolding for_good small ending base asks step_a step_b continue state_c written legal has_value is_unset is_no_magic is_good mark_of magic_of magic_bytes put
    part blank same
permanent_due_lem = due (blank 512) (ending [] (1 ∷ []) magic_bytes) refl refl by_permanent refl

pub revert_due_lem : Due accepted (build small) on_trial Revert true
unfolding on_trial small ending base asks step_a step_b continue state_c written legal has_value is_unset is_no_magic is_good mark_of magic_of magic_bytes put
    part blank same
revert_due_lem = due (ending (1 ∷ []) [] magic_bytes) (blank 512) refl refl by_revert refl

-- ---- power fails

pub in_force_lem : {g : Build} {f : Flash} {course : Course} {p : Bool} → Due accepted g f course p → in_force accepted g f ≡ exchange g p
unfolding in_force
in_force_lem {g} {f} d = rw (d.fits, d.decided) (exchange_list g (ok_unset g f) d.which)

next_erase : drop 553 (exchange (build small) false) ≡ erase slot1 (sector_no 0) ∷ drop 554 (exchange (build small) false)
unfolding small base writes magic_ops ok_ops lines_one_two lines_three_to_six copies move_ops data_ops exchange three_moves all_moves magic_bytes
next_erase = refl

pub harm_comes : Failures (build small) (in_force accepted (build small)) for_test harmed
unfolding harmed small base
harm_comes = again {f₁ = for_test} {f₂ = harmed} never (rw (in_force_lem test_due_lem) (at_cut (record {
  count = 553;
  next = erase slot1 (sector_no 0);
  rest = drop 554 (exchange (build small) false);
  there = next_erase;
  torn = half_erased (replicate 512 7) (omega arith) refl refl;
})))
