-- Flashes for which the hypotheses of demand 3 hold: an exchange of each kind is due, and a failure with harm comes.
use Rattle.std.specs.Prelude.{◌≡◌, refl, List, [], ◌∷◌, true, false, ℕ, drop, replicate}
use Rattle.std.proofs.Common.{arith}
use Rattle.spans.specs.Bytes.{part, put, blank, same}
use Rattle.spans.specs.Choice.{every}
use Rattle.flash.specs.Geometry.{sector_no}
use Rattle.flash.specs.Build.{scratch, Flash, asked, fits, valid}
use Rattle.flash.specs.Base.{three_moves, all_moves, base}
use Rattle.flash.specs.Operations.{erase, store, run}
use Rattle.flash.specs.Harm.{half_erased}
use Rattle.trailer.specs.Trailer.{magic_bytes, trailer, magic_of, mark_of, is_good, is_no_magic, is_unset, has_value, written, legal}
use Rattle.plan.specs.declared.Course.TheVariants.{Test, Permanent, Revert}
use Rattle.plan.specs.Lists.{writes, magic_ops, ok_ops, lines_one_two, lines_three_to_six, copies, move_ops, data_ops, exchange}
use Rattle.plan.specs.Decision.{step_a, continue, step_b, state_c, asks, judged, decide, list_of, in_force}
use Rattle.recovery.specs.Cuts.{at_cut}
use Rattle.recovery.specs.Statement.{Due, by_test, by_permanent, by_revert, Failures, never, again}
use Rattle.recovery.specs.Edges.{small, slot, flash, accepts, ran}

-- slot 1 marked for test; marked for good; slot 0 on trial, and slot 1 with no magic
unfoldable pub for_test : Flash
for_test = flash (blank 1024) (slot [] [] magic_bytes)

pub for_good : Flash
for_good = flash (blank 1024) (slot [] (1 ∷ []) magic_bytes)

pub on_trial : Flash
on_trial = flash ran (blank 1024)

pub test_due_lem : Due accepts small for_test Test false
unfolding for_test ran accepts flash slot small base fits asked every valid decide judged asks step_a step_b continue state_c written legal
    has_value is_unset is_no_magic is_good mark_of magic_of trailer magic_bytes put part blank same
test_due_lem = record { fits = refl; which = by_test; decided = refl }

pub permanent_due_lem : Due accepts small for_good Permanent true
unfolding for_good ran accepts flash slot small base fits asked every valid decide judged asks step_a step_b continue state_c written legal
    has_value is_unset is_no_magic is_good mark_of magic_of trailer magic_bytes put part blank same
permanent_due_lem = record { fits = refl; which = by_permanent; decided = refl }

pub revert_due_lem : Due accepts small on_trial Revert true
unfolding on_trial ran accepts flash slot small base fits asked every valid decide judged asks step_a step_b continue state_c written legal
    has_value is_unset is_no_magic is_good mark_of magic_of trailer magic_bytes put part blank same
revert_due_lem = record { fits = refl; which = by_revert; decided = refl }

-- the test exchange is cut inside its first erase of data, and leaves sevens in scratch's data sector
unfoldable pub sevens : List ℕ
sevens = replicate 512 7

unfoldable pub harmed : Flash
harmed = store scratch 0 sevens (run small 39 (exchange small false) for_test)

pub in_force_lem : in_force accepts small for_test ≡ exchange small false
unfolding for_test ran accepts flash slot small base fits asked every valid in_force list_of decide judged asks step_a step_b continue state_c
    written legal has_value is_unset is_no_magic is_good mark_of magic_of trailer magic_bytes put part blank same
in_force_lem = refl

next_erase : drop 39 (exchange small false) ≡ erase scratch (sector_no 0) ∷ drop 40 (exchange small false)
unfolding small base writes magic_ops ok_ops lines_one_two lines_three_to_six copies move_ops data_ops exchange three_moves all_moves magic_bytes
next_erase = refl

pub harm_comes : Failures small (in_force accepts small) for_test harmed
unfolding harmed sevens small base
harm_comes = again {f₁ = for_test} {f₂ = harmed} never (rw in_force_lem (at_cut (record {
  count = 39;
  next = erase scratch (sector_no 0);
  rest = drop 40 (exchange small false);
  there = next_erase;
  torn = half_erased sevens (omega arith) refl refl;
})))
