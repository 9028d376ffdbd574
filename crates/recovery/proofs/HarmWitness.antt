-- The test exchange of `Witness` cut with harm: each data sector and its last unit can hold any bytes, in each of the three areas; and
-- cut again and again.
use Rattle.std.specs.Prelude.{◌≡◌, refl, List, [], ◌∷◌, false, ℕ, suc, ◌+◌, length, drop}
use Rattle.std.proofs.Common.{arith}
use Rattle.spans.specs.Bytes.{part, put, blank, same}
use Rattle.spans.specs.Choice.{every}
use Rattle.flash.specs.Geometry.{sector_no, unit_no}
use Rattle.flash.specs.Build.{Area, slot0, slot1, scratch, area, asked, fits, valid}
use Rattle.flash.specs.Base.{three_moves, all_moves, base}
use Rattle.flash.specs.Operations.{erase, copy, run, apply}
use Rattle.flash.specs.Harm.{half_erased, half_copied}
use Rattle.trailer.specs.Trailer.{magic_bytes, trailer, magic_of, mark_of, mark_bytes, is_good, is_no_magic, is_unset, has_value, written, legal}
use Rattle.plan.specs.Lists.{writes, magic_ops, ok_ops, lines_one_two, lines_three_to_six, copies, move_ops, data_ops, exchange}
use Rattle.plan.specs.Decision.{step_a, continue, step_b, state_c, asks, judged, decide, list_of, ok_unset, in_force}
use Rattle.recovery.specs.Cuts.{at_cut}
use Rattle.recovery.specs.Statement.{Failures, never, again}
use Rattle.recovery.specs.Edges.{small, slot, flash, accepts}
use Rattle.recovery.specs.Witness.{for_test, test_due_lem, sevens, harmed, harm_comes, in_force_lem}
use Rattle.recovery.specs.FailuresAllow.{Led}
use Rattle.recovery.proofs.FailuresAllow.{harm_anywhere}
use Rattle.recovery.specs.HarmWitness.{nines, harmed_twice, harmed_thrice}

-- the number of the operation that erases an area's data sector, and the area that it is then filled from
erased_at : Area → ℕ
erased_at scratch = 39
erased_at slot1 = 553
erased_at slot0 = 1067

filled_from : Area → Area
filled_from scratch = slot1
filled_from slot1 = slot0
filled_from slot0 = scratch

next_erase : (a : Area) → drop (erased_at a) (exchange small false) ≡ erase a (sector_no 0) ∷ drop (suc (erased_at a)) (exchange small false)
unfolding erased_at small base writes magic_ops ok_ops lines_one_two lines_three_to_six copies move_ops data_ops exchange three_moves all_moves magic_bytes
next_erase scratch = refl
next_erase slot1 = refl
next_erase slot0 = refl

last_copy : (a : Area) → drop (erased_at a + 512) (exchange small false)
    ≡ copy (filled_from a) (unit_no 511) a (unit_no 511) ∷ drop (suc (erased_at a + 512)) (exchange small false)
unfolding erased_at filled_from small base writes magic_ops ok_ops lines_one_two lines_three_to_six copies move_ops data_ops exchange three_moves
    all_moves magic_bytes
last_copy scratch = refl
last_copy slot1 = refl
last_copy slot0 = refl

long : (a : Area) → length (area a for_test) ≡ 1024
unfolding for_test flash slot magic_bytes put blank
long scratch = refl
long slot1 = refl
long slot0 = refl

pub any_sector : (a : Area) (bytes : List ℕ) → length bytes ≡ 512 → Led small (in_force accepts small) for_test a 0 bytes
unfolding small base
any_sector a bytes l =
    harm_anywhere small (in_force accepts small) never test_due_lem.fits (erased_at a) (erase a (sector_no 0))
    (drop (suc (erased_at a)) (exchange small false)) (rw in_force_lem (next_erase a)) (omega (arith, long a)) bytes l

pub any_unit : (a : Area) (bytes : List ℕ) → length bytes ≡ 1 → Led small (in_force accepts small) for_test a 511 bytes
unfolding small base
any_unit a bytes l =
    harm_anywhere small (in_force accepts small) never test_due_lem.fits (erased_at a + 512) (copy (filled_from a) (unit_no 511) a (unit_no 511))
    (drop (suc (erased_at a + 512)) (exchange small false)) (rw in_force_lem (last_copy a)) (omega (arith, long a)) bytes l

resumed : in_force accepts small harmed ≡ data_ops small 3 small.moves
unfolding for_test sevens harmed accepts flash slot small base fits asked every valid in_force list_of decide judged asks step_a step_b continue
    state_c written legal has_value is_unset is_no_magic is_good mark_of mark_bytes magic_of trailer magic_bytes put part blank same run apply writes
    magic_ops ok_ops lines_one_two lines_three_to_six copies move_ops data_ops exchange three_moves all_moves ok_unset
resumed = refl

resumed_again : in_force accepts small harmed_twice ≡ data_ops small 4 (drop 1 small.moves)
unfolding for_test sevens harmed nines harmed_twice accepts flash slot small base fits asked every valid in_force list_of decide judged asks
    step_a step_b continue state_c written legal has_value is_unset is_no_magic is_good mark_of mark_bytes magic_of trailer magic_bytes put part blank same
    run apply writes magic_ops ok_ops lines_one_two lines_three_to_six copies move_ops data_ops exchange three_moves all_moves ok_unset
resumed_again = refl

slot1_erase : drop 514 (data_ops small 3 small.moves) ≡ erase slot1 (sector_no 0) ∷ drop 515 (data_ops small 3 small.moves)
unfolding small base copies move_ops data_ops three_moves all_moves
slot1_erase = refl

slot0_copy : drop 518 (data_ops small 4 (drop 1 small.moves))
    ≡ copy scratch (unit_no 3) slot0 (unit_no 3) ∷ drop 519 (data_ops small 4 (drop 1 small.moves))
unfolding small base copies move_ops data_ops three_moves all_moves
slot0_copy = refl

pub harm_twice : Failures small (in_force accepts small) for_test harmed_twice
unfolding harmed_twice nines small base
harm_twice = again {f₁ = harmed} {f₂ = harmed_twice} harm_comes (rw resumed (at_cut (record {
  count = 514;
  next = erase slot1 (sector_no 0);
  rest = drop 515 (data_ops small 3 small.moves);
  there = slot1_erase;
  torn = half_erased nines (omega arith) refl refl;
})))

pub harm_thrice : Failures small (in_force accepts small) for_test harmed_thrice
unfolding harmed_thrice small base
harm_thrice = again {f₁ = harmed_twice} {f₂ = harmed_thrice} harm_twice (rw resumed_again (at_cut (record {
  count = 518;
  next = copy scratch (unit_no 3) slot0 (unit_no 3);
  rest = drop 519 (data_ops small 4 (drop 1 small.moves));
  there = slot0_copy;
  torn = half_copied (5 ∷ []) (omega arith) refl refl;
})))
