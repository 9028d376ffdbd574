-- The theorems about a power-up applied, with the image check itself: their hypotheses can be met, and what they say then is document 01's.
-- ---- demand 3: the image that was destroyed in slot 1 stands in slot 0, and is booted
use Rattle.std.specs.Prelude.{◌≡◌, refl, List, [], ◌∷◌, true, false, ℕ, zero, suc, ◌<◌, length, replicate}
use Rattle.std.proofs.Common.{ap, ◌∙◌, arith, take_at}
use Rattle.spans.specs.Bytes.{part, put, blank, same}
use Rattle.spans.specs.Choice.{every}
use Rattle.fields.specs.Fields.{little, field}
use Rattle.flash.specs.Geometry.{sector_no}
use Rattle.flash.specs.Build.{Area, slot0, area, asked, fits, valid}
use Rattle.flash.specs.Base.{base, build}
use Rattle.flash.specs.Operations.{run_all}
use Rattle.trailer.specs.Trailer.{magic_bytes, trailer, magic_of, mark_of, is_good, is_no_magic, is_unset, has_value, written, legal}
use Rattle.causes.specs.Header.{header_magic, header_size}
use Rattle.causes.specs.Check.{sizes, head, with_sizes, structure, digest_at, check, is_accepted, accepted}
use Rattle.causes.specs.Image.{Image}
use Rattle.causes.specs.Written as writer
use Rattle.plan.specs.declared.Course.TheVariants.{Damage, Test, Clear}
use Rattle.plan.specs.declared.Done.{Done}
use Rattle.plan.specs.Lists.{exchange}
use Rattle.plan.specs.Decision.{step_a, continue, step_b, state_c, asks, judged, decide, in_force, done_of}
use Rattle.recovery.specs.All.{All, none, one}
use Rattle.recovery.specs.Statement.{Failures, never, Swapped, sector_of}
use Rattle.recovery.specs.Validity.{of_valid}
use Rattle.recovery.specs.BaseMoves.{length_base}
use Rattle.recovery.specs.Named.{places, named, Cleared}
use Rattle.answers.specs.declared.Refusal.{Refusal}
use Rattle.answers.specs.declared.Outcome.{Outcome}
use Rattle.loader.specs.PowerUp.{Result, data_of, refused, is_damage, full_start}
use Rattle.demands.specs.Promise.{met}
use Rattle.demands.specs.Statement.{Ends, as_listed, Starts, AllStop}
use Rattle.demands.proofs.AsListed.{as_listed_lem}
use Rattle.demands.proofs.Demand1.{demand_1, damage_untouched, misfit_untouched}
use Rattle.demands.proofs.Demand2.{exchange_of_image, clear_out_of_none}
use Rattle.demands.proofs.Demand3.{demand_3}
use Rattle.demands.proofs.Boots.{boots_what_was_checked}
use Rattle.demands.proofs.Touched.{start_lengths, start_only, answered_cleared}
use Rattle.demands.proofs.Stopped.{stopped}
use Rattle.demands.proofs.LeastAllowance.{least_allowance, fewer_never_end}
use Rattle.demands.specs.Instances.{small, image, image_whole, ending, flash, for_test, for_good, on_trial, harmed}
use Rattle.demands.proofs.Instances.{test_due_lem, permanent_due_lem, revert_due_lem, in_force_lem, harm_comes}
use Rattle.demands.specs.Applied.{no_image, damaged}

pub exchanged_after_harm : ((full_start true small 1582 harmed).flash ≡ (full_start true small 1582 for_test).flash)
    × Swapped (build small) for_test (full_start true small 1582 harmed).flash
unfolding small
exchanged_after_harm = demand_3 test_due_lem harm_comes (omega arith) (met true small 1582 for_test) (met true small 1582 harmed)

-- the header size of the image in slot 1
image_says_32 : header_size image ≡ 32
unfolding image writer.written writer.written_header header_size field part little
image_says_32 = refl

pub says_32 : (t0 t1 : List ℕ) → header_size (data_of small (flash t0 t1).in1) ≡ 32
unfolding data_of flash small
says_32 t0 t1 = ap header_size (take_at image t1 512 image_whole) ∙ image_says_32

pub boots_after_harm : (full_start true small 1582 harmed).answer.outcome ≡ Outcome.Boot 32
unfolding small for_test
boots_after_harm = boots_what_was_checked test_due_lem harm_comes (omega arith) (met true small 1582 harmed) ∙ ap Outcome.Boot (says_32 _ _)

pub boots_test : (full_start true small 1582 for_test).answer.outcome ≡ Outcome.Boot 32
unfolding small for_test
boots_test = boots_what_was_checked test_due_lem never (omega arith) (met true small 1582 for_test) ∙ ap Outcome.Boot (says_32 _ _)

pub boots_permanent : (full_start true small 1584 for_good).answer.outcome ≡ Outcome.Boot 32
unfolding small for_good
boots_permanent = boots_what_was_checked permanent_due_lem never (omega arith) (met true small 1584 for_good) ∙ ap Outcome.Boot (says_32 _ _)

pub boots_reverted : (full_start true small 1584 on_trial).answer.outcome ≡ Outcome.Boot 32
unfolding small on_trial
boots_reverted = boots_what_was_checked revert_due_lem never (omega arith) (met true small 1584 on_trial) ∙ ap Outcome.Boot (says_32 _ _)

-- ---- demand 2: what is exchanged is an image, what is cleared out is none

pub image_in_slot_1 : Image (data_of small for_test.in1)
image_in_slot_1 = exchange_of_image small for_test test_due_lem.which test_due_lem.decided

cleared : decide accepted (build small) no_image ≡ Clear
unfolding no_image small ending base decide judged asks step_a step_b continue state_c written legal has_value is_unset is_no_magic is_good mark_of magic_of
    trailer magic_bytes put part blank same accepted is_accepted check digest_at structure with_sizes head sizes header_magic field little
cleared = refl

pub no_image_in_slot_1 : Image (data_of small no_image.in1) → ⊥
no_image_in_slot_1 = clear_out_of_none small no_image cleared

-- ---- demand 1: how a power-up ends; damage is refused with nothing written

pub ends_after_harm : Ends (full_start true small 1582 harmed).answer.outcome
ends_after_harm = demand_1 (met true small 1582 harmed)

damage : (valid (build small) damaged ≡ true) × (decide accepted (build small) damaged ≡ Damage)
unfolding damaged small ending base valid fits asked every decide judged asks step_a step_b continue state_c written legal has_value is_unset is_no_magic
    is_good mark_of magic_of trailer magic_bytes put part blank same
damage = (refl, refl)

pub damage_left : ((full_start true small 4000 damaged).answer ≡ (refused Refusal.Damage damaged).answer)
    × ((full_start true small 4000 damaged).flash ≡ damaged)
damage_left = damage_untouched (met true small 4000 damaged) damage.0 damage.1

-- a slot of one sector
pub misfit_left : ((full_start true (record { unit = 1; sector = 512; sectors = 1 }) 4000 damaged).answer ≡ (refused Refusal.Geometry damaged).answer)
    × ((full_start true (record { unit = 1; sector = 512; sectors = 1 }) 4000 damaged).flash ≡ damaged)
unfolding damaged base valid fits asked every blank
misfit_left = misfit_untouched (met true (record { unit = 1; sector = 512; sectors = 1 }) 4000 damaged) refl

-- ---- what a start leaves alone: in a clear-out scratch, and slot 0 but its image ok; the lengths

no_image_fits : valid (build small) no_image ≡ true
unfolding no_image small ending base valid fits asked every magic_bytes put blank
no_image_fits = refl

answers_cleared : (full_start true small 4000 no_image).answer.done ≡ Done.Cleared
unfolding as_listed done_of is_damage
answers_cleared = ap (λ (r : Result). r.answer.done) (as_listed_lem true small 4000 no_image Clear no_image_fits cleared refl)

pub clear_out_left : Cleared (build small) no_image (full_start true small 4000 no_image).flash
clear_out_left = answered_cleared (met true small 4000 no_image) answers_cleared

-- with any allowance
pub slot_0_data_left : (b : ℕ) → sector_of (build small) (full_start true small b no_image).flash slot0 (sector_no 0)
    ≡ sector_of (build small) no_image slot0 (sector_no 0)
unfolding named places small base
slot_0_data_left b = start_only (met true small b no_image) slot0 (sector_no 0) (rw cleared (one refl (one refl (one refl none))))

pub as_long_after_harm : (b : ℕ) (x : Area) → length (area x (full_start true small b harmed).flash) ≡ length (area x harmed)
as_long_after_harm b = start_lengths (met true small b harmed)

-- ---- a start that its allowance stops is a failure like others, and demand 3 holds from where it led

stops_at_700 : (full_start true small 700 for_test).answer.outcome ≡ Outcome.Stopped
unfolding as_listed is_damage small
stops_at_700 =
    let n : length (exchange (build small) false) ≡ 1582 = length_base 1 512 2 false (of_valid (build small) for_test test_due_lem.fits).geo in
    ap (λ (r : Result). r.answer.outcome) (as_listed_lem true small 700 for_test Test test_due_lem.fits test_due_lem.decided refl)
    ∙ rw (in_force_lem test_due_lem, n)

pub stop_among_failures : Failures (build small) (in_force accepted (build small)) for_test (full_start true small 700 for_test).flash
stop_among_failures = stopped never (met true small 700 for_test) stops_at_700

pub exchanged_after_stop : ((full_start true small 1582 (full_start true small 700 for_test).flash).flash ≡ (full_start true small 1582 for_test).flash)
    × Swapped (build small) for_test (full_start true small 1582 (full_start true small 700 for_test).flash).flash
unfolding small
exchanged_after_stop =
    demand_3 test_due_lem stop_among_failures (omega arith) (met true small 1582 for_test)
    (met true small 1582 (full_start true small 700 for_test).flash)

-- ---- the least allowance: s/w + 2 is 514, and 3m + 2 is 5

pub five_starts : Starts true small (Outcome.Boot 32) (run_all (build small) (exchange (build small) false) for_test)
    (514 ∷ 514 ∷ 514 ∷ 514 ∷ 514 ∷ []) harmed
unfolding small for_test flash
five_starts =
    rw (← boots_32) (least_allowance true small test_due_lem harm_comes (514 ∷ 514 ∷ 514 ∷ 514 ∷ 514 ∷ [])
    (one (omega arith) (one (omega arith) (one (omega arith) (one (omega arith) (one (omega arith) none))))) (omega arith))
  where
    boots_32 : Outcome.Boot (header_size (data_of small for_test.in1)) ≡ Outcome.Boot 32
    boots_32 = ap Outcome.Boot (says_32 (ending (1 ∷ []) [] magic_bytes) (ending [] [] magic_bytes))

-- one operation fewer a start, and the exchange never ends: as many starts as one likes
pub ever_stopped : (n : ℕ) → AllStop true small (replicate n 513) for_test
unfolding small
ever_stopped n =
    fewer_never_end true small test_due_lem never (rw (in_force_lem test_due_lem, length_test) (omega arith)) (replicate n 513) (all_513 n)
  where
    length_test : length (exchange (build small) false) ≡ 1582
    length_test = length_base 1 512 2 false (of_valid (build small) for_test test_due_lem.fits).geo

    all_513 : (n : ℕ) → All (λ (b : ℕ). b < 514) (replicate n 513)
    all_513 zero = none
    all_513 (suc n) = one {x = 513} (omega arith) (all_513 n)
