-- Document 01, "What a power-up does": A, B and C, and the list in force.
use Rattle.std.specs.Prelude.{List, [], ◌++◌, Bool, true, false, ◌&&◌, not, ℕ, ◌+◌, ◌*◌, ◌-◌, length, take, drop, eqb, leb}
use Rattle.spans.specs.Choice.{pick}
use Rattle.flash.specs.Build.{slot0, slot1, scratch, Build, lent_bytes, Flash, valid}
use Rattle.flash.specs.Operations.{Op}
use Rattle.trailer.specs.Trailer.{trailer, ok_at, copy_done_at, magic_of, is_good, is_no_magic, mark_of, is_unset, has_value, written, legal}
use Rattle.plan.specs.declared.Course.{Course}
use Rattle.plan.specs.declared.Course.TheVariants.{Damage, FromLineThree, Resume, Test, Permanent, Revert, Clear, Nothing}
use Rattle.plan.specs.declared.Done.{Done}
use Rattle.plan.specs.Lists.{lines_three_to_six, data_ops, exchange, clear_out}

-- A. "Scratch magic Good: the trailer exchange is under way. Redo it from its third line. Scratch image ok must be Unset or 01."
-- t2: scratch's trailer sector
unfoldable pub step_a : Build → List ℕ → Course
step_a g t2 =
    let ok = mark_of g t2 (ok_at g) in
    pick (is_unset ok) (FromLineThree false) (pick (has_value 1 ok) (FromLineThree true) Damage)

-- B, for the c marks that are written: "They must be 01, 02, 03 repeated up to some mark, then all Unset. Let c be the number written.
-- c = 0: none under way, go to C. c from 3 to 3n: continue after c marks. Anything else is damage." (3n is three marks more than there
-- are moves)
unfoldable pub continue : Build → List ℕ → ℕ → Course → Course
continue g t0 c otherwise =
    pick (not (legal g t0 c 0 (3 * g.sectors))) Damage
    (pick (eqb c 0) otherwise
    (pick (leb 3 c && leb c (3 + length g.moves)) (Resume c) Damage))

-- B. "Otherwise, slot 0 magic Good and copy done Unset: read the marks from sector n − 1 down to 0."
unfoldable pub step_b : Build → List ℕ → Course → Course
step_b g t0 otherwise =
    pick (is_good (magic_of g t0) && is_unset (mark_of g t0 (copy_done_at g)))
    (continue g t0 (written g t0 0 (3 * g.sectors)) otherwise) otherwise

-- C. "Otherwise the states of document 003, first match wins": I, II, III, IV, by the trailer sectors of slot 0 and slot 1
unfoldable pub state_c : Build → List ℕ → List ℕ → Course
state_c g t0 t1 =
    let ok1 = mark_of g t1 (ok_at g) in
    pick (is_good (magic_of g t1) && is_unset ok1) Test
    (pick (is_good (magic_of g t1) && has_value 1 ok1) Permanent
    (pick (is_good (magic_of g t0) && (is_unset (mark_of g t0 (ok_at g)) && (has_value 1 (mark_of g t0 (copy_done_at g)) && is_no_magic
    (magic_of g t1)))) Revert
    Nothing))

-- by the trailer sectors of slot 0, slot 1 and scratch
unfoldable pub asks : Build → List ℕ → List ℕ → List ℕ → Course
asks g t0 t1 t2 = pick (is_good (magic_of g t2)) (step_a g t2) (step_b g t0 (state_c g t0 t1))

-- "In I to III the image in slot 1 is checked. Accepted: exchange. Rejected: clear out."
unfoldable pub judged : Bool → Course → Course
judged accepted Damage = Damage
judged accepted (FromLineThree p) = FromLineThree p
judged accepted (Resume c) = Resume c
judged accepted Test = pick accepted Test Clear
judged accepted Permanent = pick accepted Permanent Clear
judged accepted Revert = pick accepted Revert Clear
judged accepted Clear = Clear
judged accepted Nothing = Nothing

unfoldable pub decide : (List ℕ → Bool) → Build → Flash → Course
decide check g f =
    judged (check (take (lent_bytes g).0 f.in1)) (asks g (trailer g slot0 f) (trailer g slot1 f) (trailer g scratch f))

-- the list of operations; unset: slot 0's image ok is Unset
unfoldable pub list_of : Build → Bool → Course → List Op
list_of g unset Damage = []
list_of g unset (FromLineThree p) = lines_three_to_six g p ++ data_ops g 3 g.moves
list_of g unset (Resume c) = data_ops g c (drop (c - 3) g.moves)
list_of g unset Test = exchange g false
list_of g unset Permanent = exchange g true
list_of g unset Revert = exchange g true
list_of g unset Clear = clear_out g unset
list_of g unset Nothing = []

unfoldable pub ok_unset : Build → Flash → Bool
ok_unset g f = is_unset (mark_of g (trailer g slot0 f) (ok_at g))

-- the list in force
unfoldable pub in_force : (List ℕ → Bool) → Build → Flash → List Op
in_force check g f = pick (valid g f) (list_of g (ok_unset g f) (decide check g f)) []

-- "What was done names the list in force, even at allowance 0 (resumed under A and B); on 1 and 2 it is none."
unfoldable pub done_of : Course → Done
done_of Damage = Done.None
done_of (FromLineThree p) = Done.Resumed
done_of (Resume c) = Done.Resumed
done_of Test = Done.Test
done_of Permanent = Done.Permanent
done_of Revert = Done.Revert
done_of Clear = Done.Cleared
done_of Nothing = Done.None

-- "c as found (0 unless B continues an exchange)"
unfoldable pub found_of : Course → ℕ
found_of Damage = 0
found_of (FromLineThree p) = 0
found_of (Resume c) = c
found_of Test = 0
found_of Permanent = 0
found_of Revert = 0
found_of Clear = 0
found_of Nothing = 0
