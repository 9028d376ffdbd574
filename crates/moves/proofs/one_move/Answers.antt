use Rattle.std.proofs.Common.{arith, mod-lt, ◌%◌}
use Rattle.moves.specs.Areas.{to_scratch, to_slot1, to_slot0}
use Rattle.moves.proofs.one_move.Goals as goal

pub returns-in-0 : goal.returns-in-0
returns-in-0 c =
    let given = c.args in
    cc (to_scratch given.g c.marked_sector-i.result given.slot0.now given.slot1.now given.scratch.now given.run (given.k % 3) _ _
    c.move_sector.ensures c.in-0.is)

pub returns-in-1 : goal.returns-in-1
returns-in-1 c =
    let given = c.args in
    cc (to_slot1 given.g c.marked_sector-i.result given.slot0.now given.slot1.now given.scratch.now given.run (given.k % 3) _ _
    c.move_sector-in-1.ensures c.in-1.is)

pub returns-in_default : goal.returns-in_default
returns-in_default c =
    let given = c.args in
    cc (to_slot0 given.g c.marked_sector-i.result given.slot0.now given.slot1.now given.scratch.now given.run (given.k % 3) _ _
    c.move_sector-in_default.ensures (omega (arith, mod-lt given.k {m = 3} (omega arith))))
