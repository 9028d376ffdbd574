use Rattle.std.proofs.Common.{◌%◌, ◌+◌}
use Rattle.flash.specs.Base.{base, build}
use Rattle.trailer.specs.Trailer.{mark_at}
use Rattle.moves.specs.Areas.{in_slot0}
use Rattle.moves.proofs.marked_move.Goals as goal

pub returns : goal.returns
unfolding base
returns c =
    let given = c.args in
    cc (in_slot0 given.g _ _ _ _ (mark_at (build given.g) given.k) (1 + given.k % 3) _ _ c.write_progress.ensures)
