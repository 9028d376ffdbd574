use Rattle.std.proofs.Common.{◌≡◌}
use Rattle.flash.specs.Build.{Area, trailer_sector}
use Rattle.flash.specs.Base.{base, build}
use Rattle.flash.specs.Operations.{local}
use Rattle.trailer.specs.Trailer.{copy_done_at}
use Rattle.writes.specs.InArea.{mark_in}
use Rattle.moves.specs.Areas.{in_slot0}
use Rattle.moves.proofs.data_exchange.Goals as goal

pub returns : goal.returns
unfolding base
returns c =
    let given = c.args in
    let moved = c.moves_from-moved in
    let marked : local c.write_mark.new.area c.write_mark.result ≡ mark_in given.g (trailer_sector (build given.g) Area.slot0)
    (copy_done_at (build given.g)) 1 (local moved.new.slot0 moved.result) = cc in
    cc (in_slot0 given.g _ _ _ _ (copy_done_at (build given.g)) 1 _ _ marked)
