use Rattle.std.proofs.Common.{add-one, arith, suc, ℕ, ◌+◌, ◌-◌, ◌≡◌}
use Rattle.flash.specs.declared.Geometry.{Geometry}
use Rattle.flash.specs.Geometry.{sector_no}
use Rattle.flash.specs.Operations.{Local, erase_in, local}
use Rattle.writes.specs.InArea.{erases_in}
use Rattle.lines.proofs.erase_sectors.Goals as goal

-- of those left, the first is erased
next : (g : Geometry) (i k n : ℕ) (l : Local) → k ≡ suc n → erases_in g i k l ≡ erases_in g (i + 1) n (erase_in g (sector_no i) l)
unfolding erases_in
next g i k n l e = rw (e, add-one)

pub loop-i-preserved : goal.loop-i-preserved
loop-i-preserved c =
    let given = c.args in
    let now : Local = local c.loop-i.area c.loop-i.r in
    cc (next given.g c.loop-i.i (given.end.0 - c.loop-i.i) (given.end.0 - (c.loop-i.i + 1)) now (omega arith))
