use Rattle.std.proofs.Common.{◌-◌, ◌≡◌}
use Rattle.flash.specs.Operations.{local}
use Rattle.writes.specs.InArea.{erases_in}
use Rattle.lines.proofs.erase_sectors.Given as goal

abbrev pub invariant-loop-i : goal.invariant-loop-i
invariant-loop-i l = erases_in l.g 0 l.i-end (local l.initial.area l.initial.r) ≡ erases_in l.g l.i (l.i-end - l.i) (local l.area l.r)
