use Rattle.std.proofs.Common.{◌+◌, ◌-◌, ◌≡◌}
use Rattle.flash.specs.Geometry.{unit_count, further}
use Rattle.operations.specs.UnitLaws.{blank_run}
use Rattle.operations.proofs.count_blank.Given as goal

abbrev pub invariant-loop-k : goal.invariant-loop-k
invariant-loop-k l = blank_run l.g l.u l.n.0 l.area ≡ l.k + blank_run l.g (further l.u (unit_count l.k)) (l.n.0 - l.k) l.area
