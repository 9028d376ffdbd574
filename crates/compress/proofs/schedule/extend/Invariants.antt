use Rattle.std.proofs.Common.{◌%◌, ◌-◌, ◌≡◌}
use Rattle.compress.specs.Grown.{Filling}
use Rattle.compress.proofs.schedule.extend.Given as goal

abbrev pub invariant-loop-t : goal.invariant-loop-t
invariant-loop-t l = Filling l.initial.w l.w l.t × (l.t % 4 ≡ 0)

abbrev pub decreases-loop-t : goal.decreases-loop-t
decreases-loop-t l = 64 - l.t
