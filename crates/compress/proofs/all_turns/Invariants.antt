use Rattle.std.proofs.Common.{◌%◌, ◌-◌, ◌≡◌, ◌≤◌}
use Rattle.fips.specs.Fips.{rounds}
use Rattle.compress.specs.Variables.{eight}
use Rattle.compress.proofs.all_turns.Given as goal

abbrev pub invariant-loop-t : goal.invariant-loop-t
invariant-loop-t l = (l.t ≤ 64) × (l.t % 8 ≡ 0) × (eight l.s ≡ rounds l.w (eight l.initial.s) l.t)

abbrev pub decreases-loop-t : goal.decreases-loop-t
decreases-loop-t l = 64 - l.t
