use Rattle.std.proofs.Common.{arith, refl}
use Rattle.compress.specs.Turns.{rounds_none}
use Rattle.compress.proofs.all_turns.Goals as goal

pub loop-t-init : goal.loop-t-init
loop-t-init c = (omega arith, refl, rounds_none _ _)
