use Rattle.std.proofs.Common.{arith, refl}
use Rattle.compress.specs.Grown.{filling_none, filled}
use Rattle.compress.proofs.schedule.extend.Goals as goal

pub loop-t-init : goal.loop-t-init
loop-t-init c = (filling_none _ c.told-w, refl)

pub loop-t-preserved : goal.loop-t-preserved
loop-t-preserved c = (c.four_words.ensures _ c.loop-t.invariant.0, omega arith)

pub returns : goal.returns
returns c = filled c.loop-t.invariant.0 (omega arith)
