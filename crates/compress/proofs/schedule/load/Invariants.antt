use Rattle.std.proofs.Common.{take, ◌≡◌}
use Rattle.spans.specs.Words.{words}
use Rattle.compress.proofs.schedule.load.Given as goal

abbrev pub invariant-loop-i : goal.invariant-loop-i
invariant-loop-i l = take l.i l.word-items ≡ words 4 l.i l.block
