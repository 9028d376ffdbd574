use Rattle.std.proofs.Common.{replicate, take, ◌≡◌}
use Rattle.spans.specs.Bytes.{put}
use Rattle.sha256.specs.Results.{written}
use Rattle.sha256.proofs.result_of.Given as goal

abbrev pub invariant-loop-i : goal.invariant-loop-i
invariant-loop-i l = l.out ≡ put (replicate 32 0) 0 (written (take l.i l.word-items))
