use Rattle.std.proofs.Common.{◌≡◌}
use Rattle.spans.specs.Bytes.{put, part}
use Rattle.store.proofs.overwrite.Given as goal

abbrev pub invariant-loop-i : goal.invariant-loop-i
invariant-loop-i l = l.area ≡ put l.initial.area 0 (part l.bytes 0 l.i)
