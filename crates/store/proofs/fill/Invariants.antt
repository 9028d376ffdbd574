use Rattle.std.proofs.Common.{◌≡◌}
use Rattle.spans.specs.Bytes.{put, blank}
use Rattle.store.proofs.fill.Given as goal

abbrev pub invariant-loop-byte : goal.invariant-loop-byte
invariant-loop-byte l = l.byte-items ≡ put l.initial.byte-items 0 (blank l.byte-index)
