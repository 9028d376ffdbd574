use Rattle.std.proofs.Common.{◌*◌, ◌+◌, ◌-◌, ◌≡◌}
use Rattle.spans.specs.Bytes.{put, part}
use Rattle.spans.specs.Blanks.{blanks}
use Rattle.store.proofs.copy_blank_blocks.Given as goal

abbrev pub invariant-loop-k : goal.invariant-loop-k
invariant-loop-k l =
    (l.area ≡ put l.initial.area 0 (part l.bytes 0 (l.k * 512)))
    × (blanks 512 0 l.blocks l.initial.area ≡ l.k + blanks 512 (0 + l.k * 512) (l.blocks - l.k) l.initial.area)
