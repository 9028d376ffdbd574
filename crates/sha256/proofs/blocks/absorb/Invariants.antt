use Rattle.std.proofs.Common.{length, ◌/◌, ◌≡◌}
use Rattle.std.specs.Slice.Iter.{chunks_exact_rest, chunks_exact_size}
use Rattle.fips.specs.Fips.{hash}
use Rattle.compress.specs.Variables.{eight}
use Rattle.sha256.proofs.blocks.absorb.Given as goal

abbrev pub invariant-loop-block : goal.invariant-loop-block
invariant-loop-block l =
    let left = chunks_exact_rest l.block-iterator in
    goal.iterator-loop-block.can_next l.block-iterator
    × goal.iterator-loop-block.is_finite l.block-iterator
    × (chunks_exact_size l.block-iterator ≡ 64)
    × (hash (eight l.s) left (length left / 64) ≡ hash (eight l.initial.s) l.bytes (length l.bytes / 64))
