use Rattle.std.proofs.Common.{ap, arith, length, rules, ◌/◌, ◌≡◌, ◌∙◌}
use Rattle.std.specs.Slice.Iter.{chunks_exact_rest}
use Rattle.fips.specs.Fips.{Eight, hash}
use Rattle.sha256.specs.Hashes.{hash_block}
use Rattle.sha256.proofs.blocks.absorb.Goals as goal

pub loop-block-preserved : goal.loop-block-preserved
loop-block-preserved c =
    let steps = c.in-Some.ensures.steps in
    let left = chunks_exact_rest c.next.new.self in
    let size = c.loop-block.invariant.2 in (
      search rules,
      tt,
      steps.0 ∙ size,
      ap (λ (v : Eight). hash v left (length left / 64)) c.take_block-s.ensures
          ∙ hash_block _ _ _ left steps.1.0 (steps.1.1 ∙ size) ∙ c.loop-block.invariant.3,
    )

pub returns : goal.returns
unfolding hash
returns c =
    let e : length (chunks_exact_rest c.loop-block.block-iterator) / 64 ≡ 0 = omega (arith, c.in-None.ensures.steps.1.0, c.loop-block.invariant.2) in
    rw e at c.loop-block.invariant.3
