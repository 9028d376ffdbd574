use Rattle.std.proofs.Common.{arith, refl, replicate, ◌≡◌, ◌∙◌}
use Rattle.spans.specs.Bytes.{put}
use Rattle.compress.specs.Variables.{eight}
use Rattle.sha256.specs.Results.{written, write_next, written_result}
use Rattle.sha256.proofs.result_of.Goals as goal

pub loop-i-init : goal.loop-i-init
unfolding written put
loop-i-init c = refl

pub loop-i-preserved : goal.loop-i-preserved
loop-i-preserved c = write_next _ _ c.loop-i.i _ _ (omega arith) c.loop-i.invariant c.put_word.ensures

pub returns : goal.returns
unfolding eight
returns c =
    let e : c.loop-i.i ≡ 8 = omega arith in
    (rw e at c.loop-i.invariant) ∙ written_result (eight c.args.h) (replicate 32 0) refl
