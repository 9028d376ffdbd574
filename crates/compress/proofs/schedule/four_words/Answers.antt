use Rattle.std.proofs.Common.{arith, ◌≡◌, ◌+◌}
use Rattle.compress.specs.Grown.{filling_store}
use Rattle.compress.proofs.schedule.four_words.Goals as goal

pub loop-u-preserved : goal.loop-u-preserved
loop-u-preserved c = λ first F. filling_store (c.loop-u.invariant first F) (omega arith) c.next_word.ensures

pub returns : goal.returns
returns c =
    let e : c.args.t + 4 ≡ c.loop-u.u = omega arith in
    λ first F. rw e (c.loop-u.invariant first F)
