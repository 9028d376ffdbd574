use Rattle.std.proofs.Common.{ap, arith, refl, sym, zero-add, ℕ, ◌+◌, ◌*◌, ◌≡◌, ◌∙◌}
use Rattle.spans.specs.Bytes.{part}
use Rattle.spans.specs.Words.{number, words}
use Rattle.spans.specs.WordLaws.{store_next}
use Rattle.compress.proofs.schedule.load.Goals as goal

pub loop-i-init : goal.loop-i-init
unfolding words
loop-i-init c = refl

pub loop-i-preserved : goal.loop-i-preserved
loop-i-preserved c =
    let block = c.args.block.now in
    let i = c.loop-i.i in
    let at : 4 * i ≡ 0 + 4 * i = sym (zero-add (4 * i)) in
    store_next 4 block 0 _ i _ (omega arith) c.loop-i.invariant (c.word.ensures ∙ ap (λ (n : ℕ). number (part block n 4)) at)
