use Rattle.std.proofs.Common.{arith, ap, sym, ◌∙◌}
use Rattle.spans.specs.Bytes.{put}
use Rattle.spans.specs.Laws.{put_nil}
use Rattle.store.proofs.Parts.{front_next, part_none, put_reached}
use Rattle.store.proofs.overwrite.Goals as goal

pub loop-i-init : goal.loop-i-init
loop-i-init c = sym (put_nil _ 0) ∙ ap (put c.args.area.now 0) (sym (part_none c.args.bytes.now 0))

pub loop-i-preserved : goal.loop-i-preserved
loop-i-preserved c = rw c.loop-i.invariant (front_next c.args.area.now c.args.bytes.now c.loop-i.i (omega arith))

pub returns : goal.returns
returns c = c.loop-i.invariant ∙ put_reached c.args.area.now c.args.bytes.now c.loop-i.i (omega arith)
