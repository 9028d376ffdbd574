use Rattle.std.proofs.Common.{List, ap, length, ℕ, ◌∙◌, ◌-◌, arith}
use borrow.Rule.Slice.PartMut.{put_mid}
use Rattle.spans.specs.Bytes.{put, part}
use Rattle.store.proofs.Parts.{part_there, put_there}
use Rattle.store.proofs.copy.Goals as goal

pub returns : goal.returns
unfolding part
returns c =
    let s : ℕ = c.there-span.result.start in
    let w : ℕ = c.there-span.result.end - s in
    let bytes : List ℕ = part c.args.src.now c.there.result.start (c.there.result.end - c.there.result.start) in
    ap (put_mid s w c.args.dst.now) c.overwrite.ensures
    ∙ put_there c.args.dst.now c.args.at (length bytes) _ _ bytes c.there-span.ensures.start c.there-span.ensures.end (omega arith)
    ∙ ap (put c.args.dst.now c.args.at)
    (part_there c.args.src.now c.args.from c.args.size _ _ c.there.ensures.start c.there.ensures.end)
