use Rattle.std.proofs.Common.{arith, ap, length, sym, ℕ, ◌∙◌, ◌≡◌, ◌-◌}
use borrow.Rule.Slice.PartMut.{put_mid}
use Rattle.spans.specs.Bytes.{put, part, blank}
use Rattle.spans.specs.Laws.{put_nil}
use Rattle.store.proofs.Parts.{blank_there, erased_next}
use Rattle.store.proofs.fill.Goals as goal

pub loop-byte-init : goal.loop-byte-init
unfolding blank
loop-byte-init c = sym (put_nil _ 0)

pub loop-byte-preserved : goal.loop-byte-preserved
loop-byte-preserved c = rw c.loop-byte.invariant (erased_next _ c.loop-byte.byte-index)

pub returns : goal.returns
unfolding part
returns c =
    let s : ℕ = c.there-span.result.start in
    let w : ℕ = c.there-span.result.end - s in
    let all : c.loop-byte.byte-index ≡ length (part c.args.area.now s w) = omega arith in
    ap (put_mid s w c.args.area.now) (c.loop-byte.invariant ∙ ap (λ (n : ℕ). put (part c.args.area.now s w) 0 (blank n)) all)
    ∙ blank_there c.args.area.now c.args.at c.args.size _ _ c.there-span.ensures.start c.there-span.ensures.end
