use Rattle.std.proofs.Common.{arith, sym, ◌*◌, ◌∙◌}
use Rattle.flash.specs.Base.{build}
use Rattle.marks.specs.RunLaws.{legal_more, legal_fails, legal_end}
use Rattle.marks.proofs.Trailer.legal_run.Goals as goal

pub loop-k-preserved : goal.loop-k-preserved
loop-k-preserved c =
    let t = c.args.self in
    c.loop-k.invariant
    ∙ legal_more (build t.g) t.bytes.now (3 * t.g.sectors) c.loop-k.k c.args.c (omega arith)
    (sym c.mark_fits.ensures ∙ c.if-not-mark_fits.false)

pub returns-then-not-mark_fits : goal.returns-then-not-mark_fits
returns-then-not-mark_fits c =
    let t = c.args.self in
    sym
    (c.loop-k.invariant
    ∙ legal_fails (build t.g) t.bytes.now (3 * t.g.sectors) c.loop-k.k c.args.c (omega arith)
    (sym c.mark_fits.ensures ∙ c.if-not-mark_fits.true))

pub returns : goal.returns
returns c =
    let t = c.args.self in
    sym
    (c.loop-k.invariant ∙ legal_end (build t.g) t.bytes.now (3 * t.g.sectors) c.loop-k.k c.args.c (omega arith))
