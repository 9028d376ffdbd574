use Rattle.std.proofs.Common.{arith, rules, sym, ◌*◌, ◌∙◌, ◌≡◌}
use Rattle.flash.specs.Base.{build}
use Rattle.trailer.specs.Trailer.{is_unset, mark_at, mark_of}
use Rattle.marks.specs.RunLaws.{counted_more, counted_here, counted_end}
use Rattle.marks.proofs.Trailer.written_marks.Goals as goal

pub returns-then-eq : goal.returns-then-eq
unfolding is_unset
returns-then-eq c =
    let t = c.args.self in
    let loop = c.loop-k in
    let asked : c.eq.result ≡ is_unset (mark_of (build t.g) t.bytes.now (mark_at (build t.g) loop.k)) = search rules in
    counted_here (build t.g) t.bytes.now (3 * t.g.sectors) loop.k loop.invariant (omega arith) (sym asked ∙ c.if-eq.true)

pub loop-k-preserved : goal.loop-k-preserved
unfolding is_unset
loop-k-preserved c =
    let t = c.args.self in
    let loop = c.loop-k in
    let asked : c.eq.result ≡ is_unset (mark_of (build t.g) t.bytes.now (mark_at (build t.g) loop.k)) = search rules in
    counted_more (build t.g) t.bytes.now (3 * t.g.sectors) loop.k loop.invariant (omega arith) (sym asked ∙ c.if-eq.false)

pub returns : goal.returns
returns c =
    let t = c.args.self in
    let loop = c.loop-k in
    let last : 3 * t.g.sectors ≡ loop.k = omega arith in
    last ∙ counted_end (build t.g) t.bytes.now (3 * t.g.sectors) loop.k loop.invariant (omega arith)
