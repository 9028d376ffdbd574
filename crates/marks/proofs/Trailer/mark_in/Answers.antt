use Rattle.std.proofs.Common.{ap, get_or, rules, sym, ◌∙◌, ◌≡◌}
use Rattle.flash.specs.Base.{base, build}
use Rattle.trailer.specs.declared.Mark.{Mark}
use Rattle.marks.specs.ReadLaws.{mark_reads}
use Rattle.marks.proofs.Trailer.mark_in.Goals as goal

pub returns-then-all_blank : goal.returns-then-all_blank
unfolding base
returns-then-all_blank c =
    let t = c.args.self in
    let none = sym c.all_blank.ensures ∙ c.if-all_blank.true in
    let reads = mark_reads (build t.g) t.bytes.now c.args.place c.args.self.small.positive in
    rw (reads, none)

pub returns-then-all_blank-2 : goal.returns-then-all_blank-2
unfolding base
returns-then-all_blank-2 c =
    let t = c.args.self in
    let some = sym c.all_blank.ensures ∙ c.if-all_blank.false in
    let whole = sym c.all_blank-else-all_blank.ensures ∙ c.if-all_blank-2.true in
    let reads = mark_reads (build t.g) t.bytes.now c.args.place c.args.self.small.positive in
    let first : c.unwrap_or.result ≡ get_or t.bytes.now c.args.place.0 0 = search rules in
    rw (reads, some, whole) (ap Mark.Value first)

pub returns-else-all_blank-2 : goal.returns-else-all_blank-2
unfolding base
returns-else-all_blank-2 c =
    let t = c.args.self in
    let some = sym c.all_blank.ensures ∙ c.if-all_blank.false in
    let torn = sym c.all_blank-else-all_blank.ensures ∙ c.if-all_blank-2.false in
    let reads = mark_reads (build t.g) t.bytes.now c.args.place c.args.self.small.positive in
    rw (reads, some, torn)
