use Rattle.std.proofs.Common.{sym, ◌∙◌}
use Rattle.marks.specs.MagicLaws.{magic_good, magic_unset, magic_bad}
use Rattle.marks.proofs.magic.words_at.Goals as goal

pub returns-then-stands : goal.returns-then-stands
returns-then-stands c =
    λ g at. magic_good g c.args.bytes.now c.args.place c.magic_bytes.result at c.magic_bytes.ensures
    (sym c.stands.ensures ∙ c.if-stands.true)

pub returns-then-all_blank : goal.returns-then-all_blank
returns-then-all_blank c =
    let other = sym c.stands.ensures ∙ c.if-stands.false in
    λ g at. magic_unset g c.args.bytes.now c.args.place c.magic_bytes.result at c.magic_bytes.ensures other
    (sym c.all_blank.ensures ∙ c.if-all_blank.true)

pub returns-else-all_blank : goal.returns-else-all_blank
returns-else-all_blank c =
    let other = sym c.stands.ensures ∙ c.if-stands.false in
    λ g at. magic_bad g c.args.bytes.now c.args.place c.magic_bytes.result at c.magic_bytes.ensures other
    (sym c.all_blank.ensures ∙ c.if-all_blank.false)
