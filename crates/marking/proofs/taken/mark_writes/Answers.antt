use Rattle.std.proofs.Common.{Bool, ap, arith, div-le_self, sym, ◌+◌, ◌∙◌, ◌≡◌}
use Rattle.flash.specs.declared.Units.{Units}
use Rattle.trailer.specs.Trailer.{magic_units}
use Rattle.plan.specs.Lengths.{one_if}
use Rattle.marking.specs.MarkLaws.{length_marking}
use Rattle.marking.proofs.taken.mark_writes.Goals as goal

pub overflow_add-result : goal.overflow_add-result
overflow_add-result c =
    omega (arith, ap (λ (n : Units). n.0) c.units_in-magic.ensures, div-le_self 16 c.args.fit.g.unit)

pub returns-then-permanent : goal.returns-then-permanent
returns-then-permanent c =
    let n = ap (λ (n : Units). 1 + n.0) c.units_in-magic.ensures in
    n ∙ sym (length_marking c.args.fit.g c.args.permanent
    ∙ ap (λ (p : Bool). one_if p + (magic_units c.args.fit.g).0) c.if-permanent.true)

pub returns-else-permanent : goal.returns-else-permanent
returns-else-permanent c =
    let n = ap (λ (n : Units). n.0) c.units_in-magic.ensures in
    let z : 0 + (magic_units c.args.fit.g).0 ≡ (magic_units c.args.fit.g).0 = omega arith in
    n ∙ sym (length_marking c.args.fit.g c.args.permanent
    ∙ ap (λ (p : Bool). one_if p + (magic_units c.args.fit.g).0) c.if-permanent.false ∙ z)
