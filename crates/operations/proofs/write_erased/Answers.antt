use Rattle.std.proofs.Common.{ap, ap₂, arith, ◌-◌, ◌∙◌, ◌≡◌}
use Rattle.spans.specs.Bytes.{part, put}
use Rattle.flash.specs.declared.Offset.{Offset}
use Rattle.flash.specs.declared.Unit.{Unit}
use Rattle.flash.specs.declared.Units.{Units}
use Rattle.flash.specs.Geometry.{units_in, place_of, bytes_in, further}
use Rattle.operations.specs.UnitLaws.{blank_run}
use Rattle.operations.specs.FrontLaws.{both_parts}
use Rattle.operations.proofs.write_erased.Goals as goal

pub returns : goal.returns
returns c =
    let given = c.args in
    let front = c.write_blocks-front in
    let done = ap (λ (n : Units). n.0)
    c.units_in-done.ensures in
    let next : c.add-next.result ≡ further
    given.to (units_in given.g front.result) =
    c.add-next.ensures ∙ ap (further given.to)
    c.units_in-done.ensures in
    let more = c.blank_units-more in
    let counted : more.result.0 ≡ blank_run given.g (further given.to (units_in given.g front.result))
    (given.reached.0 - (units_in given.g front.result).0) front.new.dst =
    more.ensures.0 ∙ ap₂ (λ (u : Unit) (n : Units). blank_run given.g u (given.reached.0 - n.0) front.new.dst)
    next c.units_in-done.ensures in
    let copied = c.copy_all.ensures ∙ ap₂ (λ (u : Unit) (o : Offset). put front.new.dst
    (place_of given.g u).0
    (part given.src.now o.0 (bytes_in given.g more.result).0)) next
    c.add.ensures in
    let parts = both_parts given.g
    c.requires.small given.to given.reached given.src.now given.from.0 given.dst.now
    front.result front.ensures.result_value more.result.0 _ _ front.ensures.dst_after counted copied in
    record {
      result_value = (rw done parts.0, omega (arith, more.ensures.1, front.ensures.result_in_bounds.1, done));
      dst_after = rw done parts.1;
    }
