use Rattle.std.proofs.Common.{ap, arith}
use Rattle.flash.specs.declared.Offset.{Offset}
use Rattle.flash.specs.Base.{base}
use Rattle.marks.specs.PlaceLaws.{marks_fit}
use Rattle.marks.proofs.Trailer.progress.Goals as goal

pub mark_in-requires : goal.mark_in-requires
unfolding base
mark_in-requires c =
    let a = c.args in
    let at = ap (λ (o : Offset). o.0) c.mark_place.ensures in
    omega (arith, at, marks_fit a.self.g a.k c.args.self.small (omega arith))
