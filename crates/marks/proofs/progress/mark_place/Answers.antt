use Rattle.std.proofs.Common.{ap, ap₂, arith, ◌-◌, ◌∙◌}
use Rattle.flash.specs.declared.Offset.{Offset}
use Rattle.flash.specs.declared.Bytes.{Bytes}
use Rattle.flash.specs.Geometry.{byte_at, after}
use Rattle.flash.specs.Base.{base}
use Rattle.marks.specs.PlaceLaws.{marks_fit}
use Rattle.marks.proofs.progress.mark_place.Goals as goal

pub overflow_sub-g-2 : goal.overflow_sub-g-2
overflow_sub-g-2 c =
    let given = c.args in
    let pre = c.requires in
    let all = ap (λ (b : Bytes). b.0) c.bytes_in-all.ensures in
    omega (arith, all, marks_fit given.g given.k pre.small (omega (arith, pre.k_bound)))

pub add-requires : goal.add-requires
add-requires c =
    let given = c.args in
    let pre = c.requires in
    let place = ap (λ (o : Offset). o.0) c.place_of-place.ensures in
    omega (arith, place, marks_fit given.g given.k pre.small (omega (arith, pre.k_bound)))

pub returns : goal.returns
unfolding base
returns c =
    let s = c.args.g.sector in
    let all = c.bytes_in-all.ensures in
    c.add.ensures ∙ ap₂ (λ (b : Bytes) (o : Offset). after (byte_at (s - 32 - b.0)) o) all
    c.place_of-place.ensures
