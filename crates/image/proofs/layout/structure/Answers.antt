use Rattle.std.proofs.Common.{List, ap, arith, length, sym, ℕ, ◌+◌, ◌∙◌, ◌≡◌}
use Rattle.std.proofs.lemmas.Result.{err_from_is_err_and}
use Rattle.spans.specs.Bytes.{part}
use Rattle.spans.specs.Laws.{length_part}
use Rattle.causes.specs.Header.{covered_size, image_size}
use Rattle.records.specs.Records.{records}
use Rattle.causes.specs.Check.{layout_of}
use Rattle.causes.specs.CheckLaws.{part_is}
use Rattle.causes.specs.StructureLaws.{sizes_of, structure_bad, structure_good}
use Rattle.image.proofs.layout.structure.Goals as goal

pub returns-in_err-sizes : goal.returns-in_err-sizes
returns-in_err-sizes c =
    let p = err_from_is_err_and c.from_residual.result c.from_residual.ensures.1 in
    rw (p.1, p.2) (sym (structure_bad c.args.image.now _ (sym c.in_err-sizes.ensures)))

pub overflow_add-covered : goal.overflow_add-covered
unfolding image_size covered_size
overflow_add-covered c = let s = sizes_of _ _ (sym c.in_ok-sizes.ensures) in let f = s.good.fits in omega arith

pub overflow_add-end : goal.overflow_add-end
unfolding image_size covered_size
overflow_add-end c = let s = sizes_of _ _ (sym c.in_ok-sizes.ensures) in let f = s.good.fits in omega arith

pub slice_bounds-layout_of-end : goal.slice_bounds-layout_of-end
unfolding image_size covered_size
slice_bounds-layout_of-end c = let s = sizes_of _ _ (sym c.in_ok-sizes.ensures) in let f = s.good.fits in omega arith

pub layout_of-requires : goal.layout_of-requires
unfolding image_size covered_size
layout_of-requires c =
    let g = c.in_ok-sizes.sizes in
    let s = sizes_of _ _ (sym c.in_ok-sizes.ensures) in
    let f = s.good in
    let a = c.args in
    let l : length (part a.image.now (g.header + g.body) g.records) ≡ g.records =
    length_part a.image.now (g.header + g.body) g.records (omega arith) in
    rw (part_is a.image.now (g.header + g.body) g.records) (omega arith)

pub returns : goal.returns
returns c =
    let a = c.args in
    let g = c.in_ok-sizes.sizes in
    c.layout_of.ensures
    ∙ ap (λ (area : List ℕ). layout_of (g.header + g.body) (records area)) (part_is a.image.now (g.header + g.body) g.records)
    ∙ sym (structure_good a.image.now g (sym c.in_ok-sizes.ensures))
