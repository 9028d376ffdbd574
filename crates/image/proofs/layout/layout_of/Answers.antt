use Rattle.std.proofs.Common.{sym}
use Rattle.std.proofs.lemmas.Result.{err_from_is_err_and}
use Rattle.records.specs.Records.{records}
use Rattle.image.specs.LayoutLaws.{of_walk, layout_walked}
use Rattle.image.proofs.layout.layout_of.Goals as goal

pub returns-in_err-digest : goal.returns-in_err-digest
unfolding of_walk
returns-in_err-digest c =
    let p = err_from_is_err_and c.from_residual.result c.from_residual.ensures.1 in
    rw (p.1, p.2, ← layout_walked c.args.covered (records c.args.area.now), sym c.in_err-digest.ensures)

pub returns : goal.returns
unfolding of_walk
returns c = rw (← layout_walked c.args.covered (records c.args.area.now), sym c.in_ok-digest.ensures)
