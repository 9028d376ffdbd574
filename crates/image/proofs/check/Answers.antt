use Rattle.std.proofs.Common.{sym}
use Rattle.std.proofs.lemmas.Result.{err_from_is_err_and}
use Rattle.causes.specs.Check.{check, digest_at}
use Rattle.causes.specs.StructureLaws.{sound_within}
use Rattle.image.proofs.check.Goals as goal

pub returns-in_err-structure : goal.returns-in_err-structure
unfolding check digest_at
returns-in_err-structure c =
    let p = err_from_is_err_and c.from_residual.result c.from_residual.ensures.1 in
    rw (p.1, p.2, sym c.in_err-structure.ensures)

pub digest_at-requires : goal.digest_at-requires
digest_at-requires c =
    let w = sound_within c.args.image.now _ (sym c.in_ok-structure.ensures) in
    (w.least, w.covers)

pub returns : goal.returns
unfolding check
returns c = rw (sym c.in_ok-structure.ensures) c.digest_at.ensures
