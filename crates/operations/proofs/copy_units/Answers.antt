use Rattle.operations.specs.UnitLaws.{copied}
use Rattle.operations.proofs.copy_units.Goals as goal

pub returns : goal.returns
returns c =
    let given = c.args in
    let wrote = c.write_erased-written in
    copied given.g given.units given.to given.src.now given.from.0 given.dst.now given.left
    c.reach-reached.result wrote.result _ c.settled.result
    c.reach-reached.ensures wrote.ensures.result_value.0 wrote.ensures.dst_after
    c.settled.ensures.0 c.settled.ensures.1
