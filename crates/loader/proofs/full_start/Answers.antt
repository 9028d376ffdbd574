use Rattle.std.proofs.Common.{sym}
use Rattle.loader.specs.PowerUp.{full_start}
use Rattle.loader.specs.Results.{refusing}
use Rattle.flash.specs.Build.{valid}
use Rattle.plan.specs.Asked.{flash_of}
use Rattle.loader.proofs.full_start.Goals as goal

pub returns-in-Some : goal.returns-in-Some
unfolding full_start valid
returns-in-Some c = rw (sym c.in-Some.ensures.fits, sym c.in-Some.ensures.same) c.start_taken.ensures

pub returns-in-None : goal.returns-in-None
unfolding full_start valid
returns-in-None c =
    let given = c.args in
    rw (sym c.in-None.ensures.fits) (refusing _ _ (flash_of given.slot0.now given.slot1.now given.scratch.now) c.from.ensures)
