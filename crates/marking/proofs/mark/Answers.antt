use Rattle.std.proofs.Common.{ap, ◌∙◌}
use Rattle.flash.specs.declared.Geometry.{Geometry}
use Rattle.plan.specs.Asked.{flash_of}
use Rattle.marking.specs.Marking.{mark_unless_marked, marking}
use Rattle.marking.specs.MarkResults.{refusing_mark}
use Rattle.marking.specs.Standing.{by_standing}
use Rattle.marking.proofs.mark.Goals as goal

pub returns-in-Ok : goal.returns-in-Ok
unfolding marking by_standing
returns-in-Ok c =
    let given = c.args in
    c.mark_free.ensures given.slot0.now given.scratch.now
    ∙ ap (λ (g : Geometry). mark_unless_marked given.permanent g (flash_of given.slot0.now given.slot1.now given.scratch.now)) c.in-Ok.ensures.same
    ∙ c.in-Ok.ensures.asked (mark_unless_marked given.permanent given.g (flash_of given.slot0.now given.slot1.now given.scratch.now))

pub returns-in-Err : goal.returns-in-Err
unfolding marking by_standing
returns-in-Err c =
    let given = c.args in
    refusing_mark _ _ _ c.from.ensures
    ∙ c.in-Err.ensures.asked (mark_unless_marked given.permanent given.g (flash_of given.slot0.now given.slot1.now given.scratch.now))
