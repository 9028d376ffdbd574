use Rattle.std.proofs.Common.{ap, ◌∙◌}
use Rattle.flash.specs.declared.Geometry.{Geometry}
use Rattle.plan.specs.Asked.{flash_of}
use Rattle.marking.specs.Marking.{confirm_if_needed, confirming}
use Rattle.marking.specs.MarkResults.{refusing_mark}
use Rattle.marking.specs.Standing.{by_standing}
use Rattle.marking.proofs.confirm.Goals as goal

pub returns-in-Ok : goal.returns-in-Ok
unfolding confirming by_standing
returns-in-Ok c =
    let given = c.args in
    c.confirm_free.ensures given.slot1.now given.scratch.now
    ∙ ap (λ (g : Geometry). confirm_if_needed g (flash_of given.slot0.now given.slot1.now given.scratch.now)) c.in-Ok.ensures.same
    ∙ c.in-Ok.ensures.asked (confirm_if_needed given.g (flash_of given.slot0.now given.slot1.now given.scratch.now))

pub returns-in-Err : goal.returns-in-Err
unfolding confirming by_standing
returns-in-Err c =
    let given = c.args in
    refusing_mark _ _ _ c.from.ensures
    ∙ c.in-Err.ensures.asked (confirm_if_needed given.g (flash_of given.slot0.now given.slot1.now given.scratch.now))
