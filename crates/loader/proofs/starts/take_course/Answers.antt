use Rattle.std.proofs.Common.{ap, arith, ◌∙◌, ◌≡◌}
use Rattle.flash.specs.Base.{build}
use Rattle.flash.specs.Operations.{State, start}
use Rattle.flash.specs.OperationLaws.{steps_left}
use Rattle.plan.specs.Decision.{list_of, ok_unset}
use Rattle.plan.specs.Asked.{flash_of}
use Rattle.loader.specs.PowerUp.{answered, carried}
use Rattle.loader.specs.Results.{took}
use Rattle.loader.proofs.starts.take_course.Goals as goal

pub overflow_sub-result : goal.overflow_sub-result
overflow_sub-result c =
    let given = c.args in
    let r = c.carry_out-run.ensures in
    let left : c.carry_out-run.result.left ≡ _ = ap (λ
    (s : State). s.run.left) r in
    omega (
      arith,
      left,
      steps_left (build
          given.fit.g) (list_of (build given.fit.g) (ok_unset (build given.fit.g)
          (flash_of given.slot0.now given.slot1.now given.scratch.now)) given.course)
          (start given.allowance (flash_of given.slot0.now given.slot1.now given.scratch.now)),
    )

pub returns : goal.returns
unfolding carried
returns c =
    let given =
    c.args in
    took given.checked given.fit.g given.allowance given.course _ _ _
    c.carry_out-run.result _
    _ _ c.done_of.ensures c.found_of.ensures
    c.outcome_of.ensures
    ∙ ap (answered given.checked given.fit.g given.allowance given.course)
    c.carry_out-run.ensures
