use Rattle.std.proofs.Common.{ap, sym, ℕ, ◌∙◌}
use Rattle.flash.specs.Base.{base, build}
use Rattle.plan.specs.Decision.{continue, step_b}
use Rattle.decision.proofs.resumption.step_b.Goals as goal

pub returns-then-is_unfinished : goal.returns-then-is_unfinished
unfolding step_b base
returns-then-is_unfinished c =
    let a = c.args in
    let unfinished = sym c.is_unfinished.ensures ∙ c.if-is_unfinished.true in
    rw unfinished
    (c.continue_run.ensures
    ∙ ap (λ (n : ℕ). continue (build a.t0.g) a.t0.bytes.now n a.otherwise) c.written_marks.ensures)
