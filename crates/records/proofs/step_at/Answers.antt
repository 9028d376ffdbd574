use Rattle.std.proofs.Common.{ap, arith, get_or, sym, ℕ, ◌+◌, ◌∙◌}
use Rattle.records.specs.declared.Step.TheVariants.{Record}
use Rattle.records.specs.RecordLaws.{step_end, step_short, step_cut, step_record}
use Rattle.records.proofs.step_at.Goals as goal

pub returns-then-area-at : goal.returns-then-area-at
returns-then-area-at c = let a = c.args in
    sym (step_end a.area.now a.at (omega arith))

pub returns-then-left-lt4 : goal.returns-then-left-lt4
returns-then-left-lt4 c = let a = c.args in
    sym (step_short a.area.now a.at (omega arith) (omega arith))

pub returns-then-left-size : goal.returns-then-left-size
returns-then-left-size c = let a = c.args in
    sym (step_cut a.area.now a.at (omega arith) (omega arith))

pub returns : goal.returns
returns c =
    let a = c.args in
    ap (λ (n : ℕ). Record (get_or a.area.now a.at 0) (a.at + 4) n) c.two-size.ensures.0
    ∙ sym (step_record a.area.now a.at (omega arith) (omega arith))
