use Rattle.std.proofs.Common.{sym, ◌∙◌}
use Rattle.flash.specs.Base.{base, build}
use Rattle.decision.specs.FollowLaws.{continue_legal, continue_damage}
use Rattle.decision.proofs.resumption.continue_run.Goals as goal

pub returns-then-legal_run : goal.returns-then-legal_run
unfolding base
returns-then-legal_run c =
    let a = c.args in
    let legal = sym c.legal_run.ensures ∙ c.if-legal_run.true in
    c.follow.ensures ∙ sym (continue_legal (build a.t0.g) a.t0.bytes.now a.c a.otherwise legal)

pub returns-else-legal_run : goal.returns-else-legal_run
unfolding base
returns-else-legal_run c =
    let a = c.args in
    let illegal = sym c.legal_run.ensures ∙ c.if-legal_run.false in
    sym (continue_damage (build a.t0.g) a.t0.bytes.now a.c a.otherwise illegal)
