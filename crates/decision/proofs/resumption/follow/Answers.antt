use Rattle.std.proofs.Common.{arith, sym}
use Rattle.flash.specs.Base.{build}
use Rattle.plan.specs.DecisionLaws.{most_marks}
use Rattle.decision.specs.FollowLaws.{none_marked, too_few, marks_enough, too_many}
use Rattle.decision.proofs.resumption.follow.Goals as goal

pub returns-in-0 : goal.returns-in-0
returns-in-0 c = sym (none_marked (build c.args.g) c.args.c c.args.otherwise c.in-0.is)

pub returns-in-3-to-max : goal.returns-in-3-to-max
returns-in-3-to-max c =
    let a = c.args in
    let most = most_marks a.g c.requires in
    sym (marks_enough (build a.g) a.c a.otherwise (omega arith) (omega arith) (omega (arith, most, c.if-c-g.true)))

pub returns-in_default : goal.returns-in_default
returns-in_default c =
    let a = c.args in
    sym (too_few (build a.g) a.c a.otherwise (omega arith) (omega arith))

pub returns-in_default-2 : goal.returns-in_default-2
returns-in_default-2 c =
    let a = c.args in
    let most = most_marks a.g c.requires in
    sym (too_many (build a.g) a.c a.otherwise (omega arith) (omega arith) (omega (arith, most, c.if-c-g.false)))
