use Rattle.std.proofs.Common.{[], sym, ◌++◌, ◌∙◌}
use Rattle.flash.specs.Build.{Area}
use Rattle.flash.specs.Base.{build}
use Rattle.plan.specs.Lists.{ok_ops, magic_ops}
use Rattle.plan.specs.Asked.{flash_of}
use Rattle.moves.specs.Areas.{state}
use Rattle.marking.specs.MarkLaws.{left_of, marked_state}
use Rattle.marking.proofs.MarkLaws.{marks_written, marks_refused}
use Rattle.marking.proofs.taken.mark_free.Goals as goal

pub written-requires : goal.written-requires
written-requires c =
    let given = c.args in
    left_of given.fit.g (ok_ops (build given.fit.g) Area.slot1 given.permanent ++ magic_ops (build given.fit.g)
    Area.slot1) (state [] _ [] c.ok_and_magic.result)
    c.mark_writes-all.result (flash_of [] given.slot1.now [])
    (marked_state given.fit.g [] given.slot1.now [] c.mark_writes-all.result
    given.permanent _ _ c.ok_and_magic.ensures)

pub returns : goal.returns
returns c =
    let given = c.args in
    λ x0 x2. marks_written given.fit.g x0 given.slot1.now x2 c.written.result given.permanent
    c.mark_writes-all.result _ _
    c.mark_writes-all.ensures
    (sym c.is_unmarked.ensures ∙
    c.if-not-is_unmarked.false) c.ok_and_magic.ensures
    c.written.ensures

pub returns-then-not-is_unmarked : goal.returns-then-not-is_unmarked
returns-then-not-is_unmarked c =
    let given = c.args in
    λ x0 x2. marks_refused given.fit.g x0 given.slot1.now x2 c.from.result given.permanent
    (sym c.is_unmarked.ensures ∙ c.if-not-is_unmarked.true) c.from.ensures
