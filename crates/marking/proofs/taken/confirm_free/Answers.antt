use Rattle.std.proofs.Common.{[], ap, arith, sym, true, ◌∙◌}
use Rattle.flash.specs.declared.Sector.{Sector}
use Rattle.flash.specs.Build.{Area}
use Rattle.flash.specs.Base.{base, build}
use Rattle.flash.specs.Operations.{local, going}
use Rattle.plan.specs.Lists.{ok_ops}
use Rattle.plan.specs.Asked.{flash_of}
use Rattle.moves.specs.Areas.{state}
use Rattle.writes.specs.InArea.{ok_in}
use Rattle.marking.specs.MarkLaws.{left_of, confirmed_state}
use Rattle.marking.proofs.MarkLaws.{confirm_written, confirm_refused}
use Rattle.marking.proofs.taken.confirm_free.Goals as goal

pub write_ok-requires : goal.write_ok-requires
write_ok-requires c =
    let small = c.args.fit.small in
    let last = ap (λ (i : Sector). i.0) c.last_sector.ensures in
    record {
      small = small;
      i_bound = omega (arith, last, small);
    }

pub written-requires : goal.written-requires
unfolding base
written-requires c =
    let given = c.args in
    left_of given.fit.g (ok_ops (build given.fit.g) Area.slot0 true)
    (state _ [] [] c.write_ok.result) 1 (flash_of given.slot0.now [] [])
    (confirmed_state given.fit.g given.slot0.now [] [] 1 _ _ (c.write_ok.ensures
    ∙ ap (λ (i : Sector). ok_in given.fit.g i true (local given.slot0.now (going 1)))
    c.last_sector.ensures))

pub returns : goal.returns
unfolding base
returns c =
    let given = c.args in
    λ x1 x2. confirm_written given.fit.g given.slot0.now x1 x2 c.written.result _ _
    (sym c.is_confirmable.ensures ∙
    c.if-not-is_confirmable.false)
    (c.write_ok.ensures
    ∙ ap (λ (i : Sector). ok_in given.fit.g i true (local given.slot0.now (going 1)))
    c.last_sector.ensures)
    c.written.ensures

pub returns-then-not-is_confirmable : goal.returns-then-not-is_confirmable
returns-then-not-is_confirmable c =
    let given = c.args in
    λ x1 x2. confirm_refused given.fit.g given.slot0.now x1 x2 c.from.result
    (sym c.is_confirmable.ensures ∙ c.if-not-is_confirmable.true) c.from.ensures
