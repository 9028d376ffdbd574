use Rattle.std.proofs.Common.{ap, ap₂, false, sym, ◌∙◌, ◌≡◌}
use Rattle.flash.specs.Base.{build}
use Rattle.causes.specs.Check.{accepted}
use Rattle.plan.specs.Decision.{decide, judged}
use Rattle.plan.specs.DecisionLaws.{decide_checked, decide_unchecked}
use Rattle.plan.specs.Asked.{flash_of, asked_by, asks_check}
use Rattle.plan.specs.Bounds.{in_bounds}
use Rattle.plan.proofs.Bounds.{asks_bounded, judged_bounded}
use Rattle.loader.specs.PowerUp.{data_of}
use Rattle.loader.proofs.starts.decided.Goals as goal

pub returns-then-wants_check : goal.returns-then-wants_check
unfolding data_of
returns-then-wants_check c =
    let given = c.args in
    let e : c.judge.result ≡ decide accepted (build given.fit.g)
    (flash_of given.slot0.now
    given.slot1.now
    given.scratch.now) =
    c.judge.ensures ∙ ap₂ judged c.slot_accepted.ensures c.asks-asked.ensures ∙ sym
    (decide_checked accepted given.fit.g (flash_of
    given.slot0.now
    given.slot1.now
    given.scratch.now)) in (
      e,
      ap (in_bounds (build given.fit.g)) (c.judge.ensures ∙ ap
          (judged _) c.asks-asked.ensures)
          ∙ judged_bounded (build given.fit.g)
          c.slot_accepted.result (asked_by given.fit.g
          (flash_of given.slot0.now
          given.slot1.now
          given.scratch.now)) (asks_bounded (build
          given.fit.g) _ _ _),
    )

pub returns-else-wants_check : goal.returns-else-wants_check
returns-else-wants_check c =
    let given = c.args in
    let a : asked_by given.fit.g (flash_of
    given.slot0.now
    given.slot1.now
    given.scratch.now) ≡ c.asks-asked.result = sym
    c.asks-asked.ensures in
    let w : asks_check (asked_by given.fit.g (flash_of
    given.slot0.now
    given.slot1.now
    given.scratch.now)) ≡ false = ap asks_check a ∙ sym
    c.wants_check.ensures ∙ c.if-wants_check.false in (
      c.asks-asked.ensures ∙ sym (decide_unchecked accepted given.fit.g
          (flash_of given.slot0.now
          given.slot1.now
          given.scratch.now) w),
      ap (in_bounds (build given.fit.g)) c.asks-asked.ensures
          ∙ asks_bounded (build given.fit.g) _ _ _,
    )
