use Rattle.std.proofs.Common.{ap, false, rules, sym, true, ◌∙◌, ◌≡◌}
use Rattle.flash.specs.Base.{base, build}
use Rattle.trailer.specs.Trailer.{trailer, magic_of, is_good}
use Rattle.plan.specs.Decision.{asks, step_b}
use Rattle.plan.specs.Asked.{flash_of}
use Rattle.decision.specs.AreaLaws.{asked_by_lem}
use Rattle.decision.proofs.asks.Goals as goal

pub returns-then-eq : goal.returns-then-eq
unfolding base trailer asks is_good
returns-then-eq c =
    let a = c.args in
    let t = c.of_scratch-t2 in
    let good : is_good (magic_of (build t.result.g) t.result.bytes.now) ≡ true = search rules in
    let areas =
    asked_by_lem a.g (flash_of a.slot0.now a.slot1.now a.scratch.now) _ _ _
    c.of_slot-t0.ensures.bytes c.of_slot-t1.ensures.bytes t.ensures.bytes in
    rw (sym areas, sym t.ensures.geometry, good) c.step_a.ensures

pub returns-else-eq : goal.returns-else-eq
unfolding base trailer asks is_good
returns-else-eq c =
    let a = c.args in
    let t0 = c.of_slot-t0 in
    let t = c.of_scratch-t2 in
    let not-good : is_good (magic_of (build t.result.g) t.result.bytes.now) ≡ false = search rules in
    let areas =
    asked_by_lem a.g (flash_of a.slot0.now a.slot1.now a.scratch.now) _ _ _
    t0.ensures.bytes c.of_slot-t1.ensures.bytes t.ensures.bytes in
    let here = c.step_b.ensures ∙ ap (step_b (build t0.result.g) t0.result.bytes.now) c.state_c.ensures in
    rw (sym areas, rw t.ensures.geometry at not-good) (rw t0.ensures.geometry at here)
