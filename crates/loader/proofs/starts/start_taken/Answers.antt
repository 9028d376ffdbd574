use Rattle.std.proofs.Common.{rules, ap, sym, ◌∙◌, ◌≡◌}
use Rattle.plan.specs.Asked.{flash_of}
use Rattle.loader.specs.PowerUp.{is_damage, on_course}
use Rattle.loader.specs.Results.{damaged, undamaged, refusing}
use Rattle.loader.proofs.starts.start_taken.Goals as goal

pub returns-then-eq : goal.returns-then-eq
unfolding is_damage
returns-then-eq c =
    let given = c.args in
    let f = flash_of given.slot0.now given.slot1.now given.scratch.now in
    let asked : c.eq.result ≡ is_damage c.decided-course.result = search rules in
    refusing _ _ f c.from.ensures
    ∙ sym (damaged given.checked given.fit.g given.allowance f c.decided-course.result (sym asked ∙ c.if-eq.true))
    ∙ ap (on_course given.checked given.fit.g given.allowance f) c.decided-course.ensures.0

pub returns-else-eq : goal.returns-else-eq
unfolding is_damage
returns-else-eq c =
    let given = c.args in
    let f = flash_of given.slot0.now given.slot1.now given.scratch.now in
    let asked : c.eq.result ≡ is_damage c.decided-course.result = search rules in
    c.take_course.ensures
    ∙ sym (undamaged given.checked given.fit.g given.allowance f c.decided-course.result (sym asked ∙ c.if-eq.false))
    ∙ ap (on_course given.checked given.fit.g given.allowance f) c.decided-course.ensures.0
