use Rattle.std.proofs.Common.{Result, ap, sym, ◌∙◌, ◌≡◌}
use Rattle.std.specs.Prelude.{⊤}
use Rattle.std.proofs.lemmas.Result.{err_from_is_err_and}
use Rattle.flash.specs.Build.{valid}
use Rattle.answers.specs.declared.Refusal.{Refusal}
use Rattle.plan.specs.Asked.{flash_of, asked_by}
use Rattle.marking.specs.Marking.{unless_refused}
use Rattle.marking.specs.Standing.{by_standing, standing_of, standing_says}
use Rattle.marking.proofs.taken.standing.Goals as goal

pub returns-in_default-clause-asked : goal.returns-in_default-clause-asked
unfolding unless_refused valid by_standing
returns-in_default-clause-asked c = λ otherwise. rw (sym c.in_default.ensures.fits)

pub returns-in_err-standing_of-clause-asked : goal.returns-in_err-standing_of-clause-asked
unfolding unless_refused valid by_standing
returns-in_err-standing_of-clause-asked c =
    let f = flash_of c.args.slot0.now c.args.slot1.now c.args.scratch.now in
    let stands : c.standing_of.result ≡ standing_of (asked_by c.args.g f) = c.standing_of.ensures ∙ ap standing_of c.asks.ensures in
    let p = err_from_is_err_and c.from_residual.result c.from_residual.ensures.1 in
    λ otherwise. rw (p.1, p.2, sym c.in-Some.ensures.fits)
    (ap (λ (r : Result ⊤ Refusal). by_standing r f otherwise) (sym c.in_err-standing_of.was ∙ stands)
    ∙ standing_says (asked_by c.args.g f) f otherwise)

pub returns-clause-asked : goal.returns-clause-asked
unfolding unless_refused valid by_standing
returns-clause-asked c =
    let f = flash_of c.args.slot0.now c.args.slot1.now c.args.scratch.now in
    let stands : c.standing_of.result ≡ standing_of (asked_by c.args.g f) = c.standing_of.ensures ∙ ap standing_of c.asks.ensures in
    λ otherwise. rw (sym c.in-Some.ensures.fits)
    (ap (λ (r : Result ⊤ Refusal). by_standing r f otherwise) (sym c.in_ok-standing_of.was ∙ stands)
    ∙ standing_says (asked_by c.args.g f) f otherwise)
