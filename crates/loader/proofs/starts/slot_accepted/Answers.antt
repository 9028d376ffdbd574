use Rattle.std.proofs.Common.{is_ok, Ok, Err, refl, ap, ◌∙◌, ◌≡◌}
use Rattle.causes.specs.Check.{Verdict, check, is_accepted, accepted}
use Rattle.loader.proofs.starts.slot_accepted.Goals as goal

pub returns : goal.returns
unfolding accepted is_accepted
returns c = c.is_ok.ensures.value ∙ same _ ∙ ap is_accepted (c.check.ensures ∙ ap check c.data_of.ensures)
  where
    same : (v : Verdict) → is_ok v ≡ is_accepted v
    same (Ok x) = refl
    same (Err e) = refl
