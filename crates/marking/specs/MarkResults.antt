-- Refusals of marking and confirming, as code answers them.
use Rattle.std.specs.Prelude.{◌≡◌, refl, Err}
use Rattle.std.proofs.Common.{◌∙◌}
use Rattle.flash.specs.Build.{Flash}
use Rattle.answers.specs.declared.Refusal.{Refusal}
use Rattle.answers.specs.declared.Marked.{Marked}
use Rattle.marking.specs.Marking.{mark_result, refused_mark}

pub refusing_mark : (a : Marked) (r : Refusal) (f : Flash) → (a.ending ≡ Err r) × (a.count ≡ 0) → mark_result a f
    ≡ refused_mark r f
unfolding refused_mark
refusing_mark a r f e =
    let same : mark_result a f ≡ mark_result (record { ending = a.ending; count = a.count }) f = refl in
    same ∙ rw (e.0, e.1) refl
