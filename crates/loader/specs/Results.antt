-- Laws for the code of both starts: what it answers is what PowerUp.antt says.
use Rattle.std.specs.Prelude.{◌≡◌, List, [], Bool, true, false, ℕ, ◌-◌}
use Rattle.std.proofs.Math.Path.{refl}
use Rattle.std.proofs.Common.{◌∙◌}
use Rattle.flash.specs.declared.Geometry.{Geometry}
use Rattle.flash.specs.declared.Run.{Run}
use Rattle.flash.specs.declared.End.{End}
use Rattle.flash.specs.Build.{Flash}
use Rattle.plan.specs.declared.Course.{Course}
use Rattle.plan.specs.declared.Course.TheVariants.{Damage, FromLineThree, Resume, Test, Permanent, Revert, Clear, Nothing}
use Rattle.plan.specs.declared.Done.{Done}
use Rattle.plan.specs.Asked.{flash_of}
use Rattle.plan.specs.Decision.{done_of, found_of}
use Rattle.moves.specs.Areas.{state}
use Rattle.answers.specs.declared.Refusal.{Refusal}
use Rattle.answers.specs.declared.Outcome.{Outcome}
use Rattle.answers.specs.declared.Answer.{Answer}
use Rattle.loader.specs.PowerUp.{result_of, boot_of, ended, carried, answered, refused, is_damage, on_course}

-- whether slot 0 is booted rests on slot 0 alone
ended_slot0 : (checked : Bool) (g : Geometry) (x0 x1 x2 : List ℕ) (e : End) → ended checked g (flash_of x0 [] []) e
    ≡ ended checked g (flash_of x0 x1 x2) e
unfolding ended boot_of
ended_slot0 checked g x0 x1 x2 End.Going = refl
ended_slot0 checked g x0 x1 x2 End.Stopped = refl
ended_slot0 checked g x0 x1 x2 End.Unerased = refl

pub took : (checked : Bool) (g : Geometry) (b : ℕ) (course : Course) (x0 x1 x2 : List ℕ) (r : Run) (done : Done) (found : ℕ)
    (outcome : Outcome)
    → done ≡ done_of course → found ≡ found_of course → outcome ≡ ended checked g (flash_of x0 [] []) r.end
    → result_of (record { done = done; found = found; count = b - r.left; outcome = outcome }) (flash_of x0 x1 x2)
    ≡ answered checked g b course (state x0 x1 x2 r)
unfolding answered
took checked g b course x0 x1 x2 r told found outcome d f o = rw (d, f, o, ended_slot0 checked g x0 x1 x2 r.end) refl

module _ (checked : Bool) (g : Geometry) (b : ℕ) (f : Flash) where
  pub damaged : (c : Course) → is_damage c ≡ true → on_course checked g b f c ≡ refused Refusal.Damage f
  unfolding is_damage on_course
  damaged Damage h = refl
  damaged (FromLineThree p) h = cc
  damaged (Resume c) h = cc
  damaged Test h = cc
  damaged Permanent h = cc
  damaged Revert h = cc
  damaged Clear h = cc
  damaged Nothing h = cc

  pub undamaged : (c : Course) → is_damage c ≡ false → on_course checked g b f c ≡ answered checked g b c (carried g b f c)
  unfolding is_damage on_course
  undamaged Damage h = cc
  undamaged (FromLineThree p) h = refl
  undamaged (Resume c) h = refl
  undamaged Test h = refl
  undamaged Permanent h = refl
  undamaged Revert h = refl
  undamaged Clear h = refl
  undamaged Nothing h = refl

-- ---- refusals, as code answers them

pub refusing : (a : Answer) (r : Refusal) (f : Flash)
    → (a.done ≡ Done.None) × ((a.found ≡ 0) × ((a.count ≡ 0) × (a.outcome ≡ Outcome.Refused r))) → result_of a f ≡ refused r f
unfolding refused
refusing a r f e =
    let same : result_of a f ≡ result_of (record { done = a.done; found = a.found; count = a.count; outcome = a.outcome }) f = refl in
    same ∙ rw (e.0, e.1.0, e.1.1.0, e.1.1.1) refl
