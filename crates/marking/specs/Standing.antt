-- Refusals 2 and 6 of marking and confirming, as code asks for them.
use Rattle.std.specs.Prelude.{◌≡◌, refl, Result, Ok, Err, ⊤}
use Rattle.flash.specs.Build.{Flash}
use Rattle.plan.specs.declared.Course.{Course}
use Rattle.plan.specs.declared.Course.TheVariants.{Damage, FromLineThree, Resume, Test, Permanent, Revert, Clear, Nothing}
use Rattle.answers.specs.declared.Refusal.{Refusal}
use Rattle.marking.specs.Marking.{MarkResult, refused_mark, unless_under_way}

unfoldable pub standing_of : Course → Result ⊤ Refusal
standing_of Damage = Err Refusal.Damage
standing_of (FromLineThree p) = Err Refusal.UnderWay
standing_of (Resume c) = Err Refusal.UnderWay
standing_of Test = Ok tt
standing_of Permanent = Ok tt
standing_of Revert = Ok tt
standing_of Clear = Ok tt
standing_of Nothing = Ok tt

unfoldable pub by_standing : {T : Type 0} → Result T Refusal → Flash → MarkResult → MarkResult
by_standing (Ok x) f otherwise = otherwise
by_standing (Err r) f otherwise = refused_mark r f

pub standing_says : (c : Course) (f : Flash) (otherwise : MarkResult) → by_standing (standing_of c) f otherwise ≡ unless_under_way c f otherwise
unfolding standing_of by_standing unless_under_way
standing_says Damage f o = refl
standing_says (FromLineThree p) f o = refl
standing_says (Resume c) f o = refl
standing_says Test f o = refl
standing_says Permanent f o = refl
standing_says Revert f o = refl
standing_says Clear f o = refl
standing_says Nothing f o = refl
