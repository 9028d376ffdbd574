-- What the code of A, B and C is promised against: the decision over the bytes of the three areas,
-- and which courses ask for the image check.
use Rattle.std.specs.Prelude.{List, Bool, true, false, ℕ}
use Rattle.flash.specs.declared.Geometry.{Geometry}
use Rattle.flash.specs.Build.{slot0, slot1, scratch, Flash}
use Rattle.flash.specs.Base.{build}
use Rattle.trailer.specs.Trailer.{trailer}
use Rattle.plan.specs.declared.Course.{Course}
use Rattle.plan.specs.declared.Course.TheVariants.{Damage, FromLineThree, Resume, Test, Permanent, Revert, Clear, Nothing}
use Rattle.plan.specs.Decision.{asks}

abbrev pub flash_of : List ℕ → List ℕ → List ℕ → Flash
flash_of xs ys zs = record { in0 = xs; in1 = ys; in2 = zs }

-- A, B and C for the base
abbrev pub asked_by : Geometry → Flash → Course
asked_by g f = asks (build g) (trailer (build g) slot0 f) (trailer (build g) slot1 f) (trailer (build g) scratch f)

-- "In I to III the image in slot 1 is checked."
unfoldable pub asks_check : Course → Bool
asks_check Damage = false
asks_check (FromLineThree p) = false
asks_check (Resume c) = false
asks_check Test = true
asks_check Permanent = true
asks_check Revert = true
asks_check Clear = false
asks_check Nothing = false
