-- The decision of the three areas is that of their trailer sectors.
use Rattle.std.specs.Prelude.{◌≡◌, List, ℕ}
use Rattle.flash.specs.declared.Geometry.{Geometry}
use Rattle.flash.specs.Build.{slot0, slot1, scratch, Flash}
use Rattle.flash.specs.Base.{build}
use Rattle.trailer.specs.Trailer.{trailer}
use Rattle.plan.specs.Decision.{asks}
use Rattle.plan.specs.Asked.{asked_by}

pub asked_by_lem : (g : Geometry) (f : Flash) (t0 t1 t2 : List ℕ) → t0 ≡ trailer (build g) slot0 f → t1 ≡ trailer (build g) slot1 f
    → t2 ≡ trailer (build g) scratch f → asks (build g) t0 t1 t2 ≡ asked_by g f
asked_by_lem g f t0 t1 t2 p q r = rw (p, q, r)
