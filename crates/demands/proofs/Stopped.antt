-- A start that answers Stopped is a power failure without harm: it may stand among the failures of demand 3.
use Rattle.std.specs.Prelude.{◌≡◌, Bool, ℕ}
use Rattle.flash.specs.declared.Geometry.{Geometry}
use Rattle.flash.specs.Build.{Flash}
use Rattle.flash.specs.Base.{build}
use Rattle.causes.specs.Check.{accepted}
use Rattle.plan.specs.Decision.{in_force}
use Rattle.recovery.specs.Cuts.{stopped_cut}
use Rattle.recovery.specs.Statement.{Failures, again}
use Rattle.answers.specs.declared.Answer.{Answer}
use Rattle.answers.specs.declared.Outcome.{Outcome}
use Rattle.demands.specs.Promise.{Start}
use Rattle.demands.proofs.Touched.{first_operations}
use Rattle.demands.proofs.StoppedDue.{stopped_due}

-- so it may stand among the failures
pub stopped : {checked : Bool} {g : Geometry} {b : ℕ} {f f₁ f' : Flash} {a : Answer} → Failures (build g) (in_force accepted (build g)) f f₁
    → Start checked g b f₁ a f' → a.outcome ≡ Outcome.Stopped → Failures (build g) (in_force accepted (build g)) f f'
stopped {g = g} {b} {f₁ = f₁} fs q s =
    rw (first_operations q) (again fs (stopped_cut (build g) b (in_force accepted (build g) f₁) f₁ (stopped_due q s)))
