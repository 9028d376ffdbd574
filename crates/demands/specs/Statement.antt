-- What the theorems about a power-up speak of: how it ends, its answer by the list in force, refusals 3 and 4 by their causes, and starts one
-- after the other.
use Rattle.std.specs.Prelude.{◌≡◌, List, [], ◌∷◌, Bool, true, ℕ, ◌≤◌, min, length, ltb, Err}
use Rattle.spans.specs.Choice.{pick}
use Rattle.flash.specs.declared.Geometry.{Geometry}
use Rattle.flash.specs.Build.{Flash}
use Rattle.flash.specs.Base.{build}
use Rattle.flash.specs.Operations.{run}
use Rattle.causes.specs.declared.Cause.{Cause}
use Rattle.causes.specs.Check.{number_of, check, accepted}
use Rattle.plan.specs.declared.Course.{Course}
use Rattle.plan.specs.Decision.{in_force, done_of, found_of}
use Rattle.answers.specs.declared.Answer.{Answer}
use Rattle.answers.specs.declared.Refusal.{Refusal}
use Rattle.answers.specs.declared.Outcome.{Outcome}
use Rattle.answers.specs.Numbers.{refusal_number}
use Rattle.loader.specs.PowerUp.{Result, boot_of, full_start}

-- a boot offset, a stop, or a refusal numbered 1 to 4
pub data Ends : Outcome → Type 0 where
  boots : (offset : ℕ) → Ends (Outcome.Boot offset)
  stops : Ends Outcome.Stopped
  refuses : (r : Refusal) → 1 ≤ refusal_number r → refusal_number r ≤ 4 → Ends (Outcome.Refused r)

-- the answer, and the areas, of a power-up whose geometry is taken and whose marks are sound
unfoldable pub as_listed : Bool → Geometry → ℕ → Flash → Course → Result
as_listed checked g b f course =
    let ops = in_force accepted (build g) f in
    record {
      answer = record {
        done = done_of course;
        found = found_of course;
        count = min b (length ops);
        outcome = pick (ltb b (length ops)) Outcome.Stopped (boot_of checked g (run (build g) b ops f));
      };
      flash = run (build g) b ops f;
    }

-- the image check meets cause 1 or 2
pub record MeetsLow (xs : List ℕ) : Type 0 where
  pub cause : Cause
  pub met : check xs ≡ Err cause
  pub least : 1 ≤ number_of cause
  pub most : number_of cause ≤ 2

-- the cause that is given with refusal 4
pub record MeetsHigh (checked : Bool) (xs : List ℕ) (c : Cause) : Type 0 where
  pub chosen : checked ≡ true
  pub met : check xs ≡ Err c
  pub least : 3 ≤ number_of c
  pub most : number_of c ≤ 5

-- the start came to D: not refused by 1 or 2, and not stopped
pub record ToD (a : Answer) : Type 0 where
  pub taken : a.outcome ≡ Outcome.Refused Refusal.Geometry → ⊥
  pub undamaged : a.outcome ≡ Outcome.Refused Refusal.Damage → ⊥
  pub allowed : a.outcome ≡ Outcome.Stopped → ⊥

-- Starts with these allowances, one after the other, from f: all answer Stopped but the last, which answers `outcome` and leaves `end`.
pub data Starts (checked : Bool) (g : Geometry) (outcome : Outcome) (end : Flash) : List ℕ → Flash → Type 0 where
  the_last : {b : ℕ} {bs : List ℕ} {f : Flash} → (full_start checked g b f).answer.outcome ≡ outcome
      → (full_start checked g b f).flash ≡ end → Starts checked g outcome end (b ∷ bs) f
  stopped : {b : ℕ} {bs : List ℕ} {f : Flash} → (full_start checked g b f).answer.outcome ≡ Outcome.Stopped
      → Starts checked g outcome end bs (full_start checked g b f).flash → Starts checked g outcome end (b ∷ bs) f

-- starts with these allowances, one after the other from f, all answer Stopped
pub data AllStop (checked : Bool) (g : Geometry) : List ℕ → Flash → Type 0 where
  no_start : {f : Flash} → AllStop checked g [] f
  stops_too : {b : ℕ} {bs : List ℕ} {f : Flash} → (full_start checked g b f).answer.outcome ≡ Outcome.Stopped
      → AllStop checked g bs (full_start checked g b f).flash → AllStop checked g (b ∷ bs) f
