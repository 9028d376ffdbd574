-- What a start leaves alone, over what the functions promise: all sectors but those that document 01 names for its course, the lengths, and
-- in a clear-out scratch and slot 0 but its image ok.
use Rattle.std.specs.Prelude.{◌≡◌, [], Bool, ℕ, zero, suc, length}
use Rattle.std.proofs.Math.Path.{refl, sym, ap}
use Rattle.std.proofs.Common.{◌∙◌, arith}
use Rattle.std.proofs.Math.Bool.{true, false}
use Rattle.flash.specs.declared.Geometry.{Geometry}
use Rattle.flash.specs.Build.{Area, Build, Flash, area, valid}
use Rattle.flash.specs.Base.{build}
use Rattle.flash.specs.Operations.{State, run}
use Rattle.causes.specs.Check.{accepted}
use Rattle.plan.specs.declared.Course.{Course}
use Rattle.plan.specs.declared.Course.TheVariants.{Damage, FromLineThree, Resume, Test, Permanent, Revert, Clear, Nothing}
use Rattle.plan.specs.declared.Done.{Done}
use Rattle.plan.specs.Decision.{decide, list_of, ok_unset, in_force, done_of}
use Rattle.recovery.specs.Statement.{sector_of}
use Rattle.recovery.specs.Validity.{of_valid}
use Rattle.recovery.proofs.Bridge.{in_force_steps}
use Rattle.recovery.specs.Named.{During, after_some, Only, named, Cleared}
use Rattle.recovery.proofs.Changes.{in_force_only, same_lengths}
use Rattle.recovery.proofs.ClearOut.{clear_out_only}
use Rattle.answers.specs.declared.Answer.{Answer}
use Rattle.loader.specs.PowerUp.{Result, refused, is_damage, full_start}
use Rattle.loader.specs.Results.{damaged}
use Rattle.demands.specs.Promise.{Start}
use Rattle.demands.specs.Statement.{as_listed}
use Rattle.demands.proofs.AsListed.{sound, as_listed_lem}
use Rattle.demands.proofs.Demand1.{misfit_untouched}
use Rattle.demands.proofs.Demand3.{areas}

run_none : (g : Build) (b : ℕ) (f : Flash) → run g b [] f ≡ f
unfolding run
run_none g zero f = refl
run_none g (suc b) f = refl

none_done : Done.None ≡ Done.Cleared → ⊥
none_done e = let z : ◌≡◌ {A = ℕ} 0 1 = cc in omega arith

cleared_course : (c : Course) → done_of c ≡ Done.Cleared → c ≡ Clear
unfolding done_of
cleared_course Damage h = cc
cleared_course (FromLineThree p) h = cc
cleared_course (Resume c) h = cc
cleared_course Test h = cc
cleared_course Permanent h = cc
cleared_course Revert h = cc
cleared_course Clear h = refl
cleared_course Nothing h = cc

module _ {checked : Bool} {g : Geometry} {b : ℕ} {f f' : Flash} {a : Answer} (q : Start checked g b f a f') where
  -- "after an allowance of b the areas are those after the first b operations listed", whatever they held and whatever is answered
  pub first_operations : f' ≡ run (build g) b (in_force accepted (build g) f) f
  unfolding in_force
  first_operations = go (valid (build g) f) refl
    where
      go : (v : Bool) → valid (build g) f ≡ v → f' ≡ run (build g) b (in_force accepted (build g) f) f
      go true v =
          ap (λ (r : Result). r.flash) q.promised ∙ areas checked g b f
          ∙ ap (λ (s : State). s.flash) (in_force_steps accepted (build g) (sound g f v) b f)
      go false v = rw v ((misfit_untouched q v).1 ∙ sym (run_none (build g) b f))

  during : During (build g) (in_force accepted (build g) f) f f'
  during = after_some b first_operations

  pub start_lengths : (x : Area) → length (area x f') ≡ length (area x f)
  start_lengths = same_lengths (build g) (in_force accepted (build g) f) during

  pub start_only : Only (build g) (named (build g) (decide accepted (build g) f)) f f'
  start_only = go (valid (build g) f) refl
    where
      go : (v : Bool) → valid (build g) f ≡ v → Only (build g) (named (build g) (decide accepted (build g) f)) f f'
      go true v = in_force_only accepted (build g) (sound g f v) during
      go false v = λ x k n. ap (λ (y : Flash). sector_of (build g) y x k) (misfit_untouched q v).1

  -- a clear-out, by the decision and by the answer
  pub start_cleared : valid (build g) f ≡ true → decide accepted (build g) f ≡ Clear → Cleared (build g) f f'
  unfolding in_force list_of
  start_cleared v d = clear_out_only (of_valid (build g) f v).geo (ok_unset (build g) f) (rw (v, d) at during)

  pub answered_cleared : a.done ≡ Done.Cleared → Cleared (build g) f f'
  unfolding full_start refused as_listed
  answered_cleared h = go (valid (build g) f) refl (is_damage (decide accepted (build g) f)) refl (sym (ap done q.promised) ∙ h)
    where
      done : Result → Done
      done r = r.answer.done

      go : (v : Bool) → valid (build g) f ≡ v → (d : Bool) → is_damage (decide accepted (build g) f) ≡ d
          → done (full_start checked g b f) ≡ Done.Cleared → Cleared (build g) f f'
      go false v d e h = absurd (none_done (rw v at h))
      go true v true e h = absurd (none_done (rw (v, damaged checked g b f (decide accepted (build g) f) e) at h))
      go true v false e h =
          let course : Course = decide accepted (build g) f in
          start_cleared v (cleared_course course (sym (ap done (as_listed_lem checked g b f course v refl e)) ∙ h))
