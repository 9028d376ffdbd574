-- DEMAND 2, the image: what a power-up exchanges is an image, what it clears out is none. (That the check accepts exactly images is
-- `accepts_images` and `accepts_only_images` of crate causes, Theorem.antt; what is booted after an exchange, Boots.antt.)
-- ---- accepted exactly when it is an image
use Rattle.std.specs.Prelude.{◌≡◌, List, Bool, ◌&&◌, not, ℕ, ◌+◌, ◌*◌, eqb, Ok, Err}
use Rattle.std.proofs.Math.Path.{refl}
use Rattle.std.proofs.Common.{sym, ap, ◌∙◌}
use Rattle.std.proofs.Math.Bool.{true, false, false≢true}
use Rattle.std.proofs.Math.ListN.{length}
use Rattle.std.proofs.Math.Dec.{leb}
use Rattle.spans.specs.Choice.{pick}
use Rattle.flash.specs.declared.Geometry.{Geometry}
use Rattle.flash.specs.Build.{Build, Flash}
use Rattle.flash.specs.Base.{build}
use Rattle.trailer.specs.Trailer.{ok_at, copy_done_at, magic_of, is_good, mark_of, is_unset, has_value, written, legal}
use Rattle.causes.specs.Check.{Verdict, check, is_accepted, accepted}
use Rattle.causes.specs.Image.{Image}
use Rattle.causes.proofs.Theorem.{accepts_images, accepts_only_images}
use Rattle.plan.specs.declared.Course.{Course}
use Rattle.plan.specs.declared.Course.TheVariants.{Damage, FromLineThree, Resume, Test, Permanent, Revert, Clear, Nothing}
use Rattle.plan.specs.Asked.{asked_by, asks_check}
use Rattle.plan.specs.Decision.{step_a, step_b, state_c, continue, asks, judged, decide}
use Rattle.plan.specs.DecisionLaws.{test_due, permanent_due, revert_due, decide_checked}
use Rattle.recovery.specs.Statement.{Exchange, by_test, by_permanent, by_revert}
use Rattle.loader.specs.PowerUp.{data_of}

of_verdict : (v : Verdict) → is_accepted v ≡ true → v ≡ (Ok tt)
unfolding is_accepted
of_verdict (Ok tt) h = refl
of_verdict (Err c) h = absurd (false≢true h)

pub accepted_image : (xs : List ℕ) → accepted xs ≡ true → Image xs
unfolding accepted
accepted_image xs h = accepts_only_images xs (of_verdict (check xs) h)

pub image_accepted : (xs : List ℕ) → Image xs → accepted xs ≡ true
unfolding accepted is_accepted
image_accepted xs i = ap is_accepted (accepts_images xs i)

-- ---- the decision goes by it

-- a rejected image is never exchanged
rejected : (c : Course) → asks_check (judged false c) ≡ false
unfolding asks_check judged
rejected Damage = refl
rejected (FromLineThree p) = refl
rejected (Resume c) = refl
rejected Test = refl
rejected Permanent = refl
rejected Revert = refl
rejected Clear = refl
rejected Nothing = refl

exchanged : {course : Course} {p : Bool} → Exchange course p → asks_check course ≡ true
unfolding asks_check
exchanged by_test = refl
exchanged by_permanent = refl
exchanged by_revert = refl

judged_accepted : (a : Bool) (c : Course) {course : Course} {p : Bool} → Exchange course p → judged a c ≡ course → a ≡ true
judged_accepted true c x e = refl
judged_accepted false c x e = sym (rejected c) ∙ ap asks_check e ∙ exchanged x

-- a course that the check's answer alone makes a clear-out
judged_cleared : (a : Bool) (c : Course) → judged a c ≡ Clear → (c ≡ Clear → ⊥) → a ≡ false
unfolding judged
judged_cleared false c e n = refl
judged_cleared true Damage e n = cc
judged_cleared true (FromLineThree p) e n = cc
judged_cleared true (Resume c) e n = cc
judged_cleared true Test e n = cc
judged_cleared true Permanent e n = cc
judged_cleared true Revert e n = cc
judged_cleared true Clear e n = absurd (n refl)
judged_cleared true Nothing e n = cc

-- A, B and C give no clear-out of themselves
not_clear : Course → Bool
not_clear Damage = true
not_clear (FromLineThree p) = true
not_clear (Resume c) = true
not_clear Test = true
not_clear Permanent = true
not_clear Revert = true
not_clear Clear = false
not_clear Nothing = true

picked : (t : Bool) (x y : Course) → not_clear x ≡ true → not_clear y ≡ true → not_clear (pick t x y) ≡ true
picked true x y p q = p
picked false x y p q = q

module _ (g : Build) where
  c_not_clear : (t0 t1 : List ℕ) → not_clear (state_c g t0 t1) ≡ true
  unfolding state_c not_clear
  c_not_clear t0 t1 = go (test_due g t1) (permanent_due g t1) (revert_due g t0 t1)
    where
      go : (a b c : Bool) → not_clear (pick a Test (pick b Permanent (pick c Revert Nothing))) ≡ true
      go true b c = refl
      go false true c = refl
      go false false true = refl
      go false false false = refl

  continue_not_clear : (t0 : List ℕ) (c : ℕ) (x : Course) → not_clear x ≡ true → not_clear (continue g t0 c x) ≡ true
  unfolding continue not_clear
  continue_not_clear t0 c x h =
      picked (not (legal g t0 c 0 (3 * g.sectors))) Damage _ refl
      (picked (eqb c 0) x _ h (picked (leb 3 c && leb c (3 + length g.moves)) (Resume c) Damage refl refl))

  asks_not_clear : (t0 t1 t2 : List ℕ) → not_clear (asks g t0 t1 t2) ≡ true
  unfolding asks step_a step_b not_clear
  asks_not_clear t0 t1 t2 =
      let ok = mark_of g t2 (ok_at g) in
      picked (is_good (magic_of g t2)) _ _
      (picked (is_unset ok) (FromLineThree false) _ refl (picked (has_value 1 ok) (FromLineThree true) Damage refl refl))
      (picked (is_good (magic_of g t0) && is_unset (mark_of g t0 (copy_done_at g))) _ _
      (continue_not_clear t0 (written g t0 0 (3 * g.sectors)) (state_c g t0 t1) (c_not_clear t0 t1)) (c_not_clear t0 t1))

module _ (g : Geometry) (f : Flash) where
  -- "Accepted: exchange": what is exchanged is an image in slot 1's data bytes
  pub exchange_of_image : {course : Course} {p : Bool} → Exchange course p → decide accepted (build g) f ≡ course → Image (data_of g
      f.in1)
  unfolding data_of
  exchange_of_image x e =
      accepted_image (data_of g f.in1)
      (judged_accepted (accepted (data_of g f.in1)) (asked_by g f) x (sym (decide_checked accepted g f) ∙ e))

  -- "Rejected: clear out": what is cleared out is none
  pub clear_out_of_none : decide accepted (build g) f ≡ Clear → Image (data_of g f.in1) → ⊥
  unfolding data_of not_clear
  clear_out_of_none e i =
      let r : accepted (data_of g f.in1) ≡ false =
      judged_cleared (accepted (data_of g f.in1)) (asked_by g f) (sym (decide_checked accepted g f) ∙ e)
      (λ c. false≢true (sym (ap not_clear c) ∙ asks_not_clear (build g) _ _ _)) in
      false≢true (sym r ∙ image_accepted (data_of g f.in1) i)
