-- A course that continues an exchange does so after 3 to 3n marks: what carrying it out relies on.
use Rattle.std.specs.Prelude.{◌≡◌, List, Bool, ◌&&◌, not, ℕ, ◌+◌, ◌*◌, eqb}
use Rattle.std.proofs.Math.Path.{refl}
use Rattle.std.proofs.Math.Bool.{true, false}
use Rattle.std.proofs.Math.ListN.{length}
use Rattle.std.proofs.Math.Dec.{leb}
use Rattle.spans.specs.Choice.{pick}
use Rattle.flash.specs.Build.{Build}
use Rattle.trailer.specs.Trailer.{ok_at, copy_done_at, magic_of, is_good, mark_of, is_unset, has_value, written, legal}
use Rattle.plan.specs.declared.Course.{Course}
use Rattle.plan.specs.declared.Course.TheVariants.{Damage, FromLineThree, Resume, Test, Permanent, Revert, Clear, Nothing}
use Rattle.plan.specs.Decision.{step_a, continue, step_b, state_c, asks, judged}
use Rattle.plan.specs.DecisionLaws.{test_due, permanent_due, revert_due}
use Rattle.plan.specs.Bounds.{in_bounds}

-- either way of a choice is in bounds, so what is chosen is
module _ (g : Build) where
  picked : (b : Bool) (x y : Course) → in_bounds g x ≡ true → in_bounds g y ≡ true → in_bounds g (pick b x y) ≡ true
  picked true x y p q = p
  picked false x y p q = q

  step_a_bounded : (t2 : List ℕ) → in_bounds g (step_a g t2) ≡ true
  unfolding in_bounds step_a
  step_a_bounded t2 =
      let ok = mark_of g t2 (ok_at g) in
      picked (is_unset ok) (FromLineThree false) (pick (has_value 1 ok) (FromLineThree true) Damage) refl
      (picked (has_value 1 ok) (FromLineThree true) Damage refl refl)

  state_c_bounded : (t0 t1 : List ℕ) → in_bounds g (state_c g t0 t1) ≡ true
  unfolding in_bounds state_c
  state_c_bounded t0 t1 = go (test_due g t1) (permanent_due g t1) (revert_due g t0 t1)
    where
      go : (a b d : Bool) → in_bounds g (pick a Test (pick b Permanent (pick d Revert Nothing))) ≡ true
      go true b d = refl
      go false true d = refl
      go false false true = refl
      go false false false = refl

  continue_bounded : (t0 : List ℕ) (c : ℕ) (otherwise : Course) → in_bounds g otherwise ≡ true
      → in_bounds g (continue g t0 c otherwise) ≡ true
  unfolding in_bounds continue
  continue_bounded t0 c otherwise h = go (legal g t0 c 0 (3 * g.sectors)) (eqb c 0) (leb 3 c && leb c (3 + length g.moves)) refl
    where
      go : (l e m : Bool) → (leb 3 c && leb c (3 + length g.moves)) ≡ m
          → in_bounds g (pick (not l) Damage (pick e otherwise (pick m (Resume c) Damage))) ≡ true
      go true true m k = h
      go true false true k = k
      go true false false k = refl
      go false e m k = refl

  pub asks_bounded : (t0 t1 t2 : List ℕ) → in_bounds g (asks g t0 t1 t2) ≡ true
  unfolding asks step_b
  asks_bounded t0 t1 t2 =
      let c = state_c g t0 t1 in
      let marks = written g t0 0 (3 * g.sectors) in
      picked (is_good (magic_of g t2)) (step_a g t2) (step_b g t0 c) (step_a_bounded t2)
      (picked (is_good (magic_of g t0) && is_unset (mark_of g t0 (copy_done_at g))) (continue g t0 marks c) c
      (continue_bounded t0 marks c (state_c_bounded t0 t1)) (state_c_bounded t0 t1))

  pub judged_bounded : (accepted : Bool) (course : Course) → in_bounds g course ≡ true → in_bounds g (judged accepted course) ≡ true
  unfolding in_bounds judged
  judged_bounded accepted Damage h = refl
  judged_bounded accepted (FromLineThree p) h = refl
  judged_bounded accepted (Resume c) h = h
  judged_bounded true Test h = refl
  judged_bounded false Test h = refl
  judged_bounded true Permanent h = refl
  judged_bounded false Permanent h = refl
  judged_bounded true Revert h = refl
  judged_bounded false Revert h = refl
  judged_bounded accepted Clear h = refl
  judged_bounded accepted Nothing h = refl
