-- Document 01, "What a power-up does": what is asked before what.
use Rattle.std.specs.Prelude.{◌≡◌, List, Bool, true, false, ◌&&◌, ℕ}
use Rattle.spans.specs.Choice.{pick}
use Rattle.flash.specs.Build.{Build}
use Rattle.trailer.specs.Trailer.{ok_at, copy_done_at, magic_of, mark_of, is_good, is_unset, has_value}
use Rattle.plan.specs.declared.Course.{Course}
use Rattle.plan.specs.declared.Course.TheVariants.{Damage, FromLineThree, Test, Permanent}
use Rattle.plan.specs.Decision.{step_a, step_b, state_c, asks}

module _ (g : Build) (t0 t1 t2 : List ℕ) where
  -- A: scratch is asked before slot 0, whatever slot 0 says
  pub scratch_first : is_good (magic_of g t2) ≡ true → asks g t0 t1 t2 ≡ step_a g t2
  unfolding asks
  scratch_first e = rw e

  -- C, where slot 0's magic is not Good, or its copy done is not Unset
  pub not_b : is_good (magic_of g t2) ≡ false → (is_good (magic_of g t0) && is_unset (mark_of g t0 (copy_done_at g))) ≡ false
      → asks g t0 t1 t2 ≡ state_c g t0 t1
  unfolding asks step_b
  not_b e h = rw (e, h)

  -- I and II: slot 1 is asked before slot 0, whatever slot 0 says
  pub state_i : is_good (magic_of g t1) ≡ true → is_unset (mark_of g t1 (ok_at g)) ≡ true → state_c g t0 t1 ≡ Test
  unfolding state_c
  state_i e h = rw (e, h)

  pub state_ii : is_good (magic_of g t1) ≡ true → is_unset (mark_of g t1 (ok_at g)) ≡ false → has_value 1 (mark_of g t1 (ok_at g)) ≡ true
      → state_c g t0 t1 ≡ Permanent
  unfolding state_c
  state_ii e h v = rw (e, h, v)

-- A goes on from line 3, or says damage
pub by_a : (P : Course → Type 0) → ((p : Bool) → P (FromLineThree p)) → P Damage → (g : Build) (t : List ℕ) → P (step_a g t)
unfolding step_a
by_a P lines damage g t = go (is_unset (mark_of g t (ok_at g))) (has_value 1 (mark_of g t (ok_at g)))
  where
    go : (a b : Bool) → P (pick a (FromLineThree false) (pick b (FromLineThree true) Damage))
    go true b = lines false
    go false true = lines true
    go false false = damage
