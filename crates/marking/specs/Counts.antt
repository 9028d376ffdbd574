-- Document 01, "Marking and confirming": "each answers its count". What is said to be written is the whole list: no run of `wrote_all` ends
-- Stopped, since its allowance is the length of its list.
use Rattle.std.specs.Prelude.{◌≡◌, refl, Ok, List, [], ◌∷◌, Bool, true, false, ℕ, suc, ◌-◌, length}
use Rattle.std.proofs.Common.{arith, ne_eqb}
use Rattle.spans.specs.Bytes.{put, blank}
use Rattle.spans.specs.Choice.{pick}
use Rattle.flash.specs.declared.Geometry.{Geometry}
use Rattle.flash.specs.declared.Run.{Run}
use Rattle.flash.specs.declared.End.TheVariants.{Unerased}
use Rattle.flash.specs.Geometry.{start_of, place_of}
use Rattle.flash.specs.Build.{Build, geometry, Flash, area, valid}
use Rattle.flash.specs.Base.{build}
use Rattle.flash.specs.Operations.{Op, erase, write, copy, State, local, going, unit_of, attempt, erase_in, erased, write_in, step, steps, start}
use Rattle.plan.specs.declared.Course.{Course}
use Rattle.plan.specs.declared.Course.TheVariants.{Damage, FromLineThree, Resume, Test, Permanent, Revert, Clear, Nothing}
use Rattle.plan.specs.Asked.{asked_by}
use Rattle.answers.specs.declared.Refusal.{Refusal}
use Rattle.marking.specs.Marking.{MarkResult, refused_mark, ending_of, wrote_all, unless_under_way, unless_refused}
use Rattle.marking.specs.Standing.{standing_of}

-- a run with an allowance of k operations for the k that are left, or one that met a unit that is not erased
data Enough (k : ℕ) : Run → Type 0 where
  enough : Enough k (going k)
  unerased : {left : ℕ} → Enough k (record { left = left; end = Unerased })

attempt_enough : (e : Bool) (xs ys : List ℕ) {k : ℕ} {r : Run} → Enough (suc k) r → Enough k (attempt e ys (local xs r)).run
unfolding attempt
attempt_enough e xs ys {k} enough = rw (ne_eqb (suc k) 0 (λ q. omega arith)) (go e)
  where
    go : (e : Bool) → Enough k (pick e (local ys (going (suc k - 1))) (local xs (record { left = suc k; end = Unerased }))).run
    go true = let same : suc k - 1 ≡ k = omega arith in rw same enough
    go false = unerased
attempt_enough e xs ys unerased = unerased

step_enough : (g : Build) (op : Op) (f : Flash) {k : ℕ} {r : Run} → Enough (suc k) r → Enough k (step g op (record { flash = f; run = r })).run
unfolding step erase_in write_in
step_enough g (erase a i) f h = attempt_enough true (area a f) (put (area a f) (start_of (geometry g) i).0 (blank g.sector)) h
step_enough g (write a u bs) f h =
    attempt_enough (erased (geometry g) u (area a f)) (area a f) (put (area a f) (place_of (geometry g) u).0 bs) h
step_enough g (copy c v a u) f h =
    attempt_enough (erased (geometry g) u (area a f)) (area a f) (put (area a f) (place_of (geometry g) u).0 (unit_of g c v f)) h

steps_enough : (g : Build) (ops : List Op) (s : State) → Enough (length ops) s.run → Enough 0 (steps g ops s).run
unfolding steps
steps_enough g [] s h = h
steps_enough g (op ∷ ops) s h = steps_enough g ops (step g op s) (step_enough g op s.flash h)

pub written_whole : (g : Geometry) (ops : List Op) (f : Flash) → (wrote_all g ops f).answer.ending ≡ Ok tt
    → (wrote_all g ops f).answer.count ≡ length ops
unfolding wrote_all ending_of
written_whole g ops f = go (steps_enough (build g) ops (start (length ops) f) enough)
  where
    go : {r : Run} → Enough 0 r → ending_of r.end ≡ Ok tt → length ops - r.left ≡ length ops
    go enough h = omega arith
    go unerased h = absurd (let z : ◌≡◌ {A = ℕ} 0 1 = cc in omega arith)

-- ---- marking and confirming by how they end: refused by 1, 2 or 6, or none of them and then as it may be

pub by_refusals : (P : MarkResult → Type 0) (g : Geometry) (f : Flash) (otherwise : MarkResult)
    → P (refused_mark Refusal.Geometry f) → P (refused_mark Refusal.Damage f) → P (refused_mark Refusal.UnderWay f)
    → (valid (build g) f ≡ true → standing_of (asked_by g f) ≡ Ok tt → P otherwise) → P (unless_refused g f otherwise)
unfolding unless_refused unless_under_way standing_of
by_refusals P g f otherwise one two six none = fitting (valid (build g) f) refl
  where
    on_course_lem : valid (build g) f ≡ true → (c : Course) → asked_by g f ≡ c → P (unless_under_way c f otherwise)
    on_course_lem v Damage e = two
    on_course_lem v (FromLineThree p) e = six
    on_course_lem v (Resume c) e = six
    on_course_lem v Test e = none v (rw e)
    on_course_lem v Permanent e = none v (rw e)
    on_course_lem v Revert e = none v (rw e)
    on_course_lem v Clear e = none v (rw e)
    on_course_lem v Nothing e = none v (rw e)

    fitting : (b : Bool) → valid (build g) f ≡ b → P (pick b (unless_under_way (asked_by g f) f otherwise) (refused_mark Refusal.Geometry f))
    fitting true v = on_course_lem v (asked_by g f) refl
    fitting false v = one
