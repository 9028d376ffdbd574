-- Laws of carrying out a list of operations.
use Rattle.std.specs.Prelude.{◌≡◌, refl, List, [], ◌∷◌, ◌++◌, Bool, true, false, ℕ, ◌-◌, ◌≤◌, eqb}
use Rattle.std.proofs.Common.{ap, ◌∙◌, arith}
use Rattle.spans.specs.Bytes.{put, blank}
use Rattle.spans.specs.Choice.{pick}
use Rattle.flash.specs.declared.End.{End}
use Rattle.flash.specs.declared.End.TheVariants.{Going, Stopped, Unerased}
use Rattle.flash.specs.Geometry.{start_of, place_of}
use Rattle.flash.specs.Build.{Build, geometry, Flash, area}
use Rattle.flash.specs.Operations.{Op, erase, write, copy, State, Local, local, going, onward, in_area, unit_of, attempt, erase_in, erased, write_in, step, steps}
use Rattle.flash.specs.AreaLaws.{with_own}

pub steps_append : (g : Build) (xs ys : List Op) (s : State) → steps g (xs ++ ys) s ≡ steps g ys (steps g xs s)
unfolding steps
steps_append g [] ys s = refl
steps_append g (x ∷ xs) ys s = steps_append g xs ys (step g x s)

-- with b left of the allowance, and stopped
abbrev pub halt : ℕ → Flash → State
halt b f = record { flash = f; run = record { left = b; end = Stopped } }

-- what has been stopped stays as it is
step_stopped : (g : Build) (op : Op) (f : Flash) (b : ℕ) → step g op (halt b f) ≡ halt b f
unfolding step erase_in write_in attempt
step_stopped g (erase a i) f b = ap (halt b) (with_own a f)
step_stopped g (write a u bs) f b = ap (halt b) (with_own a f)
step_stopped g (copy c v a u) f b = ap (halt b) (with_own a f)

pub steps_stopped : (g : Build) (ops : List Op) (f : Flash) (b : ℕ) → steps g ops (halt b f) ≡ halt b f
unfolding steps
steps_stopped g [] f b = refl
steps_stopped g (op ∷ ops) f b = ap (steps g ops) (step_stopped g op f b) ∙ steps_stopped g ops f b

-- ---- the allowance never grows

attempt_left : (erased : Bool) (ys : List ℕ) (l : Local) → (attempt erased ys l).run.left ≤ l.run.left
unfolding attempt
attempt_left erased ys l = go l.run.end (eqb l.run.left 0) erased
  where
    go : (e : End) (z erased : Bool)
        → (onward e l (pick z (local l.bytes (record { left = l.run.left; end = Stopped }))
        (pick erased (local ys (going (l.run.left - 1))) (local l.bytes
        (record { left = l.run.left; end = Unerased }))))).run.left ≤ l.run.left
    go Going true erased = omega arith
    go Going false true = omega arith
    go Going false false = omega arith
    go Stopped z erased = omega arith
    go Unerased z erased = omega arith

step_left : (g : Build) (op : Op) (s : State) → (step g op s).run.left ≤ s.run.left
unfolding step erase_in write_in
step_left g (erase a i) s = attempt_left true (put (area a s.flash) (start_of (geometry g) i).0 (blank g.sector)) (in_area a s)
step_left g (write a u bs) s = attempt_left (erased (geometry g) u (area a s.flash))
    (put (area a s.flash) (place_of (geometry g) u).0 bs) (in_area a s)
step_left g (copy c v a u) s =
    attempt_left (erased (geometry g) u (area a s.flash)) (put (area a s.flash) (place_of (geometry g) u).0 (unit_of g c v
    s.flash)) (in_area a s)

pub steps_left : (g : Build) (ops : List Op) (s : State) → (steps g ops s).run.left ≤ s.run.left
unfolding steps
steps_left g [] s = omega arith
steps_left g (op ∷ ops) s = omega (arith, steps_left g ops (step g op s), step_left g op s)
