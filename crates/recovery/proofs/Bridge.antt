-- Carrying out a list whose writes meet erased units: nothing but the allowance stops it, and refusal 8 never comes.
-- ---- one operation
use Rattle.std.specs.Prelude.{◌≡◌, List, [], ◌∷◌, Bool, true, false, length, ltb}
use Rattle.std.proofs.Common.{sym, ◌∙◌, ne_eqb}
use Rattle.std.proofs.Math.Path.{ap}
use Prim.Native.Nat.{ℕ, zero, suc, ◌*◌, ◌-◌, min}
use native.Mathlib.Omega.{arith}
use Rattle.std.proofs.Math.Dec.{leb-zero, leb-suc-zero, leb-suc-suc}
use Rattle.spans.specs.Bytes.{put, blank}
use Rattle.spans.specs.Choice.{pick}
use Rattle.spans.specs.Laws.{same_refl}
use Rattle.flash.specs.declared.Sector.{Sector}
use Rattle.flash.specs.declared.Unit.{Unit}
use Rattle.flash.specs.declared.End.TheVariants.{Going, Stopped, Unerased}
use Rattle.flash.specs.Build.{Area, Build, Flash, area, with_area, geometry}
use Rattle.flash.specs.Operations.{Op, erase, write, copy, unit_of, apply, run, local, going, attempt, erase_in, erased, write_in, State, back, step, steps, start}
use Rattle.flash.specs.AreaLaws.{with_own}
use Rattle.flash.specs.OperationLaws.{halt, steps_stopped}
use Rattle.plan.specs.Decision.{in_force}
use Rattle.recovery.specs.Statement.{Sound, carried}
use Rattle.recovery.proofs.Fresh.{end, erasing, writing, copying}
use Rattle.recovery.proofs.Fresh.{Fresh}
use Rattle.recovery.proofs.Unerased.{never_unerased}

module _ (g : Build) (f : Flash) where
  -- with nothing left of the allowance it is not begun
  step_none : (op : Op) → step g op (start 0 f) ≡ halt 0 f
  unfolding step erase_in write_in attempt
  step_none (erase a i) = ap (halt 0) (with_own a f)
  step_none (write a u bs) = ap (halt 0) (with_own a f)
  step_none (copy c v a u) = ap (halt 0) (with_own a f)

  -- with some left it is done, a write where the unit is erased
  done : (b : ℕ) (a : Area) (ys : List ℕ)
      → back a (start (suc b) f) (attempt true ys (local (area a f) (going (suc b)))) ≡ start b (with_area a f ys)
  unfolding attempt
  done b a ys =
      let e : suc b - 1 ≡ b = omega arith in
      rw (ne_eqb (suc b) 0 (λ q. omega arith), e)

  step_erase : (b : ℕ) (a : Area) (i : Sector) → step g (erase a i) (start (suc b) f) ≡ start b (apply g (erase a i) f)
  unfolding step erase_in apply
  step_erase b a i = done b a (put (area a f) (i.0 * g.sector) (blank g.sector))

  written : (b : ℕ) (a : Area) (u : Unit) (bs : List ℕ) → unit_of g a u f ≡ blank g.unit
      → back a (start (suc b) f) (write_in (geometry g) u bs (local (area a f) (going (suc b))))
      ≡ start b (with_area a f (put (area a f) (u.0 * g.unit) bs))
  unfolding write_in erased
  written b a u bs e = rw (e, same_refl (blank g.unit)) (done b a (put (area a f) (u.0 * g.unit) bs))

-- ---- a list

-- a state whose allowance and end are written another way; `short`: another operation is due
same_state : (f : Flash) {left left' : ℕ} {short short' : Bool} → left ≡ left' → short ≡ short'
    → ◌≡◌ {A = State} (record { flash = f; run = record { left = left; end = pick short Stopped Going } })
    (record { flash = f; run = record { left = left'; end = pick short' Stopped Going } })
same_state f p q i = record { flash = f; run = record { left = p i; end = pick (q i) Stopped Going } }

-- one operation more, on both sides
more : (g : Build) (b : ℕ) (op : Op) (ops : List Op) (f : Flash) → step g op (start (suc b) f) ≡ start b (apply g op f)
    → steps g ops (start b (apply g op f)) ≡ carried g b ops (apply g op f)
    → steps g (op ∷ ops) (start (suc b) f) ≡ carried g (suc b) (op ∷ ops) f
unfolding steps run
more g b op ops f e h =
    ap (steps g ops) e ∙ h
    ∙ same_state (run g b ops (apply g op f)) (omega arith) (sym (leb-suc-suc (suc b) (length ops)))

pub fresh_steps : (g : Build) (b : ℕ) (ops : List Op) (f : Flash) → Fresh g ops f → steps g ops (start b f) ≡ carried g b ops f
unfolding steps run apply step
fresh_steps g zero [] f end = same_state f (omega arith) (sym (leb-suc-zero 0))
fresh_steps g (suc b) [] f end = same_state f (omega arith) (sym (leb-suc-zero (suc b)))
fresh_steps g zero (op ∷ ops) f p =
    ap (steps g ops) (step_none g f op) ∙ steps_stopped g ops f 0
    ∙ same_state f (omega arith) (sym (leb-suc-suc 0 (length ops) ∙ leb-zero (length ops)))
fresh_steps g (suc b) (op ∷ ops) f (erasing {a} {i} p) =
    more g b op ops f (step_erase g f b a i) (fresh_steps g b ops (apply g op f) p)
fresh_steps g (suc b) (op ∷ ops) f (writing {a} {u} {bs} e p) =
    more g b op ops f (written g f b a u bs e) (fresh_steps g b ops (apply g op f) p)
fresh_steps g (suc b) (op ∷ ops) f (copying {b = c} {a} {v} {u} e p) =
    more g b op ops f (written g f b a u (unit_of g c v f) e) (fresh_steps g b ops (apply g op f) p)

-- Whatever stands in the areas, and whatever the allowance, the list in force is carried out as `run` has it: Stopped exactly where
-- the allowance is below its length, Unerased never.
pub in_force_steps : (check : List ℕ → Bool) (g : Build) → Sound g → (b : ℕ) (f : Flash)
    → steps g (in_force check g f) (start b f) ≡ carried g b (in_force check g f) f
in_force_steps check g sound b f = fresh_steps g b (in_force check g f) f (never_unerased check g sound f)

-- "the count of operations, which is the smaller of the allowance and the length of the list ordered above"
pub in_force_count : (check : List ℕ → Bool) (g : Build) → Sound g → (b : ℕ) (f : Flash)
    → b - (steps g (in_force check g f) (start b f)).run.left ≡ min b (length (in_force check g f))
in_force_count check g sound b f =
    ap (λ (s : State). b - s.run.left) (in_force_steps check g sound b f) ∙ omega arith

-- refusal 8 does not come
pub never_refusal_8 : (check : List ℕ → Bool) (g : Build) → Sound g → (b : ℕ) (f : Flash)
    → (steps g (in_force check g f) (start b f)).run.end ≡ Unerased → ⊥
never_refusal_8 check g sound b f h =
    go (ltb b (length (in_force check g f))) (sym (ap (λ (s : State). s.run.end) (in_force_steps check g sound b f)) ∙ h)
  where
    go : (x : Bool) → pick x Stopped Going ≡ Unerased → ⊥
    go true e = let z : ◌≡◌ {A = ℕ} 0 1 = cc in omega arith
    go false e = let z : ◌≡◌ {A = ℕ} 0 1 = cc in omega arith
