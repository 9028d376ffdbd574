-- What `Failures` allows: failures one after the other, as many as one likes, each with any bytes wherever an operation works on data.
use Rattle.std.specs.Prelude.{◌≡◌, refl, List, ◌∷◌, true, ℕ, length, drop}
use Rattle.std.proofs.Common.{◌∙◌, arith}
use Rattle.flash.specs.Build.{Area, Build, Flash, area, valid}
use Rattle.flash.specs.Operations.{Op, erase, write, copy, run}
use Rattle.flash.specs.Harm.{Cut}
use Rattle.flash.specs.HarmAllows.{target, begins, CanLeave}
use Rattle.flash.proofs.HarmAllows.{torn_erase, torn_write, torn_copy}
use Rattle.recovery.specs.Cuts.{at_cut}
use Rattle.recovery.specs.Statement.{Failures, never, again}
use Rattle.recovery.specs.Validity.{valid_same}
use Rattle.recovery.specs.Named.{after_some}
use Rattle.recovery.proofs.Changes.{same_lengths}
use Rattle.recovery.specs.FailuresAllow.{size_of, OnData, Led}

module _ {g : Build} {plan : Flash → List Op} where
  pub one_failure : {f f' : Flash} → Cut g (plan f) f f' → Failures g plan f f'
  one_failure c = again never c

  pub joined : {f f₁ f₂ : Flash} → Failures g plan f f₁ → Failures g plan f₁ f₂ → Failures g plan f f₂
  joined fs never = fs
  joined fs (again gs c) = again (joined fs gs) c

any_bytes : (g : Build) (op : Op) (bytes : List ℕ) (f : Flash) → valid g f ≡ true → length bytes ≡ size_of g op → OnData g op f
    → CanLeave g op bytes f
any_bytes g (erase a i) bytes f v l h = torn_erase g f v a i bytes l h
any_bytes g (write a u bs) bytes f v l h = torn_write g f v a u bs bytes l h
any_bytes g (copy b v a u) bytes f taken l h = torn_copy g f taken b v a u bytes l h

-- after failures, the next power-up can be cut in any operation of its list that works on data, and leave any bytes there
pub harm_anywhere : (g : Build) (plan : Flash → List Op) {f f₁ : Flash} → Failures g plan f f₁ → valid g f₁ ≡ true
    → (k : ℕ) (op : Op) (rest : List Op) → drop k (plan f₁) ≡ op ∷ rest → OnData g op f₁
    → (bytes : List ℕ) → length bytes ≡ size_of g op → Led g plan f (target op) (begins g op) bytes
harm_anywhere g plan {f₁ = f₁} fs v k op rest e h bytes l =
    let f₂ : Flash = run g k (plan f₁) f₁ in
    let same : (a : Area) → length (area a f₂) ≡ length (area a f₁) = λ a. same_lengths g (plan f₁) (after_some k refl) a in
    let c = any_bytes g op bytes f₂ (valid_same g f₁ f₂ same ∙ v) l (omega (arith, same (target op))) in
    record {
      to = c.left;
      failures = again fs (at_cut (record { count = k; next = op; rest = rest; there = e; torn = c.torn }));
      there = c.there;
    }
