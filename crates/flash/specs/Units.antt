-- Document 01, "The flash": a write unit is 1, 2, 4 or 8 bytes. What holds of these four holds of a unit that is asked for by them.
use Rattle.std.specs.Prelude.{◌≡◌, refl, Bool, true, false, ◌||◌, ℕ, eqb}
use Rattle.std.proofs.Common.{sym, subst, eqb-true}
use Rattle.std.proofs.lemmas.Bool.{false≢true}

pub each_unit : (P : ℕ → Type 0) → P 1 → P 2 → P 4 → P 8 → (w : ℕ) → (eqb w 1 || eqb w 2 || eqb w 4 || eqb w 8) ≡ true → P w
each_unit P p1 p2 p4 p8 w h = go (eqb w 1) (eqb w 2) (eqb w 4) (eqb w 8) refl refl refl refl h
  where
    go : (a b c d : Bool) → eqb w 1 ≡ a → eqb w 2 ≡ b → eqb w 4 ≡ c → eqb w 8 ≡ d → (a || b || c || d) ≡ true → P w
    go true b c d p q r s t = subst P (sym (eqb-true w 1 p)) p1
    go false true c d p q r s t = subst P (sym (eqb-true w 2 q)) p2
    go false false true d p q r s t = subst P (sym (eqb-true w 4 r)) p4
    go false false false true p q r s t = subst P (sym (eqb-true w 8 s)) p8
    go false false false false p q r s t = absurd (false≢true t)
