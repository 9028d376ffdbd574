-- The folds by which code compares bytes: all 0xff by `and`, equal by `or` of `xor`.
use Rattle.std.specs.Prelude.{◌≡◌, refl, List, [], ◌∷◌, ◌++◌, Bool, true, false, ◌&&◌, ℕ, suc, ◌+◌, ◌-◌, ◌<◌, length, get_or, eqb}
use Rattle.std.proofs.Common.{sym, ap, ap₂, ◌∙◌, add-one, arith, length-take, length-drop, eqb-true, eq-eqb, ne_eqb}
use Rattle.std.specs.Int.Bits.{bit_and, bit_or, bit_xor, and_self, or_add_and, xor_add_and, xor_self, or_zero_r}
use Rattle.std.specs.List.{fold, zip}
use Rattle.std.proofs.Math.Bool.{and_assoc}
use Rattle.std.proofs.lemmas.Nat.{and_le_l, and_le_r}
use Rattle.std.proofs.lemmas.Bool.{eqb-false}
use Rattle.spans.specs.Bytes.{part, blank, same}
use Rattle.spans.specs.Choice.{and_true}
use Rattle.spans.specs.Laws.{length_part, length_blank, part_next, blank_next}

and_full : (x v : ℕ) → x < 256 → v < 256 → eqb (bit_and x v) 255 ≡ (eqb x 255 && eqb v 255)
and_full x v hx hv = go (eqb x 255) (eqb v 255) refl refl
  where
    go : (a b : Bool) → eqb x 255 ≡ a → eqb v 255 ≡ b → eqb (bit_and x v) 255 ≡ (a && b)
    go true true p q = eq-eqb (bit_and x v) 255 (ap₂ bit_and (eqb-true x 255 p) (eqb-true v 255 q) ∙ and_self 255)
    go true false p q =
        let n = eqb-false v 255 q in
        ne_eqb (bit_and x v) 255 (λ e. n (omega (arith, and_le_r x v)))
    go false b p q =
        let n = eqb-false x 255 p in
        ne_eqb (bit_and x v) 255 (λ e. n (omega (arith, and_le_l x v)))

or_none : (d a b : ℕ) → eqb (bit_or d (bit_xor a b)) 0 ≡ (eqb d 0 && eqb a b)
or_none d a b = go (eqb d 0) (eqb a b) refl refl
  where
    go : (p q : Bool) → eqb d 0 ≡ p → eqb a b ≡ q → eqb (bit_or d (bit_xor a b)) 0 ≡ (p && q)
    go true true hp hq =
        eq-eqb (bit_or d (bit_xor a b)) 0
        (ap₂ bit_or (eqb-true d 0 hp) (ap (bit_xor a) (sym (eqb-true a b hq)) ∙ xor_self a) ∙ or_zero_r 0)
    go true false hp hq =
        let n = eqb-false a b hq in
        ne_eqb (bit_or d (bit_xor a b)) 0
        (λ e. n (omega (
          arith,
          or_add_and d (bit_xor a b),
          and_le_l d (bit_xor a b),
          and_le_r d
              (bit_xor a b),
          xor_add_and a b,
          and_le_l a b,
          and_le_r a b,
        )))
    go false q hp hq =
        let n = eqb-false d 0 hp in
        ne_eqb (bit_or d (bit_xor a b)) 0
        (λ e. n (omega (arith, or_add_and d (bit_xor a b), and_le_l d (bit_xor a b), and_le_r d (bit_xor a b))))

same_append : (xs ys us vs : List ℕ) → length xs ≡ length ys → same (xs ++ us) (ys ++ vs) ≡ (same xs ys && same us vs)
unfolding same
same_append [] [] us vs h = refl
same_append [] (z ∷ ys) us vs h = absurd (omega arith)
same_append (z ∷ xs) [] us vs h = absurd (omega arith)
same_append (a ∷ xs) (b ∷ ys) us vs h = go (eqb a b) (same_append xs ys us vs (omega arith))
  where
    go : (p : Bool) → same (xs ++ us) (ys ++ vs) ≡ (same xs ys && same us vs)
        → (p && same (xs ++ us) (ys ++ vs)) ≡ ((p && same xs ys) && same us vs)
    go true e = e
    go false e = refl

same_snoc : (xs ys : List ℕ) (x y : ℕ) → length xs ≡ length ys → same (xs ++ (x ∷ [])) (ys ++ (y ∷ [])) ≡ (same xs ys && eqb x y)
unfolding same
same_snoc xs ys x y h = same_append xs ys (x ∷ []) (y ∷ []) h ∙ ap (λ (b : Bool). same xs ys && b) (and_true (eqb x y))

-- lists of different lengths are not the same
pub same_lengths : (xs ys : List ℕ) → (length xs ≡ length ys → ⊥) → same xs ys ≡ false
unfolding same
same_lengths [] [] h = absurd (h refl)
same_lengths [] (y ∷ ys) h = refl
same_lengths (x ∷ xs) [] h = refl
same_lengths (x ∷ xs) (y ∷ ys) h = go (eqb x y) (same_lengths xs ys (λ e. h (omega arith)))
  where
    go : (b : Bool) → same xs ys ≡ false → (b && same xs ys) ≡ false
    go true e = e
    go false e = refl

-- the folds over whole lists
pub blank_all : (xs : List ℕ) (all : ℕ) → all < 256 → ((i : ℕ) → get_or xs i 0 < 256)
    → eqb (fold bit_and all xs) 255 ≡ (eqb all 255 && same xs (blank (length xs)))
unfolding same blank
blank_all [] all h v = sym (and_true (eqb all 255))
blank_all (x ∷ xs) all h v =
    blank_all xs (bit_and all x) (omega (arith, and_le_l all x)) (λ i. v (suc i))
    ∙ ap (λ (b : Bool). b && same xs (blank (length xs))) (and_full all x h (v 0))
    ∙ and_assoc (eqb all 255) (eqb x 255) (same xs (blank (length xs)))

pub same_all : (xs ys : List ℕ) (differ : ℕ) → length xs ≡ length ys
    → eqb (fold (λ d p. bit_or d (bit_xor p.0 p.1)) differ (zip xs ys)) 0 ≡ (eqb differ 0 && same xs ys)
unfolding same
same_all [] [] differ h = sym (and_true (eqb differ 0))
same_all [] (y ∷ ys) differ h = absurd (omega arith)
same_all (x ∷ xs) [] differ h = absurd (omega arith)
same_all (x ∷ xs) (y ∷ ys) differ h =
    same_all xs ys (bit_or differ (bit_xor x y)) (omega arith)
    ∙ ap (λ (b : Bool). b && same xs ys) (or_none differ x y) ∙ and_assoc (eqb differ 0) (eqb x y) (same xs ys)

-- one byte more, as a loop that counts has it
pub blank_fold : (xs : List ℕ) (at i all : ℕ) → at + i < length xs → all < 256 → get_or xs (at + i) 0 < 256
    → eqb all 255 ≡ same (part xs at i) (blank i) → eqb (bit_and all (get_or xs (at + i) 0)) 255 ≡ same (part xs at (i + 1)) (blank (i + 1))
blank_fold xs at i all h ha hv e =
    and_full all (get_or xs (at + i) 0) ha hv ∙ ap (λ (b : Bool). b && eqb (get_or xs (at + i) 0) 255) e
    ∙ sym (same_snoc (part xs at i) (blank i) (get_or xs (at + i) 0) 255 (omega (arith, length_part xs at i (omega arith), length_blank i)))
    ∙ ap₂ same (part_next xs at i h ∙ ap (part xs at) (sym (add-one i))) (blank_next i ∙ ap blank (sym (add-one i)))

pub same_fold : (xs : List ℕ) (at : ℕ) (ys : List ℕ) (i differ : ℕ) → at + i < length xs → i < length ys
    → eqb differ 0 ≡ same (part xs at i) (part ys 0 i)
    → eqb (bit_or differ (bit_xor (get_or xs (at + i) 0) (get_or ys i 0))) 0 ≡ same (part xs at (i + 1)) (part ys 0 (i + 1))
same_fold xs at ys i differ h k e =
    let z : 0 + i ≡ i = omega arith in
    or_none differ (get_or xs (at + i) 0) (get_or ys i 0) ∙ ap (λ (b : Bool). b && eqb (get_or xs (at + i) 0) (get_or ys i 0)) e
    ∙ sym (same_snoc (part xs at i) (part ys 0 i) (get_or xs (at + i) 0) (get_or ys i 0)
    (omega (arith, length_part xs at i (omega arith), length_part ys 0 i (omega arith))))
    ∙ ap₂ same (part_next xs at i h ∙ ap (part xs at) (sym (add-one i)))
    (ap (λ (n : ℕ). part ys 0 i ++ (get_or ys n 0 ∷ [])) (sym z) ∙ part_next ys 0 i (omega arith) ∙ ap (part ys 0) (sym (add-one i)))

-- a part that the list is too short for is not the same as a list that long
pub short_part : (xs : List ℕ) (at : ℕ) (ys : List ℕ) (len : ℕ) → length xs - at < len → length ys ≡ len → same (part xs at len) ys ≡ false
unfolding part
short_part xs at ys len h e = same_lengths (part xs at len) ys (λ q. omega (arith, q, simp (length-take, length-drop) at q))
