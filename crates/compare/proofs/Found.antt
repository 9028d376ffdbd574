-- The bytes that `get` gives, and what is seen of them.
use Rattle.std.specs.Prelude.{◌≡◌, refl, List, [], ◌∷◌, ◌&&◌, Bool, true, false, ℕ, ◌+◌, ◌-◌, ◌<◌, length, take, drop, get_or, eqb, ltb, Option, None, Some, MatchOption}
use Rattle.std.specs.Borrow.{Bor}
use Rattle.std.specs.Option.{unwrap_or}
use Rattle.std.specs.Slice.{IsGetRangeResult}
use Rattle.std.specs.List.{fold, zip}
use Rattle.std.specs.Cmp.Lexicographic.{pointwise}
use Rattle.std.specs.Int.Bits.{bit_and, bit_or, bit_xor}
use Rattle.std.proofs.Common.{inl, inr, sym, ap, ◌∙◌, arith, length-drop, take_all, drop_of_length-le, get_or-drop, get_or-take, length-take, ltb-true, ltb-false, subst}
use Rattle.std.proofs.lemmas.List.{get_or_past}
use Rattle.spans.specs.Bytes.{part, blank, same}
use Rattle.spans.specs.Laws.{length_blank}
use Rattle.compare.specs.Folds.{short_part, blank_all, same_all}

-- the bytes from at on, none beyond the end
from_on : (xs : List ℕ) (at : ℕ) (rest : Option (Bor (List ℕ))) (none cut : Bor (List ℕ)) → none.now ≡ []
    → IsGetRangeResult xs at (length xs) rest → cut ≡ unwrap_or rest none → cut.now ≡ drop at xs
from_on xs at None none cut e (inl h, _) q = ap (λ (b : Bor (List ℕ)). b.now) q ∙ e ∙ sym (drop_of_length-le xs {i = at} (omega arith))
from_on xs at None none cut e (inr h, _) q = absurd (omega arith)
from_on xs at (Some r) none cut e ((_, _, h, _), _) q =
    ap (λ (b : Bor (List ℕ)). b.now) q ∙ h ∙ take_all (length xs - at) (drop at xs) (simp length-drop (omega arith))

pub window_found : (xs : List ℕ) (at size : ℕ) (rest : Option (Bor (List ℕ))) (none cut : Bor (List ℕ)) (found : Option (Bor (List ℕ)))
    → none.now ≡ [] → IsGetRangeResult xs at (length xs) rest → cut ≡ unwrap_or rest none → IsGetRangeResult cut.now 0 size found
    → MatchOption found (length xs - at < size) (λ w. (w.now ≡ part xs at size) × (length w.now ≡ size))
unfolding part
window_found xs at size rest none cut found e g q f = go found f
  where
    behind : cut.now ≡ drop at xs
    behind = from_on xs at rest none cut e g q

    long : length cut.now ≡ length xs - at
    long = ap length behind ∙ length-drop at xs

    go : (o : Option (Bor (List ℕ))) → IsGetRangeResult cut.now 0 size o
        → MatchOption o (length xs - at < size) (λ w. (w.now ≡ take size (drop at xs)) × (length w.now ≡ size))
    go None (inl h, _) = absurd (omega arith)
    go None (inr h, _) = omega (arith, long)
    go (Some w) ((_, _, h, k), _) =
        let z : size - 0 ≡ size = omega arith in
        (h ∙ ap (λ (n : ℕ). take n cut.now) z ∙ ap (take size) behind, omega arith)

part_fits : (xs : List ℕ) (at size : ℕ) → ((i : ℕ) → get_or xs i 0 < 256) → (i : ℕ) → get_or (part xs at size) i 0 < 256
unfolding part
part_fits xs at size v i = go (ltb i size) refl
  where
    go : (b : Bool) → ltb i size ≡ b → get_or (take size (drop at xs)) i 0 < 256
    go true e =
        let byte : get_or (take size (drop at xs)) i 0 ≡ get_or xs (at + i) 0 = get_or-take size (drop at xs) i 0 (ltb-true i size e) ∙ get_or-drop at xs i 0 in
        omega (arith, byte, v (at + i))
    go false e =
        let l = ltb-false i size e in
        let past : get_or (take size (drop at xs)) i 0 ≡ 0 = get_or_past (take size (drop at xs)) i 0 (simp length-take (omega arith)) in
        omega (arith, past)

pub blank_seen : (xs : List ℕ) (at size : ℕ) (found : Option (Bor (List ℕ))) (r : Bool) → ((i : ℕ) → get_or xs i 0 < 256)
    → MatchOption found (length xs - at < size) (λ w. (w.now ≡ part xs at size) × (length w.now ≡ size))
    → MatchOption found (r ≡ false) (λ w. r ≡ eqb (fold bit_and 255 w.now) 255) → r ≡ same (part xs at size) (blank size)
blank_seen xs at size None r v h e = e ∙ sym (short_part xs at (blank size) size h (length_blank size))
blank_seen xs at size (Some w) r v (p, l) e =
    e ∙ blank_all w.now 255 (omega arith) (λ i. subst (λ (ys : List ℕ). get_or ys i 0 < 256) (sym p) (part_fits xs at size v i))
    ∙ ap (λ (n : ℕ). same w.now (blank n)) l ∙ ap (λ (ys : List ℕ). same ys (blank size)) p

-- the library's equality of bytes
pointwise_same : (xs ys : List ℕ) → pointwise eqb xs ys ≡ same xs ys
unfolding same
pointwise_same [] [] = refl
pointwise_same [] (y ∷ ys) = refl
pointwise_same (x ∷ xs) [] = refl
pointwise_same (x ∷ xs) (y ∷ ys) = ap (λ (b : Bool). eqb x y && b) (pointwise_same xs ys)

pub same_seen : (xs : List ℕ) (at : ℕ) (want : List ℕ) (found : Option (Bor (List ℕ))) (r : Bool)
    → MatchOption found (length xs - at < length want) (λ w. (w.now ≡ part xs at (length want)) × (length w.now ≡ length want))
    → MatchOption found (r ≡ false) (λ w. r ≡ pointwise eqb w.now want) → r ≡ same (part xs at (length want)) want
same_seen xs at want None r h e = e ∙ sym (short_part xs at want (length want) h refl)
same_seen xs at want (Some w) r (p, l) e = e ∙ pointwise_same w.now want ∙ ap (λ (ys : List ℕ). same ys want) p

-- the bits in which they differ, of bytes that are as many: none where they are equal
pub bits_seen : (short : Type 0) (xs want : List ℕ) (found : Option (Bor (List ℕ))) (r : Bool)
    → MatchOption found short (λ w. (w.now ≡ xs) × (length w.now ≡ length want))
    → MatchOption found (r ≡ false) (λ w. r ≡ eqb (fold (λ d p. bit_or d (bit_xor p.0 p.1)) 0 (zip w.now want)) 0)
    → MatchOption found (r ≡ false) (λ w. r ≡ pointwise eqb w.now want)
bits_seen short xs want None r h e = e
bits_seen short xs want (Some w) r (p, l) e = e ∙ same_all w.now want 0 l ∙ sym (pointwise_same w.now want)
