-- What lies beyond the end of a list is neither read nor stored, so a span may be cut down to what is there.
use Rattle.std.specs.Prelude.{◌≡◌, refl, List, [], ◌∷◌, Bool, true, false, ℕ, zero, suc, ◌+◌, ◌-◌, ◌≤◌, ◌<◌, min, length, get_or, take, drop, ltb}
use Rattle.std.proofs.Common.{sym, ap, ◌∙◌, arith, length-take, length-drop, drop_of_length-le, take-add, take_all, take-take, drop-drop, ltb-true, ltb-false}
use Rattle.std.proofs.Math.Seq.{take-nil}
use Rattle.spans.specs.Bytes.{part, put, blank}
use Rattle.spans.specs.Laws.{part_blank, put_nil, put_join}

pub put_cut : (xs : List ℕ) (at : ℕ) (ys : List ℕ) (n : ℕ) → length xs ≤ at + n → put xs at ys ≡ put xs at (take n ys)
unfolding put
put_cut [] at ys n h = refl
put_cut (x ∷ xs) zero [] n h = rw (take-nil n)
put_cut (x ∷ xs) zero (y ∷ ys) zero h = absurd (omega arith)
put_cut (x ∷ xs) zero (y ∷ ys) (suc n) h = ap {B = List ℕ} (λ r. y ∷ r) (put_cut xs zero ys n (omega arith))
put_cut (x ∷ xs) (suc at) ys n h = ap {B = List ℕ} (λ r. x ∷ r) (put_cut xs at ys n (omega arith))

-- the shorter of two takes
pub take_min : (r m : ℕ) (xs : List ℕ) → take r (take m xs) ≡ take (min m r) xs
take_min r m xs = go (ltb m r) refl
  where
    go : (b : Bool) → ltb m r ≡ b → take r (take m xs) ≡ take (min m r) xs
    go true e =
        let h : m ≤ r = omega (arith, ltb-true m r e) in
        let k : min m r ≡ m = omega arith in
        take_all r (take m xs) (simp length-take (omega arith)) ∙ ap (λ (n : ℕ). take n xs) (sym k)
    go false e =
        let h : r ≤ m = ltb-false m r e in
        let k : min m r ≡ r = omega arith in
        take-take r m xs h ∙ ap (λ (n : ℕ). take n xs) (sym k)

pub part_min : (xs : List ℕ) (at len : ℕ) → part xs at (min len (length xs - at)) ≡ part xs at len
unfolding part
part_min xs at len =
    sym (take_min (length xs - at) len (drop at xs))
    ∙ take_all (length xs - at) (take len (drop at xs)) (simp (length-take, length-drop) (omega arith))

pub blank_least : (xs : List ℕ) (at size : ℕ) → put xs at (blank (min size (length xs - at))) ≡ put xs at (blank size)
unfolding part
blank_least xs at size = go (ltb size (length xs - at)) refl
  where
    go : (b : Bool) → ltb size (length xs - at) ≡ b → put xs at (blank (min size (length xs - at))) ≡ put xs at (blank size)
    go true e =
        let h = ltb-true size (length xs - at) e in
        let k : min size (length xs - at) ≡ size = omega arith in
        ap (λ (n : ℕ). put xs at (blank n)) k
    go false e =
        let h : length xs - at ≤ size = ltb-false size (length xs - at) e in
        let k : min size (length xs - at) ≡ length xs - at = omega arith in
        ap (λ (n : ℕ). put xs at (blank n)) k ∙ ap (put xs at) (sym (part_blank size zero (length xs - at) (omega arith)))
        ∙ sym (put_cut xs at (blank size) (length xs - at) (omega arith))

pub copy_least : (xs : List ℕ) (at : ℕ) (src : List ℕ) (from size : ℕ)
    → put xs at (part src from (min (min size (length src - from)) (length xs - at))) ≡ put xs at (part src from size)
unfolding part
copy_least xs at src from size =
    let m : ℕ = min size (length src - from) in
    let r : ℕ = length xs - at in
    ap (put xs at) (sym (take_min r m (drop from src))) ∙ sym (put_cut xs at (part src from m) r (omega arith))
    ∙ ap (put xs at) (part_min src from size)

pub get_d_past : (xs : List ℕ) (i : ℕ) → length xs ≤ i → get_or xs i 0 ≡ 0
get_d_past [] i h = refl
get_d_past (x ∷ xs) zero h = absurd (omega arith)
get_d_past (x ∷ xs) (suc i) h = get_d_past xs i (omega arith)

-- two stores, of what follows in the same list
pub put_take_join : (xs : List ℕ) (at w : ℕ) (bs : List ℕ) (m : ℕ)
    → put (put xs at (take w bs)) (at + w) (take m (drop w bs)) ≡ put xs at (take (w + m) bs)
put_take_join xs at w bs m = go (ltb (length bs) w) refl
  where
    go : (b : Bool) → ltb (length bs) w ≡ b → put (put xs at (take w bs)) (at + w) (take m (drop w bs)) ≡ put xs at (take (w + m) bs)
    go true e =
        let h : length bs < w = ltb-true (length bs) w e in
        let d : drop w bs ≡ [] = drop_of_length-le bs {i = w} (omega arith) in
        ap (λ (r : List ℕ). put (put xs at (take w bs)) (at + w) (take m r)) d
        ∙ ap (put (put xs at (take w bs)) (at + w)) (take-nil m) ∙ put_nil (put xs at (take w bs)) (at + w)
        ∙ ap (put xs at) (take_all w bs (omega arith) ∙ sym (take_all (w + m) bs (omega arith)))
    go false e =
        let h : w ≤ length bs = ltb-false (length bs) w e in
        let l : w ≡ length (take w bs) = simp length-take (omega arith) in
        ap (λ (n : ℕ). put (put xs at (take w bs)) (at + n) (take m (drop w bs))) l
        ∙ put_join xs at (take w bs) (take m (drop w bs)) ∙ ap (put xs at) (sym (take-add w m bs))

pub copy_more : (xs : List ℕ) (at : ℕ) (src : List ℕ) (from a b : ℕ)
    → put (put xs at (part src from a)) (at + a) (part src (from + a) b) ≡ put xs at (part src from (a + b))
unfolding part
copy_more xs at src from a b =
    let e : drop (from + a) src ≡ drop a (drop from src) = sym (drop-drop a from src) in
    ap (λ (ys : List ℕ). put (put xs at (take a (drop from src))) (at + a) (take b ys)) e ∙ put_take_join xs at a (drop from src) b
