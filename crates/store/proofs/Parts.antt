-- A store into the part of a list that is there, and what stands in it.
use Rattle.std.specs.Prelude.{◌≡◌, refl, List, [], ◌∷◌, ◌++◌, Bool, true, false, ℕ, zero, suc, ◌+◌, ◌*◌, ◌-◌, ◌/◌, ◌≤◌, ◌<◌, min, length, take, drop, ltb, set, get_or}
use Rattle.std.proofs.Common.{sym, ap, ap₂, ◌∙◌, arith, length-take, length-drop, take_all, drop_of_length-le, ltb-true, ltb-false}
use Rattle.std.proofs.Math.Nat.{div-mul-le_self, mul-le-mul_right}
use Rattle.std.proofs.Math.Seq.{take-nil}
use Rattle.std.proofs.lemmas.List.{take-append-drop}
use borrow.Rule.Slice.PartMut.{put_mid}
use Rattle.spans.specs.Bytes.{part, put, blank}
use Rattle.spans.specs.Laws.{put_nil, part_part, length_part, length_blank, copy_next, erase_next}
use Rattle.spans.specs.CutOff.{copy_more, put_cut, part_min, blank_least}
use Rattle.spans.specs.Blanks.{blanks, blanks_le, part_length, behind_copy}

put_front : (k : ℕ) (xs ys : List ℕ) → put (take k xs) 0 ys ++ drop k xs ≡ put xs 0 (take k ys)
unfolding put
put_front zero xs ys = sym (put_nil xs 0)
put_front (suc k) [] ys = refl
put_front (suc k) (x ∷ xs) [] = ap {B = List ℕ} (λ r. x ∷ r) (take-append-drop k xs)
put_front (suc k) (x ∷ xs) (y ∷ ys) = ap {B = List ℕ} (λ r. y ∷ r) (put_front k xs ys)

-- a store at the front of the k bytes from at on
pub put_inside : (at k : ℕ) (xs ys : List ℕ) → put_mid at k xs (put (part xs at k) 0 ys) ≡ put xs at (take k ys)
unfolding put part
put_inside zero k xs ys = put_front k xs ys
put_inside (suc at) k [] ys = put_front k [] ys
put_inside (suc at) k (x ∷ xs) ys = ap {B = List ℕ} (λ r. x ∷ r) (put_inside at k xs ys)

-- beyond the end nothing is stored, and nothing stands
put_past : (xs : List ℕ) (at : ℕ) (ys : List ℕ) → length xs ≤ at → put xs at ys ≡ xs
put_past xs at ys h = put_cut xs at ys 0 (omega arith) ∙ put_nil xs at

part_past : (xs : List ℕ) (at size : ℕ) → length xs ≤ at → part xs at size ≡ []
unfolding part
part_past xs at size h = ap (take size) (drop_of_length-le xs {i = at} h) ∙ take-nil size

pub part_none : (xs : List ℕ) (at : ℕ) → part xs at 0 ≡ []
unfolding part
part_none xs at = refl

-- from s up to e those of the size bytes from at on that are there
pub part_there : (xs : List ℕ) (at size s e : ℕ) → s ≡ min at (length xs) → e ≡ min at (length xs) + min size (length xs - at)
    → part xs s (e - s) ≡ part xs at size
part_there xs at size s e p q = go (ltb (length xs) at) refl
  where
    go : (b : Bool) → ltb (length xs) at ≡ b → part xs s (e - s) ≡ part xs at size
    go true t =
        let h = ltb-true (length xs) at t in
        let z : e - s ≡ 0 = omega arith in
        ap (part xs s) z ∙ part_none xs s ∙ sym (part_past xs at size (omega arith))
    go false t =
        let h = ltb-false (length xs) at t in
        let a : s ≡ at = omega arith in
        let k : e - s ≡ min size (length xs - at) = omega arith in
        ap₂ (part xs) a k ∙ part_min xs at size

pub put_there : (xs : List ℕ) (at size s e : ℕ) (ys : List ℕ) → s ≡ min at (length xs) → e ≡ min at (length xs) + min size (length xs - at)
    → length ys ≤ size → put_mid s (e - s) xs (put (part xs s (e - s)) 0 ys) ≡ put xs at ys
put_there xs at size s e ys p q l = put_inside s (e - s) xs ys ∙ go (ltb (length xs) at) refl (ltb (length xs - at) size) refl
  where
    go : (b : Bool) → ltb (length xs) at ≡ b → (c : Bool) → ltb (length xs - at) size ≡ c → put xs s (take (e - s) ys) ≡ put xs at ys
    go true t c u =
        let h = ltb-true (length xs) at t in
        put_past xs s (take (e - s) ys) (omega arith) ∙ sym (put_past xs at ys (omega arith))
    go false t true u =
        let h = ltb-false (length xs) at t in
        let k = ltb-true (length xs - at) size u in
        let a : s ≡ at = omega arith in
        ap (λ (n : ℕ). put xs n (take (e - s) ys)) a ∙ sym (put_cut xs at ys (e - s) (omega arith))
    go false t false u =
        let h = ltb-false (length xs) at t in
        let k = ltb-false (length xs - at) size u in
        let a : s ≡ at = omega arith in
        ap (λ (n : ℕ). put xs n (take (e - s) ys)) a ∙ ap (put xs at) (take_all (e - s) ys (omega arith))

-- the blank stretches of a part
pub blanks_part : (w o n : ℕ) (xs : List ℕ) (at l : ℕ) → o + n * w ≤ l → blanks w o n (part xs at l) ≡ blanks w (at + o) n xs
unfolding blanks
blanks_part w o zero xs at l h = refl
blanks_part w o (suc n) xs at l h =
    let more : suc n * w ≡ w + n * w = omega arith in
    let further : at + (o + w) ≡ at + o + w = omega arith in
    rw (part_part xs at l o w (omega arith), blanks_part w (o + w) n xs at l (omega arith), further) refl

-- one byte more at the front
pub front_next : (xs ys : List ℕ) (i : ℕ) → i < length ys → set (put xs 0 (part ys 0 i)) i (get_or ys i 0) ≡ put xs 0 (part ys 0 (i + 1))
front_next xs ys i h =
    let z : 0 + i ≡ i = omega arith in
    ap (λ (n : ℕ). set (put xs 0 (part ys 0 i)) n (get_or ys n 0)) (sym z) ∙ copy_next xs 0 ys 0 i (omega arith)

-- as many bytes at the front as there are, or as there is room for
pub put_reached : (xs ys : List ℕ) (n : ℕ) → min (length xs) (length ys) ≤ n → put xs 0 (part ys 0 n) ≡ put xs 0 ys
unfolding part
put_reached xs ys n h = go (ltb n (length ys)) refl
  where
    go : (b : Bool) → ltb n (length ys) ≡ b → put xs 0 (take n ys) ≡ put xs 0 ys
    go true e =
        let l = ltb-true n (length ys) e in
        sym (put_cut xs 0 ys n (omega arith))
    go false e =
        let l = ltb-false n (length ys) e in
        ap (put xs 0) (take_all n ys (omega arith))

pub blank_there : (xs : List ℕ) (at size s e : ℕ) → s ≡ min at (length xs) → e ≡ min at (length xs) + min size (length xs - at)
    → put_mid s (e - s) xs (put (part xs s (e - s)) 0 (blank (length (part xs s (e - s))))) ≡ put xs at (blank size)
blank_there xs at size s e p q =
    let l : length (part xs s (e - s)) ≡ min size (length xs - at) = length_part xs s (e - s) (omega arith) ∙ omega arith in
    ap (λ (n : ℕ). put_mid s (e - s) xs (put (part xs s (e - s)) 0 (blank n))) l
    ∙ put_there xs at size s e (blank (min size (length xs - at))) p q (omega (arith, length_blank (min size (length xs - at))))
    ∙ blank_least xs at size

-- one byte more erased at the front
pub erased_next : (xs : List ℕ) (i : ℕ) → set (put xs 0 (blank i)) i 255 ≡ put xs 0 (blank (i + 1))
erased_next xs i =
    let z : 0 + i ≡ i = omega arith in
    ap (λ (n : ℕ). set (put xs 0 (blank i)) n 255) (sym z) ∙ erase_next xs 0 i

-- n bytes more at the front, which go to the place behind those that were stored
pub front_more : (xs ys now : List ℕ) (a w n : ℕ) → now ≡ put xs 0 (part ys 0 a) → w ≡ n
    → put_mid a w now (put (part now a w) 0 (part ys a w)) ≡ put xs 0 (part ys 0 (a + n))
front_more xs ys now a w n h e =
    let z : 0 + a ≡ a = omega arith in
    put_inside a w now (part ys a w) ∙ ap (put now a) (take_all w (part ys a w) (part_length ys a w))
    ∙ ap (λ (k : ℕ). put now a (part ys a k)) e ∙ ap (λ (r : List ℕ). put r a (part ys a n)) h
    ∙ ap (λ (m : ℕ). put (put xs 0 (part ys 0 a)) m (part ys m n)) (sym z) ∙ copy_more xs 0 ys 0 a n

-- those bytes were as before
pub behind_front : (xs ys now : List ℕ) (k v w : ℕ) → now ≡ put xs 0 (part ys 0 (k * w)) → v ≡ w
    → part (part now (k * w) v) 0 w ≡ part xs (0 + k * w) w
behind_front xs ys now k v w h e =
    let z : k * w + 0 ≡ 0 + k * w = omega arith in
    part_part now (k * w) v 0 w (omega arith) ∙ ap (λ (m : ℕ). part now m w) z ∙ ap (λ (r : List ℕ). part r (0 + k * w) w) h
    ∙ behind_copy xs 0 ys 0 k w

count_there : (xs : List ℕ) (at size : ℕ) → length (part xs at size) ≡ min size (length xs - at)
unfolding part
count_there xs at size = simp (length-take, length-drop) refl

-- the whole blank stretches of what is there on both sides
pub blanks_there : (w : ℕ) (src : List ℕ) (from : ℕ) (dst : List ℕ) (at size : ℕ) (bytes area : List ℕ) → bytes ≡ part src from size
    → area ≡ part dst at (length bytes)
    → blanks w 0 (min (length bytes) (length area) / w) area ≡ blanks w at (min (min size (length src - from)) (length dst - at) / w) dst
blanks_there w src from dst at size bytes area p q =
    let n : ℕ = min (min size (length src - from)) (length dst - at) / w in
    let l : length bytes ≡ min size (length src - from) = ap length p ∙ count_there src from size in
    let k : length area ≡ min (length bytes) (length dst - at) = ap length q ∙ count_there dst at (length bytes) in
    let m : min (length bytes) (length area) ≡ min (min size (length src - from)) (length dst - at) = omega (arith, l, k) in
    let z : at + 0 ≡ at = omega arith in
    ap (λ (i : ℕ). blanks w 0 (i / w) area) m ∙ ap (blanks w 0 n) q
    ∙ blanks_part w 0 n dst at (length bytes) (omega (arith, l, div-mul-le_self (min (min size (length src - from)) (length dst - at)) w))
    ∙ ap (λ (a : ℕ). blanks w a n dst) z

-- the front of it that is blank on the one side is there on the other
pub few_there : (w : ℕ) (bytes area : List ℕ) (k : ℕ) → k ≡ blanks w 0 (min (length bytes) (length area) / w) area → k * w ≤ length bytes
few_there w bytes area k e =
    let n : ℕ = min (length bytes) (length area) / w in
    let l : k ≤ n = omega (arith, e, blanks_le w 0 n area) in
    omega (arith, mul-le-mul_right w l, div-mul-le_self (min (length bytes) (length area)) w)
