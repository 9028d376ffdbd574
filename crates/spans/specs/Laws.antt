-- Laws of part, put, blank and same.
use Rattle.std.specs.Prelude.{◌≡◌, refl, List, [], ◌∷◌, ◌++◌, Bool, true, false, ◌&&◌, ℕ, zero, suc, ◌+◌, ◌*◌, ◌-◌, ◌≤◌, ◌<◌, length, take, drop, set, get_or, eqb}
use Rattle.std.proofs.Common.{sym, ap, ap₂, ◌∙◌, zero-add, suc-add, add-zero, zero-mul, add-one, arith, length-take, length-drop, get_or-drop, take-suc, take-take, take-add, drop-drop, eqb-true, eq-eqb}
use Rattle.std.proofs.lemmas.List.{length-replicate}
use Rattle.spans.specs.Bytes.{part, put, blank, same}

-- what it says in other words
pub put_is : (xs : List ℕ) (at : ℕ) (ys : List ℕ) → at + length ys ≤ length xs → put xs at ys ≡ take at xs ++ ys ++ drop (at + length ys) xs
unfolding put
put_is [] zero [] h = refl
put_is [] zero (y ∷ ys) h = absurd (omega arith)
put_is [] (suc at) ys h = absurd (omega arith)
put_is (x ∷ xs) zero [] h = refl
put_is (x ∷ xs) zero (y ∷ ys) h = rw (zero-add (suc (length ys)))
    (ap {B = List ℕ} (λ r. y ∷ r) (put_is xs zero ys (omega arith) ∙ ap (λ (n : ℕ). ys ++ drop n xs) (zero-add (length ys))))
put_is (x ∷ xs) (suc at) ys h = rw suc-add (ap {B = List ℕ} (λ r. x ∷ r) (put_is xs at ys (omega arith)))

-- a store of one byte
pub set_put : (xs : List ℕ) (i v : ℕ) → set xs i v ≡ put xs i (v ∷ [])
unfolding put
set_put [] i v = refl
set_put (x ∷ []) zero v = refl
set_put (x ∷ y ∷ xs) zero v = refl
set_put (x ∷ xs) (suc i) v = ap {B = List ℕ} (λ r. x ∷ r) (set_put xs i v)

pub length_blank : (n : ℕ) → length (blank n) ≡ n
unfolding blank
length_blank n = length-replicate n 255

pub length_put : (xs : List ℕ) (at : ℕ) (ys : List ℕ) → length (put xs at ys) ≡ length xs
unfolding put
length_put [] at ys = refl
length_put (x ∷ xs) zero [] = refl
length_put (x ∷ xs) zero (y ∷ ys) = ap suc (length_put xs zero ys)
length_put (x ∷ xs) (suc at) ys = ap suc (length_put xs at ys)

pub put_nil : (xs : List ℕ) (at : ℕ) → put xs at [] ≡ xs
unfolding put
put_nil [] at = refl
put_nil (x ∷ xs) zero = refl
put_nil (x ∷ xs) (suc at) = ap {B = List ℕ} (λ r. x ∷ r) (put_nil xs at)

-- a put inside a place that is put whole afterwards leaves no trace
put_over₀ : (xs : List ℕ) (o : ℕ) (ys zs : List ℕ) → o + length ys ≤ length zs → put (put xs o ys) zero zs ≡ put xs zero zs
unfolding put
put_over₀ [] o ys zs h = refl
put_over₀ (x ∷ xs) zero [] zs h = refl
put_over₀ (x ∷ xs) zero (y ∷ ys) [] h = absurd (omega arith)
put_over₀ (x ∷ xs) zero (y ∷ ys) (z ∷ zs) h = ap {B = List ℕ} (λ r. z ∷ r) (put_over₀ xs zero ys zs (omega arith))
put_over₀ (x ∷ xs) (suc o) ys [] h = absurd (omega arith)
put_over₀ (x ∷ xs) (suc o) ys (z ∷ zs) h = ap {B = List ℕ} (λ r. z ∷ r) (put_over₀ xs o ys zs (omega arith))

pub put_over : (xs : List ℕ) (at o : ℕ) (ys zs : List ℕ) → o + length ys ≤ length zs → put (put xs (at + o) ys) at zs ≡ put xs at zs
unfolding put
put_over xs zero o ys zs h = rw zero-add (put_over₀ xs o ys zs h)
put_over [] (suc at) o ys zs h = refl
put_over (x ∷ xs) (suc at) o ys zs h = rw suc-add (ap {B = List ℕ} (λ r. x ∷ r) (put_over xs at o ys zs h))

pub drop_put : (xs : List ℕ) (at o : ℕ) (ys : List ℕ) → drop at (put xs (at + o) ys) ≡ put (drop at xs) o ys
unfolding put
drop_put xs zero o ys = rw zero-add refl
drop_put [] (suc at) o ys = refl
drop_put (x ∷ xs) (suc at) o ys = rw suc-add (drop_put xs at o ys)

pub drop_put_after : (xs : List ℕ) (k at : ℕ) (ys : List ℕ) → at + length ys ≤ k → drop k (put xs at ys) ≡ drop k xs
unfolding put
drop_put_after [] k at ys h = refl
drop_put_after (x ∷ xs) k zero [] h = refl
drop_put_after (x ∷ xs) zero zero (y ∷ ys) h = absurd (omega arith)
drop_put_after (x ∷ xs) (suc k) zero (y ∷ ys) h = drop_put_after xs k zero ys (omega arith)
drop_put_after (x ∷ xs) zero (suc at) ys h = absurd (omega arith)
drop_put_after (x ∷ xs) (suc k) (suc at) ys h = drop_put_after xs k at ys (omega arith)

pub take_put_before : (xs : List ℕ) (k at : ℕ) (ys : List ℕ) → k ≤ at → take k (put xs at ys) ≡ take k xs
unfolding put
take_put_before xs zero at ys h = refl
take_put_before [] (suc k) at ys h = refl
take_put_before (x ∷ xs) (suc k) zero ys h = absurd (omega arith)
take_put_before (x ∷ xs) (suc k) (suc at) ys h = ap {B = List ℕ} (λ r. x ∷ r) (take_put_before xs k at ys (omega arith))

take_put₀ : (xs : List ℕ) (ys : List ℕ) → length ys ≤ length xs → take (length ys) (put xs zero ys) ≡ ys
unfolding put
take_put₀ xs [] h = refl
take_put₀ [] (y ∷ ys) h = absurd (omega arith)
take_put₀ (x ∷ xs) (y ∷ ys) h = ap {B = List ℕ} (λ r. y ∷ r) (take_put₀ xs ys (omega arith))

-- two puts that join are one
put_join₀ : (xs ys zs : List ℕ) → put (put xs zero ys) (length ys) zs ≡ put xs zero (ys ++ zs)
unfolding put
put_join₀ [] ys zs = refl
put_join₀ (x ∷ xs) [] zs = refl
put_join₀ (x ∷ xs) (y ∷ ys) zs = ap {B = List ℕ} (λ r. y ∷ r) (put_join₀ xs ys zs)

pub put_join : (xs : List ℕ) (at : ℕ) (ys zs : List ℕ) → put (put xs at ys) (at + length ys) zs ≡ put xs at (ys ++ zs)
unfolding put
put_join xs zero ys zs = rw zero-add (put_join₀ xs ys zs)
put_join [] (suc at) ys zs = refl
put_join (x ∷ xs) (suc at) ys zs = rw suc-add (ap {B = List ℕ} (λ r. x ∷ r) (put_join xs at ys zs))

-- ---- the same for parts

pub length_part : (xs : List ℕ) (at len : ℕ) → at + len ≤ length xs → length (part xs at len) ≡ len
unfolding part
length_part xs at len h = simp (length-take, length-drop) (omega arith)

pub part_put_before : (xs : List ℕ) (at : ℕ) (ys : List ℕ) (b len : ℕ) → b + len ≤ at → part (put xs at ys) b len ≡ part xs b len
unfolding part
part_put_before xs at ys b len h =
    let e : at ≡ b + (at - b) = omega arith in
    let k : len ≤ at - b = omega arith in
    ap (λ (o : ℕ). take len (drop b (put xs o ys))) e ∙ ap (take len) (drop_put xs b (at - b) ys) ∙ take_put_before (drop b xs) len
    (at - b) ys k

pub part_put_after : (xs : List ℕ) (at : ℕ) (ys : List ℕ) (b len : ℕ) → at + length ys ≤ b → part (put xs at ys) b len ≡ part xs b len
unfolding part
part_put_after xs at ys b len h = ap (take len) (drop_put_after xs b at ys h)

pub part_put : (xs : List ℕ) (at : ℕ) (ys : List ℕ) (len : ℕ) → length ys ≡ len → at + len ≤ length xs → part (put xs at ys) at len ≡ ys
unfolding part
part_put xs at ys len e h =
    let k : length ys ≤ length (drop at xs) = simp length-drop (omega arith) in
    ap (λ (o : ℕ). take len (drop at (put xs o ys))) (sym (add-zero at)) ∙ ap (take len) (drop_put xs at zero ys)
    ∙ ap (λ (l : ℕ). take l (put (drop at xs) zero ys)) (sym e) ∙ take_put₀ (drop at xs) ys k

pub part_blank : (n at len : ℕ) → at + len ≤ n → part (blank n) at len ≡ blank len
unfolding part blank
part_blank n zero zero h = refl
part_blank zero zero (suc len) h = absurd (omega arith)
part_blank (suc n) zero (suc len) h = ap {B = List ℕ} (λ r. 255 ∷ r) (part_blank n zero len (omega arith))
part_blank zero (suc at) len h = absurd (omega arith)
part_blank (suc n) (suc at) len h = part_blank n at len (omega arith)

-- a put that begins where the list does, and is as long, is all there is
pub put_all : (xs ys : List ℕ) → length xs ≡ length ys → put xs zero ys ≡ ys
unfolding put
put_all [] [] h = refl
put_all [] (y ∷ ys) h = absurd (omega arith)
put_all (x ∷ xs) [] h = absurd (omega arith)
put_all (x ∷ xs) (y ∷ ys) h = ap {B = List ℕ} (λ r. y ∷ r) (put_all xs ys (omega arith))

-- ---- parts of parts

take_drop_take : (xs : List ℕ) (l o m : ℕ) → o + m ≤ l → take m (drop o (take l xs)) ≡ take m (drop o xs)
take_drop_take xs l zero m h = take-take m l xs (omega arith)
take_drop_take xs zero (suc o) m h = absurd (omega arith)
take_drop_take [] (suc l) (suc o) m h = refl
take_drop_take (x ∷ xs) (suc l) (suc o) m h = take_drop_take xs l o m (omega arith)

pub part_part : (xs : List ℕ) (a l o m : ℕ) → o + m ≤ l → part (part xs a l) o m ≡ part xs (a + o) m
unfolding part
part_part xs a l o m h = take_drop_take (drop a xs) l o m h ∙ ap (take m) (drop-drop o a xs)

pub part_add : (xs : List ℕ) (at l k : ℕ) → part xs at l ++ part xs (at + l) k ≡ part xs at (l + k)
unfolding part
part_add xs at l k = ap (λ (r : List ℕ). take l (drop at xs) ++ take k r) (sym (drop-drop l at xs)) ∙ sym (take-add l k (drop at xs))

-- a part of what is erased is erased
pub blank_within : (xs : List ℕ) (at len o l : ℕ) → part xs at len ≡ blank len → o + l ≤ len → part xs (at + o) l ≡ blank l
blank_within xs at len o l e h = sym (part_part xs at len o l h) ∙ ap (λ (y : List ℕ). part y o l) e ∙ part_blank len o l h

-- lists whose first k pieces of s bytes are alike
pub pieces : (s k : ℕ) (xs ys : List ℕ) → ((i : ℕ) → i < k → part xs (i * s) s ≡ part ys (i * s) s) → take (k * s) xs ≡ take (k * s) ys
unfolding part
pieces s zero xs ys h = rw (zero-mul s)
pieces s (suc k) xs ys h =
    let e : suc k * s ≡ k * s + s = omega arith in
    rw (e, take-add (k * s) s xs, take-add (k * s) s ys)
    (ap₂ (λ (a b : List ℕ). a ++ b) (pieces s k xs ys (λ i l. h i (omega arith))) (h k (omega arith)))

-- ---- same tells whether two lists are equal

pub same_refl : (xs : List ℕ) → same xs xs ≡ true
unfolding same
same_refl [] = refl
same_refl (x ∷ xs) = rw (eq-eqb x x refl, same_refl xs)

pub same_eq : (xs ys : List ℕ) → same xs ys ≡ true → xs ≡ ys
unfolding same
same_eq [] [] h = refl
same_eq [] (y ∷ ys) h = absurd (let z : ◌≡◌ {A = ℕ} 0 1 = cc in omega arith)
same_eq (x ∷ xs) [] h = absurd (let z : ◌≡◌ {A = ℕ} 0 1 = cc in omega arith)
same_eq (x ∷ xs) (y ∷ ys) h = go (same_eq xs ys) (eqb x y) refl h
  where
    go : (same xs ys ≡ true → xs ≡ ys) → (b : Bool) → eqb x y ≡ b → (b && same xs ys) ≡ true → x ∷ xs ≡ y ∷ ys
    go ih true e k = cc (eqb-true x y e, ih k)
    go ih false e k = absurd (let z : ◌≡◌ {A = ℕ} 0 1 = cc in omega arith)

-- ---- for loops that go byte by byte

pub put_next : (xs : List ℕ) (at : ℕ) (ys : List ℕ) (v i : ℕ) → i ≡ at + length ys → set (put xs at ys) i v ≡ put xs at (ys ++ (v ∷ []))
put_next xs at ys v i e = set_put (put xs at ys) i v ∙ ap (λ (n : ℕ). put (put xs at ys) n (v ∷ [])) e ∙ put_join xs at ys (v ∷ [])

pub blank_next : (n : ℕ) → blank n ++ (255 ∷ []) ≡ blank (suc n)
unfolding blank
blank_next zero = refl
blank_next (suc n) = ap {B = List ℕ} (λ r. 255 ∷ r) (blank_next n)

pub part_next : (xs : List ℕ) (at n : ℕ) → at + n < length xs → part xs at n ++ (get_or xs (at + n) 0 ∷ []) ≡ part xs at (suc n)
unfolding part
part_next xs at n h =
    let l : n < length (drop at xs) = simp length-drop (omega arith) in
    ap (λ (v : ℕ). take n (drop at xs) ++ (v ∷ [])) (sym (get_or-drop at xs n 0)) ∙ sym (take-suc (drop at xs) n 0 l)

-- one more byte erased, and one more byte copied, as a loop's code has it
pub erase_next : (xs : List ℕ) (at i : ℕ) → set (put xs at (blank i)) (at + i) 255 ≡ put xs at (blank (i + 1))
erase_next xs at i =
    let e : at + i ≡ at + length (blank i) = ap (λ (n : ℕ). at + n) (sym (length_blank i)) in
    put_next xs at (blank i) 255 (at + i) e ∙ ap (put xs at) (blank_next i ∙ ap blank (sym (add-one i)))

pub copy_next : (xs : List ℕ) (at : ℕ) (src : List ℕ) (from i : ℕ) → from + i < length src
    → set (put xs at (part src from i)) (at + i) (get_or src (from + i) 0) ≡ put xs at (part src from (i + 1))
copy_next xs at src from i h =
    let e : at + i ≡ at + length (part src from i) = ap (λ (n : ℕ). at + n) (sym (length_part src from i (omega arith))) in
    put_next xs at (part src from i) (get_or src (from + i) 0) (at + i) e ∙ ap (put xs at) (part_next src from i h ∙ ap
    (part src from) (sym (add-one i)))
