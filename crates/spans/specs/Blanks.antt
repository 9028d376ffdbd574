-- Stretches of one width, one after the other: how many are blank, up to the first that is not.
use Rattle.std.specs.Prelude.{◌≡◌, refl, List, ◌++◌, Bool, true, false, ℕ, zero, suc, ◌+◌, ◌*◌, ◌-◌, ◌≤◌, ◌<◌, length}
use Rattle.std.proofs.Common.{sym, ap, ap₂, ◌∙◌, zero-mul, arith, length-take}
use Rattle.std.proofs.lemmas.List.{replicate-append-replicate}
use Rattle.spans.specs.Bytes.{part, put, blank, same}
use Rattle.spans.specs.Choice.{pick}
use Rattle.spans.specs.Laws.{part_add, part_put_after, same_refl, same_eq, blank_within}

blank_add : (a b : ℕ) → blank a ++ blank b ≡ blank (a + b)
unfolding blank
blank_add a b = replicate-append-replicate a b 255

-- of n stretches of w bytes from at on
unfoldable pub blanks : ℕ → ℕ → ℕ → List ℕ → ℕ
blanks w at zero xs = 0
blanks w at (suc n) xs = pick (same (part xs at w) (blank w)) (suc (blanks w (at + w) n xs)) 0

pub blanks_yes : (w at n : ℕ) (xs : List ℕ) → same (part xs at w) (blank w) ≡ true → blanks w at (suc n) xs ≡ suc (blanks w (at + w) n xs)
unfolding blanks
blanks_yes w at n xs e = rw e

pub blanks_no : (w at n : ℕ) (xs : List ℕ) → same (part xs at w) (blank w) ≡ false → blanks w at (suc n) xs ≡ 0
unfolding blanks
blanks_no w at n xs e = rw e

pub blanks_le : (w at n : ℕ) (xs : List ℕ) → blanks w at n xs ≤ n
unfolding blanks
blanks_le w at zero xs = omega arith
blanks_le w at (suc n) xs = go (same (part xs at w) (blank w)) (blanks_le w (at + w) n xs)
  where
    go : (t : Bool) → blanks w (at + w) n xs ≤ n → pick t (suc (blanks w (at + w) n xs)) 0 ≤ suc n
    go true h = omega arith
    go false h = omega arith

-- a store before them changes nothing
pub blanks_after : (w at n : ℕ) (xs : List ℕ) (b : ℕ) (ys : List ℕ) → b + length ys ≤ at → blanks w at n (put xs b ys) ≡ blanks w at n xs
unfolding blanks
blanks_after w at zero xs b ys h = refl
blanks_after w at (suc n) xs b ys h = rw (part_put_after xs b ys at w h, blanks_after w (at + w) n xs b ys (omega arith))

-- those that are counted are blank
no_part : (w at : ℕ) (xs : List ℕ) → part xs at (0 * w) ≡ blank (0 * w)
unfolding part blank
no_part w at xs = rw (zero-mul w) refl

pub blanks_front : (w at n : ℕ) (xs : List ℕ) → part xs at (blanks w at n xs * w) ≡ blank (blanks w at n xs * w)
unfolding blanks
blanks_front w at zero xs = no_part w at xs
blanks_front w at (suc n) xs = go (same (part xs at w) (blank w)) refl (blanks_front w (at + w) n xs)
  where
    c : ℕ
    c = blanks w (at + w) n xs

    go : (t : Bool) → same (part xs at w) (blank w) ≡ t → part xs (at + w) (c * w) ≡ blank (c * w)
        → part xs at (pick t (suc c) 0 * w) ≡ blank (pick t (suc c) 0 * w)
    go false e later = no_part w at xs
    go true e later =
        let s : suc c * w ≡ w + c * w = omega arith in
        ap (part xs at) s ∙ sym (part_add xs at w (c * w)) ∙ ap₂ ◌++◌ (same_eq (part xs at w) (blank w) e) later
        ∙ blank_add w (c * w) ∙ ap blank (sym s)

-- where m of them are blank, the count goes on behind those
pub blanks_on : (w at m k : ℕ) (xs : List ℕ) → part xs at (m * w) ≡ blank (m * w) → blanks w at (m + k) xs ≡ m + blanks w (at + m * w) k xs
blanks_on w at zero k xs h =
    let n : zero + k ≡ k = omega arith in
    let a : at + zero * w ≡ at = omega arith in
    ap (λ (i : ℕ). blanks w at i xs) n ∙ ap (λ (b : ℕ). blanks w b k xs) (sym a) ∙ omega arith
blanks_on w at (suc m) k xs h =
    let n : suc m + k ≡ suc (m + k) = omega arith in
    let z : at ≡ at + 0 = omega arith in
    let here : part xs at w ≡ blank w = ap (λ (b : ℕ). part xs b w) z ∙ blank_within xs at (suc m * w) 0 w h (omega arith) in
    let later : part xs (at + w) (m * w) ≡ blank (m * w) = blank_within xs at (suc m * w) w (m * w) h (omega arith) in
    let a : at + w + m * w ≡ at + suc m * w = omega arith in
    let yes : same (part xs at w) (blank w) ≡ true = ap (λ (ys : List ℕ). same ys (blank w)) here ∙ same_refl (blank w) in
    ap (λ (i : ℕ). blanks w at i xs) n ∙ blanks_yes w at (m + k) xs yes ∙ ap suc (blanks_on w (at + w) m k xs later)
    ∙ ap (λ (b : ℕ). suc (m + blanks w b k xs)) a ∙ omega arith

-- the k passed are blank, and so is the next, or not
pub blanks_next : (w at n k : ℕ) (xs : List ℕ) → k < n → same (part xs (at + k * w) w) (blank w) ≡ true
    → k + blanks w (at + k * w) (n - k) xs ≡ k + 1 + blanks w (at + (k + 1) * w) (n - (k + 1)) xs
blanks_next w at n k xs h e =
    let d : n - k ≡ suc (n - (k + 1)) = omega arith in
    let a : at + k * w + w ≡ at + (k + 1) * w = omega arith in
    ap (λ (m : ℕ). k + blanks w (at + k * w) m xs) d ∙ ap (λ (m : ℕ). k + m) (blanks_yes w (at + k * w) (n - (k + 1)) xs e)
    ∙ ap (λ (b : ℕ). k + suc (blanks w b (n - (k + 1)) xs)) a ∙ omega arith

pub blanks_stop : (w at n k : ℕ) (xs : List ℕ) → k < n → same (part xs (at + k * w) w) (blank w) ≡ false
    → k + blanks w (at + k * w) (n - k) xs ≡ k
blanks_stop w at n k xs h e =
    let d : n - k ≡ suc (n - (k + 1)) = omega arith in
    ap (λ (m : ℕ). k + blanks w (at + k * w) m xs) d ∙ ap (λ (m : ℕ). k + m) (blanks_no w (at + k * w) (n - (k + 1)) xs e) ∙ omega arith

-- a part is no longer than asked for
pub part_length : (xs : List ℕ) (at n : ℕ) → length (part xs at n) ≤ n
unfolding part
part_length xs at n = simp length-take (omega arith)

-- the stretch behind k that were stored is as before
pub behind_copy : (xs : List ℕ) (at : ℕ) (src : List ℕ) (from k w : ℕ)
    → part (put xs at (part src from (k * w))) (at + k * w) w ≡ part xs (at + k * w) w
behind_copy xs at src from k w = part_put_after xs at (part src from (k * w)) (at + k * w) w (omega (arith, part_length src from (k * w)))
