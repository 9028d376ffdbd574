-- A run of unit writes under an allowance, all at once: as many units as are allowed and erased are written, and the rest not.
use Rattle.std.specs.Prelude.{◌≡◌, refl, List, Bool, true, false, ℕ, zero, suc, ◌+◌, ◌*◌, ◌-◌, ◌≤◌, ◌<◌, min, length, take, drop, ltb}
use Rattle.std.proofs.Common.{sym, ap, ap₂, ◌∙◌, zero-mul, mul-le-mul_right, arith, length-take, take-take}
use Rattle.std.proofs.Math.Nat.{suc-min-suc}
use Rattle.std.proofs.Math.Dec.{leb-zero, leb-suc-zero, leb-suc-suc, eqb-suc-zero}
use Rattle.spans.specs.Bytes.{part, put, blank, same}
use Rattle.spans.specs.Choice.{pick}
use Rattle.spans.specs.Laws.{put_nil, same_eq}
use Rattle.spans.specs.CutOff.{put_take_join}
use Rattle.spans.specs.Blanks.{blanks, blanks_yes, blanks_no, blanks_le, blanks_after, blanks_on}
use Rattle.flash.specs.declared.Geometry.{Geometry}
use Rattle.flash.specs.declared.Unit.{Unit}
use Rattle.flash.specs.declared.Units.{Units}
use Rattle.flash.specs.declared.Run.{Run}
use Rattle.flash.specs.declared.End.{End}
use Rattle.flash.specs.declared.End.TheVariants.{Going, Stopped, Unerased}
use Rattle.flash.specs.Geometry.{unit_no, unit_count, place_of, bytes_in, further, next_unit}
use Rattle.flash.specs.Operations.{Local, local, going, onward, attempt, erased, write_in, write_all_in}

-- ---- what is done after the end is nothing

unfoldable pub Halted : End → Type 0
Halted e = (l l' : Local) → onward e l l' ≡ l

pub halted_writes : (g : Geometry) (k : ℕ) (u : Unit) (bs xs : List ℕ) (b : ℕ) (e : End) → Halted e
    → write_all_in g u k bs (local xs (record { left = b; end = e })) ≡ local xs (record { left = b; end = e })
unfolding Halted write_all_in write_in attempt
halted_writes g zero u bs xs b e h = refl
halted_writes g (suc k) u bs xs b e h = rw (h (local xs (record { left = b; end = e })))
    (halted_writes g k (next_unit u) (drop g.unit bs) xs b e h)

-- ---- the units that are erased, of n from u on, up to the first that is not

unfoldable pub blank_run : Geometry → Unit → ℕ → List ℕ → ℕ
blank_run g u n xs = blanks g.unit (place_of g u).0 n xs

run_yes : (g : Geometry) (n : ℕ) (u : Unit) (xs : List ℕ) → erased g u xs ≡ true → blank_run g u (suc n) xs
    ≡ suc (blank_run g (next_unit u) n xs)
unfolding blank_run erased
run_yes g n u xs e =
    let at : u.0 * g.unit + g.unit ≡ (u.0 + 1) * g.unit = omega arith in
    blanks_yes g.unit (u.0 * g.unit) n xs e ∙ ap (λ (b : ℕ). suc (blanks g.unit b n xs)) at

run_no : (g : Geometry) (n : ℕ) (u : Unit) (xs : List ℕ) → erased g u xs ≡ false → blank_run g u (suc n) xs ≡ 0
unfolding blank_run erased
run_no g n u xs e = blanks_no g.unit (u.0 * g.unit) n xs e

-- a store before them changes nothing
blank_run_after : (g : Geometry) (n : ℕ) (u : Unit) (xs : List ℕ) (at : ℕ) (ys : List ℕ) → at + length ys ≤ u.0 * g.unit
    → blank_run g u n (put xs at ys) ≡ blank_run g u n xs
unfolding blank_run
blank_run_after g n u xs at ys h = blanks_after g.unit (u.0 * g.unit) n xs at ys h

-- all of them
pub blank_run_all : (g : Geometry) (n : Units) (u : Unit) (xs : List ℕ) → part xs (place_of g u).0 (bytes_in g n).0
    ≡ blank (bytes_in g n).0 → blank_run g u n.0 xs ≡ n.0
unfolding blank_run blanks
blank_run_all g n u xs h =
    let z : n.0 ≡ n.0 + 0 = omega arith in
    ap (λ (m : ℕ). blanks g.unit (place_of g u).0 m xs) z ∙ blanks_on g.unit (place_of g u).0 n.0 0 xs h ∙ omega arith

pub blank_run_same : (g : Geometry) (n : Units) (u : Unit) (xs : List ℕ)
    → same (part xs (place_of g u).0 (bytes_in g n).0) (blank (bytes_in g n).0) ≡ true → blank_run g u n.0 xs ≡ n.0
blank_run_same g n u xs h = blank_run_all g n u xs (same_eq _ _ h)

-- none
pub blank_run_none : (g : Geometry) (u : Unit) (xs : List ℕ) → blank_run g u 0 xs ≡ 0
unfolding blank_run blanks
blank_run_none g u xs = refl

-- ---- the closed form

-- c units written, of n that the allowance b reaches, of k
abbrev pub wrote : Geometry → Unit → ℕ → List ℕ → List ℕ → ℕ → ℕ → ℕ → Local
wrote g u k bs xs b n c =
    local (put xs (place_of g u).0 (take (c * g.unit) bs)) (record {
      left = b - c;
      end = pick (ltb c n) Unerased (pick
          (ltb b k) Stopped Going);
    })

ltb_suc : (m n : ℕ) → ltb (suc m) (suc n) ≡ ltb m n
ltb_suc m n = leb-suc-suc (suc m) n

ltb_zero_suc : (n : ℕ) → ltb 0 (suc n) ≡ true
ltb_zero_suc n = leb-suc-suc 0 n ∙ leb-zero n

wrote_none : (g : Geometry) (u : Unit) (k : ℕ) (bs xs : List ℕ) (b n : ℕ)
    → wrote g u k bs xs b n 0 ≡ local xs (record { left = b; end = pick (ltb 0 n) Unerased (pick (ltb b k) Stopped Going) })
wrote_none g u k bs xs b n =
    let z : 0 * g.unit ≡ 0 = zero-mul g.unit in
    let l : b - 0 ≡ b = omega arith in
    ap₂ (λ (ys : List ℕ) (r : ℕ). local ys (record { left = r; end = pick (ltb 0 n) Unerased (pick (ltb b k) Stopped Going) }))
    (ap (λ (i : ℕ). put xs (place_of g u).0 (take i bs)) z ∙ put_nil xs (place_of g u).0) l

-- one unit: nothing left of the allowance, the unit not erased, and done
write_late : (g : Geometry) (u : Unit) (ys xs : List ℕ) → write_in g u ys (local xs (going 0))
    ≡ local xs (record { left = 0; end = Stopped })
unfolding write_in attempt
write_late g u ys xs = refl

write_refused : (g : Geometry) (u : Unit) (ys xs : List ℕ) (b : ℕ) → erased g u xs ≡ false
    → write_in g u ys (local xs (going (suc b))) ≡ local xs (record { left = suc b; end = Unerased })
unfolding write_in attempt
write_refused g u ys xs b e = rw (eqb-suc-zero b, e)

write_done : (g : Geometry) (u : Unit) (ys xs : List ℕ) (b : ℕ) → erased g u xs ≡ true
    → write_in g u ys (local xs (going (suc b))) ≡ local (put xs (place_of g u).0 ys) (going b)
unfolding write_in attempt
write_done g u ys xs b e =
    let l : suc b - 1 ≡ b = omega arith in
    rw (eqb-suc-zero b, e) (ap (λ (n : ℕ). local (put xs (place_of g u).0 ys) (going n)) l)

pub stopped_halts : Halted Stopped
unfolding Halted
stopped_halts l l' = refl

pub unerased_halts : Halted Unerased
unfolding Halted
unerased_halts l l' = refl

pub halts : (e : End) → (e ≡ Going → ⊥) → Halted e
halts Going h = absurd (h refl)
halts Stopped h = stopped_halts
halts Unerased h = unerased_halts

-- after a run that has ended
pub halted_run : (g : Geometry) (k : ℕ) (u : Unit) (bs xs : List ℕ) (r : Run) (e : End) → Halted e → r.end ≡ e
    → write_all_in g u k bs (local xs r) ≡ local xs (record { left = r.left; end = e })
halted_run g k u bs xs r e h told =
    ap (λ (x : End). write_all_in g u k bs (local xs (record { left = r.left; end = x }))) told ∙ halted_writes g k u bs xs r.left e h

pub ended_run : (g : Geometry) (k : ℕ) (u : Unit) (bs xs : List ℕ) (r : Run) → (r.end ≡ Going → ⊥)
    → write_all_in g u k bs (local xs r) ≡ local xs r
ended_run g k u bs xs r h = halted_writes g k u bs xs r.left r.end (halts r.end h)

pub writes_at_once : (g : Geometry) (k : ℕ) (u : Unit) (bs xs : List ℕ) (b : ℕ)
    → write_all_in g u k bs (local xs (going b)) ≡ wrote g u k bs xs b (min b k) (blank_run g u (min b k) xs)
unfolding write_all_in blank_run blanks
writes_at_once g zero u bs xs b =
    let n : min b 0 ≡ 0 = omega arith in
    sym (ap (λ (n : ℕ). wrote g u 0 bs xs b n (blank_run g u n xs)) n ∙ wrote_none g u 0 bs xs b 0
    ∙ ap (λ (t : Bool). local xs (record { left = b; end = pick t Stopped Going })) (leb-suc-zero b))
writes_at_once g (suc k) u bs xs zero =
    let n : min 0 (suc k) ≡ 0 = omega arith in
    ap (write_all_in g (next_unit u) k (drop g.unit bs)) (write_late g u (take g.unit bs) xs)
    ∙ halted_writes g k (next_unit u) (drop g.unit bs) xs 0 Stopped stopped_halts
    ∙ sym (ap (λ (n : ℕ). wrote g u (suc k) bs xs 0 n (blank_run g u n xs)) n ∙ wrote_none g u (suc k) bs xs 0 0
    ∙ ap (λ (t : Bool). local xs (record { left = 0; end = pick t Stopped Going })) (ltb_zero_suc k))
writes_at_once g (suc k) u bs xs (suc b) = go (erased g u xs) refl
    (writes_at_once g k (next_unit u) (drop g.unit bs) (put xs (place_of g u).0 (take g.unit bs)) b)
  where
    w : ℕ
    w = g.unit

    xs₁ : List ℕ
    xs₁ = put xs (place_of g u).0 (take w bs)

    m : ℕ
    m = min b k

    go : (t : Bool) → erased g u xs ≡ t
        → write_all_in g (next_unit u) k (drop w bs) (local xs₁ (going b)) ≡ wrote g (next_unit u) k (drop w bs) xs₁ b m (blank_run g
        (next_unit u) m xs₁)
        → write_all_in g (next_unit u) k (drop w bs) (write_in g u (take w bs) (local xs (going (suc b))))
        ≡ wrote g u (suc k) bs xs (suc b) (min (suc b) (suc k)) (blank_run g u (min (suc b) (suc k)) xs)
    go false e ih =
        let r : blank_run g u (suc m) xs ≡ 0 = run_no g m u xs e in
        ap (write_all_in g (next_unit u) k (drop w bs)) (write_refused g u (take w bs) xs b e)
        ∙ halted_writes g k (next_unit u) (drop w bs) xs (suc b) Unerased unerased_halts
        ∙ sym (ap (λ (n : ℕ). wrote g u (suc k) bs xs (suc b) n (blank_run g u n xs)) (suc-min-suc b k)
        ∙ ap (wrote g u (suc k) bs xs (suc b) (suc m)) r ∙ wrote_none g u (suc k) bs xs (suc b) (suc m)
        ∙ ap (λ (t : Bool). local xs (record { left = suc b; end = pick t Unerased (pick (ltb (suc b) (suc k)) Stopped Going) }))
        (ltb_zero_suc m))
    go true e ih =
        let c : ℕ = blank_run g (next_unit u) m xs in
        let r : blank_run g u (suc m) xs ≡ suc c = run_yes g m u xs e in
        let lt : length (take w bs) ≤ w = simp length-take (omega arith) in
        let same_run : blank_run g (next_unit u) m xs₁ ≡ c = blank_run_after g m (next_unit u) xs (u.0 * w) (take w bs) (omega arith) in
        let at : (u.0 + 1) * w ≡ u.0 * w + w = omega arith in
        let cw : w + c * w ≡ suc c * w = omega arith in
        let left : b - c ≡ suc b - suc c = omega arith in
        let bytes : put xs₁ ((u.0 + 1) * w) (take (c * w) (drop w bs)) ≡ put xs (u.0 * w) (take (suc c * w) bs) =
        ap (λ (i : ℕ). put xs₁ i (take (c * w) (drop w bs))) at ∙ put_take_join xs (u.0 * w) w bs (c * w)
        ∙ ap (λ (i : ℕ). put xs (u.0 * w) (take i bs)) cw in
        ap (write_all_in g (next_unit u) k (drop w bs)) (write_done g u (take w bs) xs b e) ∙ ih
        ∙ ap (wrote g (next_unit u) k (drop w bs) xs₁ b m) same_run
        ∙ ap₂ (λ (ys : List ℕ) (l : ℕ). local ys (record {
          left = l;
          end = pick (ltb c m) Unerased (pick
              (ltb b k) Stopped Going);
        })) bytes left
        ∙ ap₂ (λ (p q : Bool). local (put xs (u.0 * w) (take (suc c * w) bs)) (record {
          left = suc b - suc c;
          end = pick p Unerased
              (pick q Stopped Going);
        }))
        (sym (ltb_suc c m)) (sym (ltb_suc b k))
        ∙ ap (wrote g u (suc k) bs xs (suc b) (suc m)) (sym r)
        ∙ sym (ap (λ (n : ℕ). wrote g u (suc k) bs xs (suc b) n (blank_run g u n xs)) (suc-min-suc b k))

-- ---- for the code

pub blank_run_le : (g : Geometry) (n : ℕ) (u : Unit) (xs : List ℕ) → blank_run g u n xs ≤ n
unfolding blank_run
blank_run_le g n u xs = blanks_le g.unit (u.0 * g.unit) n xs

-- the k units passed are erased, and so is the next, or not
pub blank_run_next : (g : Geometry) (u : Unit) (n k : ℕ) (xs : List ℕ) → k < n → erased g (further u (unit_count k)) xs ≡ true
    → k + blank_run g (further u (unit_count k)) (n - k) xs ≡ k + 1 + blank_run g (further u (unit_count (k + 1))) (n - (k + 1)) xs
blank_run_next g u n k xs h e =
    let d : n - k ≡ suc (n - (k + 1)) = omega arith in
    let a : u.0 + k + 1 ≡ u.0 + (k + 1) = omega arith in
    ap (λ (m : ℕ). k + blank_run g (further u (unit_count k)) m xs) d
    ∙ ap (λ (m : ℕ). k + m) (run_yes g (n - (k + 1)) (further u (unit_count k)) xs e)
    ∙ ap (λ (v : ℕ). k + suc (blank_run g (unit_no v) (n - (k + 1)) xs)) a ∙ omega arith

pub blank_run_stop : (g : Geometry) (u : Unit) (n k : ℕ) (xs : List ℕ) → k < n → erased g (further u (unit_count k)) xs ≡ false
    → k + blank_run g (further u (unit_count k)) (n - k) xs ≡ k
blank_run_stop g u n k xs h e =
    let d : n - k ≡ suc (n - (k + 1)) = omega arith in
    ap (λ (m : ℕ). k + blank_run g (further u (unit_count k)) m xs) d
    ∙ ap (λ (m : ℕ). k + m) (run_no g (n - (k + 1)) (further u (unit_count k)) xs e) ∙ omega arith

-- what the code has after its one copy is what the units come to
pub copied : (g : Geometry) (units : Units) (to : Unit) (src : List ℕ) (from : ℕ) (xs : List ℕ) (left : ℕ) (reached written : Units)
    (ys : List ℕ) (r : Run)
    → reached.0 ≡ min left units.0 → written.0 ≡ blank_run g to reached.0 xs
    → ys ≡ put xs (place_of g to).0 (part src from (bytes_in g written).0) → r.left ≡ left - written.0
    → r.end ≡ pick (ltb written.0 reached.0) Unerased (pick (ltb left units.0) Stopped Going)
    → local ys r ≡ write_all_in g to units.0 (part src from (bytes_in g units).0) (local xs (going left))
unfolding part
copied g units to src from xs left reached written ys r er ew ey el ee =
    let bs : List ℕ = part src from (bytes_in g units).0 in
    let few : (bytes_in g written).0 ≤ (bytes_in g units).0 = mul-le-mul_right g.unit (omega (arith, blank_run_le g reached.0 to xs)) in
    let cut : take (bytes_in g written).0 bs ≡ part src from (bytes_in g written).0 =
    take-take (bytes_in g written).0 (bytes_in g units).0 (drop from src) few in
    let same_run : local ys r ≡ local ys (record { left = r.left; end = r.end }) = refl in
    same_run ∙ rw (ey, el, ee, ← cut) (rw (ew, er) (sym (writes_at_once g units.0 to bs xs left)))
