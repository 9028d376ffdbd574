-- What runs of operations come to in the one area that they change.
use Rattle.std.specs.Prelude.{◌≡◌, refl, List, false, ℕ, zero, suc, ◌+◌, ◌*◌, ◌-◌, take, drop}
use Rattle.std.proofs.Common.{sym, ap, ap₂, ◌∙◌, arith, take-take, drop-drop}
use Rattle.std.proofs.lemmas.Bool.{false≢true}
use Rattle.spans.specs.Bytes.{part}
use Rattle.spans.specs.Runs.{drop_take}
use Rattle.flash.specs.declared.Geometry.{Geometry}
use Rattle.flash.specs.declared.Sector.{Sector}
use Rattle.flash.specs.declared.Unit.{Unit}
use Rattle.flash.specs.Geometry.{unit_count, place_of, bytes_in, first_unit, next_unit, units_per_sector}
use Rattle.flash.specs.Build.{Area, slot0, slot1, scratch, same_area, Move, Build, geometry, area}
use Rattle.flash.specs.Operations.{State, Local, in_area, back, erase_in, write_in, write_all_in, step, steps}
use Rattle.plan.specs.Lists.{writes, copies, move_ops}

-- ---- an area of a state, and the state with another in its place

pub back_own : (a : Area) (s : State) → back a s (in_area a s) ≡ s
back_own slot0 s = refl
back_own slot1 s = refl
back_own scratch s = refl

pub back_back : (a : Area) (s : State) (l l' : Local) → back a (back a s l) l' ≡ back a s l'
back_back slot0 s l l' = refl
back_back slot1 s l l' = refl
back_back scratch s l l' = refl

pub in_back : (a : Area) (s : State) (l : Local) → in_area a (back a s l) ≡ l
in_back slot0 s l = refl
in_back slot1 s l = refl
in_back scratch s l = refl

area_back : (a b : Area) (s : State) (l : Local) → same_area b a ≡ false → area a (back b s l).flash ≡ area a s.flash
area_back slot0 slot0 s l h = absurd (false≢true (sym h))
area_back slot0 slot1 s l h = refl
area_back slot0 scratch s l h = refl
area_back slot1 slot0 s l h = refl
area_back slot1 slot1 s l h = absurd (false≢true (sym h))
area_back slot1 scratch s l h = refl
area_back scratch slot0 s l h = refl
area_back scratch slot1 s l h = refl
area_back scratch scratch s l h = absurd (false≢true (sym h))

-- ---- units of a list of bytes

first_of : (xs : List ℕ) (at w k : ℕ) → take w (part xs at (suc k * w)) ≡ part xs at w
unfolding part
first_of xs at w k = take-take w (suc k * w) (drop at xs) (omega arith)

rest_of : (xs : List ℕ) (at w k : ℕ) → drop w (part xs at (suc k * w)) ≡ part xs (at + w) (k * w)
unfolding part
rest_of xs at w k =
    let e : suc k * w - w ≡ k * w = omega arith in
    drop_take w (suc k * w) (drop at xs) ∙ ap (λ (n : ℕ). take n (drop w (drop at xs))) e ∙ ap (take (k * w)) (drop-drop w at xs)

-- k units are written from no more bytes than theirs
pub own_bytes : (g : Geometry) (k : ℕ) (u : Unit) (bs : List ℕ) (l : Local) → write_all_in g u k (part bs 0 (bytes_in g (unit_count k)).0) l
    ≡ write_all_in g u k bs l
unfolding write_all_in part
own_bytes g zero u bs l = refl
own_bytes g (suc k) u bs l =
    ap₂ (λ (x y : List ℕ). write_all_in g (next_unit u) k x (write_in g u y l)) (rest_of bs 0 g.unit k ∙ move) (first_of bs 0 g.unit k)
    ∙ own_bytes g k (next_unit u) (drop g.unit bs) (write_in g u (take g.unit bs) l)
  where
    move : part bs (0 + g.unit) (k * g.unit) ≡ part (drop g.unit bs) 0 (k * g.unit)
    move = let e : 0 + g.unit ≡ g.unit = omega arith in ap (λ (n : ℕ). take (k * g.unit) (drop n bs)) e

-- ---- lists of operations

pub steps_writes : (g : Build) (a : Area) (k : ℕ) (u : Unit) (bs : List ℕ) (s : State)
    → steps g (writes g a u k bs) s ≡ back a s (write_all_in (geometry g) u k bs (in_area a s))
unfolding steps step writes write_all_in
steps_writes g a zero u bs s = sym (back_own a s)
steps_writes g a (suc k) u bs s =
    let l : Local = write_in (geometry g) u (take g.unit bs) (in_area a s) in
    steps_writes g a k (next_unit u) (drop g.unit bs) (back a s l)
    ∙ ap (λ (x : Local). back a (back a s l) (write_all_in (geometry g) (next_unit u) k (drop g.unit bs) x)) (in_back a s l)
    ∙ back_back a s l (write_all_in (geometry g) (next_unit u) k (drop g.unit bs) l)

pub steps_copies : (g : Build) (a b : Area) → same_area b a ≡ false → (k : ℕ) (v u : Unit) (s : State)
    → steps g (copies a v b u k) s
    ≡ back b s (write_all_in (geometry g) u k (part (area a s.flash) (place_of (geometry g) v).0 (bytes_in (geometry g) (unit_count k)).0)
    (in_area b s))
unfolding steps step copies write_all_in
steps_copies g a b h zero v u s = sym (back_own b s)
steps_copies g a b h (suc k) v u s =
    let w : ℕ = g.unit in
    let xs : List ℕ = area a s.flash in
    let at : ℕ = v.0 * w in
    let l : Local = write_in (geometry g) u (part xs at w) (in_area b s) in
    let e : (v.0 + 1) * w ≡ at + w = omega arith in
    let rest : part (area a (back b s l).flash) ((v.0 + 1) * w) (k * w) ≡ drop w (part xs at (suc k * w)) =
    ap₂ (λ (ys : List ℕ) (o : ℕ). part ys o (k * w)) (area_back a b s l h) e ∙ sym (rest_of xs at w k) in
    steps_copies g a b h k (next_unit v) (next_unit u) (back b s l)
    ∙ ap₂ (λ (ys : List ℕ) (x : Local). back b (back b s l) (write_all_in (geometry g) (next_unit u) k ys x)) rest (in_back b s l)
    ∙ back_back b s l (write_all_in (geometry g) (next_unit u) k (drop w (part xs at (suc k * w))) l)
    ∙ ap (λ (ys : List ℕ). back b s (write_all_in (geometry g) (next_unit u) k (drop w (part xs at (suc k * w))) (write_in
    (geometry g) u ys (in_area b s))))
    (sym (first_of xs at w k))

-- a move, from the bytes src of the area that it comes from
unfoldable pub move_in : Geometry → List ℕ → Sector → Sector → Local → Local
move_in g src from to l =
    write_all_in g (first_unit g to) (units_per_sector g).0 (part src (place_of g (first_unit g from)).0 (bytes_in g (units_per_sector g)).0)
    (erase_in g to l)

pub steps_move : (g : Build) (m : Move) → same_area m.to m.from ≡ false → (s : State)
    → steps g (move_ops g m) s
    ≡ back m.to s (move_in (geometry g) (area m.from s.flash) m.from_sector m.to_sector (in_area m.to s))
unfolding steps step move_ops move_in
steps_move g m h s =
    let l : Local = erase_in (geometry g) m.to_sector (in_area m.to s) in
    let n : ℕ = (units_per_sector (geometry g)).0 in
    let v : Unit = first_unit (geometry g) m.from_sector in
    let u : Unit = first_unit (geometry g) m.to_sector in
    steps_copies g m.from m.to h n v u (back m.to s l)
    ∙ ap₂ (λ (xs : List ℕ) (x : Local). back m.to (back m.to s l) (write_all_in (geometry g) u n (part xs (place_of
    (geometry g) v).0 (n * g.unit)) x))
    (area_back m.from m.to s l h) (in_back m.to s l)
    ∙ back_back m.to s l (write_all_in (geometry g) u n (part (area m.from s.flash) (place_of (geometry g) v).0 (n * g.unit)) l)
