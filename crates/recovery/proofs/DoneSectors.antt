-- Document 01's build, continued under B: a data sector of a slot whose three moves have their marks is as it was.
use Rattle.std.specs.Prelude.{◌≡◌, refl, List, Bool, true, false, ◌&&◌, drop}
use Rattle.std.proofs.Common.{sym, ap, ◌∙◌, arith, drop-drop, ne_eqb}
use Prim.Native.Nat.{ℕ, zero, suc, ◌+◌, ◌*◌, ◌-◌, ◌≤◌, ◌<◌}
use Rattle.std.proofs.Math.Dec.{eqb}
use Rattle.flash.specs.declared.Sector.{Sector}
use Rattle.flash.specs.Geometry.{sector_no}
use Rattle.flash.specs.Build.{Area, slot0, slot1, scratch, Move, Flash, same_area}
use Rattle.flash.specs.Base.{three_moves, all_moves, base}
use Rattle.plan.specs.declared.Course.TheVariants.{Resume}
use Rattle.plan.specs.Decision.{decide, in_force}
use Rattle.recovery.specs.All.{All, none, one, all_drop}
use Rattle.recovery.specs.Statement.{sector_of, same_sector}
use Rattle.recovery.specs.Named.{During, Unnamed, targets, named}
use Rattle.recovery.proofs.ChangesTell.{as_before}
use Rattle.recovery.specs.BaseMoves.{base_sound}

-- moves to other sectors
abbrev Away : Area → Sector → Move → Type 0
Away b k m = same_sector m.to m.to_sector b k ≡ false

away_unnamed : (b : Area) (k : Sector) {ms : List Move} → All (Away b k) ms → Unnamed (targets ms) b k
unfolding targets
away_unnamed b k none = none
away_unnamed b k (one e es) = one e (away_unnamed b k es)

-- the moves of the sectors below i go to those, and to scratch
module _ (b : Area) (k : Sector) (slot : same_area scratch b ≡ false) where
  other : (a : Area) (i : ℕ) → i < k.0 → (same_area a b && eqb i k.0) ≡ false
  other a i h = go (same_area a b)
    where
      go : (x : Bool) → (x && eqb i k.0) ≡ false
      go true = ne_eqb i k.0 (λ q. omega arith)
      go false = refl

  moves_below : (i : ℕ) → i ≤ k.0 → All (Away b k) (all_moves i)
  unfolding all_moves three_moves
  moves_below zero h = none
  moves_below (suc i) h =
      one (ap (λ (x : Bool). x && eqb 0 k.0) slot) (one (other slot1 i (omega arith)) (one (other slot0 i (omega arith))
      (moves_below i (omega arith))))

-- after three marks for each of j sectors, the moves of the others are left
moves_left : (m j : ℕ) → drop (3 * j) (all_moves m) ≡ all_moves (m - j)
unfolding all_moves three_moves
moves_left m zero = let q : m - 0 ≡ m = omega arith in rw q refl
moves_left zero (suc j) =
    let e : 3 * suc j ≡ suc (suc (suc (3 * j))) = omega arith in
    let q : 0 - suc j ≡ 0 = omega arith in
    rw (e, q) refl
moves_left (suc m) (suc j) =
    let e : 3 * suc j ≡ suc (suc (suc (3 * j))) = omega arith in
    let q : suc m - suc j ≡ m - j = omega arith in
    rw (e, q) (moves_left m j)

-- c marks stand, three of them for each of j sectors from n − 2 down (and three for the trailers)
pub done_leaves : (check : List ℕ → Bool) (w s n : ℕ) → 2 ≤ n → {f f' : Flash}
    → During (base w s n) (in_force check (base w s n) f) f f' → (c : ℕ) → decide check (base w s n) f ≡ Resume c
    → (j : ℕ) → 3 + 3 * j ≤ c → (a : Area) → same_area scratch a ≡ false → (k : Sector) → k.0 < n - 1 → n - 1 ≤ k.0 + j
    → sector_of (base w s n) f' a k ≡ sector_of (base w s n) f a k
unfolding named base
done_leaves check w s n two d c e j h a slot k l r =
    as_before check (base w s n) (base_sound w s n (omega arith)) d (Resume c) e a k
    (one (trailer_else a) (away_unnamed a k (rw left (all_drop (c - 3 - 3 * j) (moves_below a k slot (n - 1 - j) (omega arith))))))
  where
    trailer_else : (a : Area) → same_sector slot0 (sector_no (n - 1)) a k ≡ false
    trailer_else slot0 = ne_eqb (n - 1) k.0 (λ q. omega arith)
    trailer_else slot1 = refl
    trailer_else scratch = refl

    left : drop (c - 3) (all_moves (n - 1)) ≡ drop (c - 3 - 3 * j) (all_moves (n - 1 - j))
    left =
        let q : c - 3 ≡ 3 * j + (c - 3 - 3 * j) = omega arith in
        ap (λ (x : ℕ). drop x (all_moves (n - 1))) q ∙ sym (drop-drop (c - 3 - 3 * j) (3 * j) (all_moves (n - 1)))
        ∙ ap (drop (c - 3 - 3 * j)) (moves_left (n - 1) j)
