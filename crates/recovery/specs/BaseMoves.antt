-- The base build is sound, its moves exchange the slots' data sectors, and how many operations that takes.
use Rattle.std.specs.Prelude.{◌≡◌, refl, Bool, true, false, ℕ, zero, suc, ◌+◌, ◌*◌, ◌-◌, ◌/◌, ◌≤◌, ◌<◌, length, ltb}
use Rattle.std.proofs.Common.{◌∙◌, mod-lt, arith, ltb-true, ltb-false, eq-eqb, ne_eqb}
use Rattle.std.proofs.Math.Nat.{div-eq_of_eq-mul_left}
use Rattle.flash.specs.declared.Sector.{Sector}
use Rattle.flash.specs.Geometry.{sector_no}
use Rattle.flash.specs.Build.{Area, slot0, slot1, Build, Flash, data_sectors}
use Rattle.flash.specs.Operations.{run_all}
use Rattle.flash.specs.Base.{three_moves, all_moves, base}
use Rattle.flash.specs.BaseLaws.{length_moves}
use Rattle.plan.specs.Lists.{exchange}
use Rattle.recovery.specs.All.{All, none, one, all_append}
use Rattle.recovery.specs.Places.{Geo, magic_units_lem}
use Rattle.plan.specs.Lengths.{one_if}
use Rattle.recovery.specs.Count.{length_exchange}
use Rattle.recovery.specs.Statement.{Sound, Proper, sector_of, Swapped}
use Rattle.recovery.specs.Validity.{Valid}
use Rattle.recovery.specs.Sectors.{Contents, moved1, moved}
use Rattle.recovery.specs.MoveRun.{sector_exchange}

-- ---- the moves are sound

proper_three : (w s n i : ℕ) → i < n - 1 → All (Proper (base w s n)) (three_moves i)
unfolding three_moves base
proper_three w s n i h =
    let z : 0 < 1 = omega arith in
    one (record { reads = h; writes = z; apart = refl })
    (one (record { reads = h; writes = h; apart = refl })
    (one (record { reads = z; writes = h; apart = refl }) none))

proper_all : (w s n k : ℕ) → k ≤ n - 1 → All (Proper (base w s n)) (all_moves k)
unfolding all_moves
proper_all w s n zero h = none
proper_all w s n (suc k) h = all_append (proper_three w s n k h) (proper_all w s n k (omega arith))

pub base_sound : (w s n : ℕ) → 1 ≤ n → Sound (base w s n)
unfolding base
base_sound w s n h = record {
  small = λ k. omega (arith, mod-lt k {m = 3} (omega arith));
  places = omega (arith, length_moves (n - 1));
  proper = proper_all w s n (n - 1) (omega arith);
}

-- "An exchange never cut takes 3m(s/w + 2) + 8 + 2p + 32/w operations"
pub length_base : (w s n : ℕ) (p : Bool) → Geo (base w s n)
    → length (exchange (base w s n) p) ≡ 3 * (n - 1) * (s / w + 2) + 8 + 2 * one_if p + 32 / w
unfolding base
length_base w s n p geo =
    let h : 16 / w * w ≡ 16 = magic_units_lem geo in
    let q : 32 / w ≡ 2 * (16 / w) = div-eq_of_eq-mul_left geo.positive (omega arith) in
    length_exchange (base w s n) p ∙ rw (length_moves (n - 1), q) refl

-- ---- what they do: the sectors change places

module _ (σ : Contents) where
  -- after the three moves of sector i
  unfoldable pub three : ℕ → Contents
  three i = moved (three_moves i) σ

  pub three_slot0 : (i : ℕ) → three i slot0 (sector_no i) ≡ σ slot1 (sector_no i)
  unfolding three three_moves moved moved1
  three_slot0 i = rw (eq-eqb i i refl)

  pub three_slot1 : (i : ℕ) → three i slot1 (sector_no i) ≡ σ slot0 (sector_no i)
  unfolding three three_moves moved moved1
  three_slot1 i = rw (eq-eqb i i refl)

  pub three_else : (i : ℕ) (j : Sector) → (i ≡ j.0 → ⊥) → (three i slot0 j ≡ σ slot0 j) × (three i slot1 j ≡ σ slot1 j)
  unfolding three three_moves moved moved1
  three_else i j h = rw (ne_eqb i j.0 h) (refl, refl)

all_above : (k : ℕ) (σ : Contents) (j : Sector) → k ≤ j.0
    → (moved (all_moves k) σ slot0 j ≡ σ slot0 j) × (moved (all_moves k) σ slot1 j ≡ σ slot1 j)
unfolding all_moves three_moves moved three
all_above zero σ j h = (refl, refl)
all_above (suc i) σ j h =
    let e = three_else σ i j (λ q. omega arith) in
    let r = all_above i (three σ i) j (omega arith) in
    (r.0 ∙ e.0, r.1 ∙ e.1)

pub all_below : (k : ℕ) (σ : Contents) (j : Sector) → j.0 < k
    → (moved (all_moves k) σ slot0 j ≡ σ slot1 j) × (moved (all_moves k) σ slot1 j ≡ σ slot0 j)
unfolding all_moves three_moves moved three
all_below zero σ j h = absurd (omega arith)
all_below (suc i) σ j h = go (all_below i (three σ i) j) (ltb j.0 i) refl
  where
    After : Contents
    After = moved (all_moves i) (three σ i)

    go : (j.0 < i → (After slot0 j ≡ three σ i slot1 j) × (After slot1 j ≡ three σ i slot0 j))
        → (b : Bool) → ltb j.0 i ≡ b → (After slot0 j ≡ σ slot1 j) × (After slot1 j ≡ σ slot0 j)
    go ih true e =
        let l : j.0 < i = ltb-true j.0 i e in
        let s = three_else σ i j (λ q. omega arith) in
        ((ih l).0 ∙ s.1, (ih l).1 ∙ s.0)
    go ih false e =
        let q : i ≡ j.0 = omega (arith, ltb-false j.0 i e) in
        let r = all_above i (three σ i) j (omega arith) in
        (r.0 ∙ (rw (← q) (three_slot0 σ i)), r.1 ∙ (rw (← q) (three_slot1 σ i)))

pub base_swaps : (w s n : ℕ) (f : Flash) (p : Bool) → Valid (base w s n) f
    → Swapped (base w s n) f (run_all (base w s n) (exchange (base w s n) p) f)
unfolding base
base_swaps w s n f p v = record {
  to_slot0 = λ i h. at slot0 i h ∙ (all_below (n - 1) (sector_of g f) i h).0;
  to_slot1 = λ i h. at slot1 i h ∙ (all_below (n - 1) (sector_of g f) i h).1;
}
  where
    g : Build
    g = base w s n

    sound : Sound g
    sound = base_sound w s n (omega (arith, v.geo.two))

    at : (b : Area) (k : Sector) → k.0 < data_sectors g b
        → sector_of g (run_all g (exchange g p) f) b k ≡ moved (all_moves (n - 1)) (sector_of g f) b k
    at = sector_exchange v.geo p f sound.proper (omega (arith, sound.places)) v.sized
