-- What a valid geometry gives.
use Rattle.std.specs.Prelude.{◌≡◌, refl, List, Bool, true, ◌||◌, ℕ, suc, ◌+◌, ◌*◌, ◌-◌, ◌%◌, ◌≤◌, ◌<◌, length, drop, eqb}
use Rattle.std.proofs.Common.{ap, ◌∙◌, mul-le-mul_right, arith, length-drop, eqb-true, leb-true}
use Rattle.std.specs.Int.{◌∣◌}
use Rattle.std.proofs.Math.Nat.{dvd_of_mod-eq-zero}
use Rattle.flash.specs.Geometry.{slot_bytes}
use Rattle.flash.specs.Build.{Area, slot0, slot1, scratch, Build, Flash, area, asked, fits, valid, geometry, scratch_bytes}
use Rattle.flash.specs.Units.{each_unit}
use Rattle.trailer.specs.Trailer.{trailer}
use Rattle.recovery.specs.All.{All, none, one, every_all}
use Rattle.recovery.specs.Places.{Geo, Sized}

units : (w : ℕ) → (eqb w 1 || eqb w 2 || eqb w 4 || eqb w 8) ≡ true → (0 < w) × (w ∣ 8)
units =
    each_unit (λ w. (0 < w) × (w ∣ 8)) (omega arith, dvd_of_mod-eq-zero 1 refl) (omega arith, dvd_of_mod-eq-zero 2 refl)
    (omega arith, dvd_of_mod-eq-zero 4 refl) (omega arith, dvd_of_mod-eq-zero 8 refl)

pub record Valid (g : Build) (f : Flash) : Type 0 where
  pub geo : Geo g
  pub large : 384 * g.unit + 32 ≤ g.sector
  pub sized : (a : Area) → Sized g a f

pub of_valid : (g : Build) (f : Flash) → valid g f ≡ true → Valid g f
unfolding valid fits asked trailer
of_valid g f h = go (every_all (asked g (length f.in0) (length f.in1) (length f.in2)) h)
  where
    last : (k : ℕ) (xs : List ℕ) → length xs ≡ suc k * g.sector → length (drop (k * g.sector) xs) ≡ g.sector
    last k xs e = simp length-drop (omega arith)

    go : All (λ (b : Bool). b ≡ true) (asked g (length f.in0) (length f.in1) (length f.in2)) → Valid g f
    go (one u (one m (one lo (one hi (one n₂ (one n₈ (one l₀ (one l₁ (one l₂ none))))))))) =
        let two : 2 ≤ g.sectors = leb-true 2 g.sectors n₂ in
        let many : g.sectors * g.unit ≤ 128 * g.unit = mul-le-mul_right g.unit (leb-true g.sectors 128 n₈) in
        let n : (slot_bytes (geometry g)).0 ≡ suc (g.sectors - 1) * g.sector =
        ap (λ (x : ℕ). x * g.sector) (let e : g.sectors ≡ suc (g.sectors - 1) = omega arith in e) in
        record {
          geo = record {
            positive = (units g.unit u).0;
            eight = (units g.unit u).1;
            whole = dvd_of_mod-eq-zero g.unit (eqb-true (g.sector % g.unit) 0 m);
            room = omega (arith, leb-true (384 * g.unit + 32) g.sector lo, many);
            two = two;
          };
          large = leb-true (384 * g.unit + 32) g.sector lo;
          sized = elim [
            | slot0 ↦ last (g.sectors - 1) f.in0 (eqb-true (length f.in0) (slot_bytes (geometry g)).0 l₀ ∙ n)
            | slot1 ↦ last (g.sectors - 1) f.in1 (eqb-true (length f.in1) (slot_bytes (geometry g)).0 l₁ ∙ n)
            | scratch ↦ last g.spare f.in2 (eqb-true (length f.in2) (scratch_bytes g).0 l₂)
          ];
        }

-- areas of the same lengths are as valid
pub valid_same : (g : Build) (f f' : Flash) → ((a : Area) → length (area a f') ≡ length (area a f)) → valid g f' ≡ valid g f
unfolding valid
valid_same g f f' e = rw (e slot0, e slot1, e scratch)
