-- The questions that `fits` asks of the base build, in the three parts in which code asks them, and the bounds that follow.
use Rattle.std.specs.Prelude.{◌≡◌, refl, List, [], ◌∷◌, Bool, true, false, ◌&&◌, ◌||◌, ℕ, ◌+◌, ◌*◌, ◌/◌, ◌%◌, ◌≤◌, ◌<◌, eqb, leb}
use Rattle.std.proofs.Common.{sym, ◌∙◌, arith, leb-true}
use Rattle.spans.specs.Choice.{every, both}
use Rattle.flash.specs.declared.Geometry.{Geometry}
use Rattle.flash.specs.Geometry.{slot_bytes}
use Rattle.flash.specs.Build.{scratch_bytes, asked, fits}
use Rattle.flash.specs.Base.{base, build}
use Rattle.flash.specs.Units.{each_unit}
use Rattle.flash.specs.Small.{Small}

unfoldable pub unit_asked : ℕ → Bool
unit_asked w = eqb w 1 || eqb w 2 || eqb w 4 || eqb w 8

unfoldable pub sizes_asked : Geometry → List Bool
sizes_asked g =
    eqb (g.sector % g.unit) 0 ∷ leb (384 * g.unit + 32) g.sector ∷ leb g.sector 65536 ∷ leb 2 g.sectors ∷ leb
    g.sectors 128 ∷ []

unfoldable pub lengths_asked : Geometry → ℕ → ℕ → ℕ → List Bool
lengths_asked g l0 l1 l2 = eqb l0 (slot_bytes g).0 ∷ eqb l1 (slot_bytes g).0 ∷ eqb l2 (scratch_bytes (build g)).0 ∷ []

and_assoc : (a b c : Bool) → ((a && b) && c) ≡ (a && (b && c))
and_assoc true b c = refl
and_assoc false b c = refl

pub in_parts : (g : Geometry) (l0 l1 l2 : ℕ)
    → fits (build g) l0 l1 l2 ≡ (unit_asked g.unit && (every (sizes_asked g) && every (lengths_asked g l0 l1 l2)))
unfolding fits asked base unit_asked sizes_asked lengths_asked every
in_parts g l0 l1 l2 = simp and_assoc

pub unit_bounds : (w : ℕ) → unit_asked w ≡ true → (0 < w) × (w ≤ 8)
unfolding unit_asked
unit_bounds =
    each_unit (λ w. (0 < w) × (w ≤ 8)) (omega arith, omega arith) (omega arith, omega arith) (omega arith, omega arith)
    (omega arith, omega arith)

unit_whole : (w : ℕ) → unit_asked w ≡ true → 512 / w * w ≡ 512
unfolding unit_asked
unit_whole = each_unit (λ w. 512 / w * w ≡ 512) refl refl refl refl

pub small : (g : Geometry) → unit_asked g.unit ≡ true → every (sizes_asked g) ≡ true → Small g
unfolding sizes_asked every
small g u h =
    let b₁ = both (eqb (g.sector % g.unit) 0) _ h in
    let b₂ = both (leb (384 * g.unit + 32) g.sector) _ b₁.1 in
    let b₃ = both (leb g.sector 65536) _ b₂.1 in
    let b₄ = both (leb 2 g.sectors) _ b₃.1 in
    let b₅ = both (leb g.sectors 128) true b₄.1 in
    record {
      positive = (unit_bounds g.unit u).0;
      eight = (unit_bounds g.unit u).1;
      whole = unit_whole g.unit u;
      room = leb-true (384 * g.unit + 32) g.sector b₂.0;
      large = leb-true g.sector 65536 b₃.0;
      two = leb-true 2 g.sectors b₄.0;
      many = leb-true g.sectors 128 b₅.0;
    }

pub small_fits : (g : Geometry) (l0 l1 l2 : ℕ) → fits (build g) l0 l1 l2 ≡ true → Small g
small_fits g l0 l1 l2 h =
    let k = both (unit_asked g.unit) _ (sym (in_parts g l0 l1 l2) ∙ h) in
    small g k.0 (both (every (sizes_asked g)) _ k.1).0
