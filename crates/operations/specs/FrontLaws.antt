-- The units of an erased run in two parts: whole blocks of 512 bytes, each looked at and copied, and the units behind them.
use Rattle.std.specs.Prelude.{◌≡◌, List, length}
use Rattle.std.proofs.Common.{sym, ap, ap₂, ◌∙◌, mul_assoc, mul-div_cancel, le_of_mul-le-mul_right, arith}
use Prim.Native.Nat.{ℕ, ◌+◌, ◌*◌, ◌-◌, ◌/◌, ◌≤◌, min}
use Rattle.spans.specs.Bytes.{part, put, blank}
use Rattle.spans.specs.CutOff.{copy_more}
use Rattle.spans.specs.Blanks.{blanks, blanks_le, blanks_front, blanks_on, blanks_after, part_length}
use Rattle.flash.specs.declared.Geometry.{Geometry}
use Rattle.flash.specs.declared.Unit.{Unit}
use Rattle.flash.specs.declared.Units.{Units}
use Rattle.flash.specs.declared.Bytes.{Bytes}
use Rattle.flash.specs.declared.Offset.{Offset}
use Rattle.flash.specs.Small.{Small}
use Rattle.flash.specs.Geometry.{unit_count, byte_count, place_of, bytes_in, units_in, further}
use Rattle.operations.specs.UnitLaws.{blank_run}

-- the blocks, counted from a place and over a size that are the units'
pub counted_from : (g : Geometry) (to : Unit) (reached : Units) (src : List ℕ) (from : ℕ) (xs : List ℕ) (blocks : ℕ) (at : Offset)
    (size : Bytes) → at ≡ place_of g to → size ≡ bytes_in g reached
    → blocks ≡ blanks 512 at.0 (min (min size.0 (length src - from)) (length xs - at.0) / 512) xs
    → blocks * 512 ≡ blanks 512 (place_of g to).0 (min (min (bytes_in g reached).0 (length src - from)) (length xs - (place_of g to).0) /
    512) xs * 512
counted_from g to reached src from xs blocks at size ea es eb =
    ap (λ (n : ℕ). n * 512) (eb ∙ ap₂ (λ (o : Offset) (b : Bytes). blanks 512 o.0
    (min (min b.0 (length src - from)) (length xs - o.0) / 512) xs) ea es)

-- front: the bytes of the blocks that are erased, of those that the units reach
module _ (g : Geometry) (small : Small g) (to : Unit) (reached : Units) (src : List ℕ) (from : ℕ) (xs : List ℕ) (front : Bytes)
    (counted : front.0 ≡ blanks 512 (place_of g to).0 (min (min (bytes_in g reached).0 (length src - from))
    (length xs - (place_of g to).0) / 512) xs * 512) where
  abbrev reach : ℕ
  reach = min (min (bytes_in g reached).0 (length src - from)) (length xs - (place_of g to).0)

  -- they are whole units
  abbrev done : ℕ
  done = (units_in g front).0

  whole_units : done * g.unit ≡ front.0
  whole_units =
      let blocks : ℕ = blanks 512 (place_of g to).0 (reach / 512) xs in
      let e : front.0 ≡ blocks * (512 / g.unit) * g.unit =
      counted ∙ ap (λ (n : ℕ). blocks * n) (sym small.whole) ∙ sym (mul_assoc blocks (512 / g.unit) g.unit) in
      ap (λ (n : ℕ). n / g.unit * g.unit) e ∙ ap (λ (n : ℕ). n * g.unit) (mul-div_cancel (blocks * (512 / g.unit)) small.positive)
      ∙ sym e

  within : front.0 ≤ reach
  within = omega (arith, counted, blanks_le 512 (place_of g to).0 (reach / 512) xs)

  pub front_there : (front.0 ≤ length src - from) × (done ≤ reached.0)
  front_there =
      let units : done * g.unit ≤ reached.0 * g.unit = omega (arith, within, whole_units) in
      (omega (arith, within), le_of_mul-le-mul_right units small.positive)

  -- the units copied with the blocks, and more behind them, are the erased run
  pub both_parts : (more : ℕ) (ys zs : List ℕ) → ys ≡ put xs (place_of g to).0 (part src from front.0)
      → more ≡ blank_run g (further to (units_in g front)) (reached.0 - done) ys
      → zs ≡ put ys (place_of g (further to (units_in g front))).0 (part src (from + front.0) (bytes_in g (unit_count more)).0)
      → (done + more ≡ blank_run g to reached.0 xs) × (zs ≡ put xs (place_of g to).0 (part src from (bytes_in g (unit_count
      (done + more))).0))
  unfolding blank_run
  both_parts more ys zs ey em ez = (count, bytes)
    where
      w : ℕ
      w = g.unit

      clear : part xs (to.0 * w) (done * w) ≡ blank (done * w)
      clear =
          let e : done * w ≡ blanks 512 (to.0 * w) (reach / 512) xs * 512 = whole_units ∙ counted in
          ap (part xs (to.0 * w)) e ∙ blanks_front 512 (to.0 * w) (reach / 512) xs ∙ ap blank (sym e)

      place : (to.0 + done) * w ≡ to.0 * w + done * w
      place = omega arith

      later : blanks w ((to.0 + done) * w) (reached.0 - done) ys ≡ blanks w (to.0 * w + done * w) (reached.0 - done) xs
      later =
          ap (blanks w ((to.0 + done) * w) (reached.0 - done)) ey
          ∙ blanks_after w ((to.0 + done) * w) (reached.0 - done) xs (to.0 * w) (part src from front.0)
          (omega (arith, place, whole_units, part_length src from front.0))
          ∙ ap (λ (b : ℕ). blanks w b (reached.0 - done) xs) place

      count : done + more ≡ blanks w (to.0 * w) reached.0 xs
      count =
          let all : done + (reached.0 - done) ≡ reached.0 = omega (arith, front_there.1) in
          ap (λ (n : ℕ). done + n) (em ∙ later) ∙ sym (blanks_on w (to.0 * w) done (reached.0 - done) xs clear)
          ∙ ap (λ (n : ℕ). blanks w (to.0 * w) n xs) all

      bytes : zs ≡ put xs (to.0 * w) (part src from ((done + more) * w))
      bytes =
          let sum : front.0 + more * w ≡ (done + more) * w = omega (arith, whole_units) in
          let at : (to.0 + done) * w ≡ to.0 * w + front.0 = omega (arith, place, whole_units) in
          ez ∙ ap₂ (λ (l : List ℕ) (i : ℕ). put l i (part src (from + front.0) (more * w))) ey at
          ∙ copy_more xs (to.0 * w) src from front.0 (more * w) ∙ ap (λ (n : ℕ). put xs (to.0 * w) (part src from n)) sum

-- the blocks are the front, and what the bounds say of it
pub front_of : (g : Geometry) → Small g → (to : Unit) (reached : Units) (src : List ℕ) (from : ℕ) (xs : List ℕ) (blocks : ℕ) (at : Offset)
    (size : Bytes) → at ≡ place_of g to → size ≡ bytes_in g reached
    → blocks ≡ blanks 512 at.0 (min (min size.0 (length src - from)) (length xs - at.0) / 512) xs
    → (blocks * 512 ≡ blanks 512 (place_of g to).0 (min (min (bytes_in g reached).0 (length src - from)) (length xs - (place_of g to).0) /
    512) xs * 512)
    × ((blocks * 512 ≤ length src - from) × ((units_in g (byte_count (blocks * 512))).0 ≤ reached.0))
front_of g small to reached src from xs blocks at size ea es eb =
    let counted = counted_from g to reached src from xs blocks at size ea es eb in
    (counted, front_there g small to reached src from xs (byte_count (blocks * 512)) counted)
