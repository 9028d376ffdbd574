-- What the writes in a trailer sector, and the erases of several sectors, come to in their area; and the lists that they are.
use Rattle.std.specs.Prelude.{◌≡◌, List, [], ◌∷◌, ◌++◌, Bool, ℕ, zero, suc, ◌*◌, ◌-◌, ◌≤◌, ◌<◌, take}
use Rattle.std.proofs.Math.Path.{refl, sym}
use Rattle.std.proofs.Common.{ap, ◌∙◌, arith, take-take}
use Rattle.std.proofs.Math.Bool.{true, false}
use Rattle.spans.specs.Bytes.{part, blank}
use Rattle.spans.specs.Laws.{part_blank}
use Rattle.flash.specs.declared.Geometry.{Geometry}
use Rattle.flash.specs.declared.Sector.{Sector}
use Rattle.flash.specs.declared.Offset.{Offset}
use Rattle.flash.specs.declared.Unit.{Unit}
use Rattle.flash.specs.Geometry.{sector_no, unit_count, start_of, unit_at, bytes_in, after}
use Rattle.flash.specs.Build.{Area, slot0, scratch, trailer_sector}
use Rattle.flash.specs.Base.{base, build}
use Rattle.flash.specs.Operations.{Op, State, Local, in_area, back, erase_in, write_in, write_all_in, step, steps}
use Rattle.flash.specs.OperationLaws.{steps_append}
use Rattle.trailer.specs.Trailer.{magic_at, ok_at, mark_at, magic_bytes, magic_units, mark_bytes}
use Rattle.plan.specs.Lists.{progress, erase_trailer, magic_ops, ok_ops, lines_one_two, erases}
use Rattle.writes.specs.Steps.{back_own, back_back, in_back, steps_writes}

-- a mark of value v at an offset into the trailer sector i
unfoldable pub mark_in : Geometry → Sector → Offset → ℕ → Local → Local
mark_in g i at v l = write_in g (unit_at g (after (start_of g i) at)) (mark_bytes (build g) v) l

unfoldable pub ok_in : Geometry → Sector → Bool → Local → Local
ok_in g i true l = mark_in g i (ok_at (build g)) 1 l
ok_in g i false l = l

unfoldable pub magic_in : Geometry → Sector → Local → Local
magic_in g i l = write_all_in g (unit_at g (after (start_of g i) (magic_at (build g)))) (magic_units g).0 magic_bytes l

-- the marks of sector n − 1
unfoldable pub three_in : Geometry → Sector → Local → Local
three_in g i l = mark_in g i (mark_at (build g) 2) 3 (mark_in g i (mark_at (build g) 1) 2 (mark_in g i (mark_at (build g) 0) 1 l))

-- lines 1 and 2, and line 5
unfoldable pub lines_one_two_in : Geometry → Sector → Bool → Local → Local
lines_one_two_in g i p l = magic_in g i (ok_in g i p (erase_in g i l))

unfoldable pub line_five_in : Geometry → Sector → Bool → Local → Local
line_five_in g i p l = magic_in g i (three_in g i (ok_in g i p l))

-- k sectors from i on
unfoldable pub erases_in : Geometry → ℕ → ℕ → Local → Local
erases_in g i zero l = l
erases_in g i (suc k) l = erases_in g (suc i) k (erase_in g (sector_no i) l)

module _ (g : Geometry) (a : Area) where
  pub steps_ok : (p : Bool) (s : State) → steps (build g) (ok_ops (build g) a p) s ≡ back a s (ok_in g (trailer_sector (build g) a) p
      (in_area a s))
  unfolding ok_ops ok_in mark_in steps step base
  steps_ok true s = refl
  steps_ok false s = sym (back_own a s)

  steps_magic : (s : State) → steps (build g) (magic_ops (build g) a) s ≡ back a s (magic_in g (trailer_sector (build g) a) (in_area a s))
  unfolding magic_ops magic_in base
  steps_magic s = steps_writes (build g) a (magic_units g).0 (unit_at g (after (start_of g (trailer_sector (build g) a)) (magic_at
      (build g)))) magic_bytes s

  -- one list after another in the same area
  joined : (xs ys : List Op) (φ ψ : Local → Local) → ((s : State) → steps (build g) xs s ≡ back a s (φ (in_area a s)))
      → ((s : State) → steps (build g) ys s ≡ back a s (ψ (in_area a s))) → (s : State) → steps (build g) (xs ++ ys) s ≡ back a s (ψ
      (φ (in_area a s)))
  joined xs ys φ ψ p q s =
      let l : Local = φ (in_area a s) in
      steps_append (build g) xs ys s ∙ ap (steps (build g) ys) (p s) ∙ q (back a s l)
      ∙ ap (λ (x : Local). back a (back a s l) (ψ x)) (in_back a s l) ∙ back_back a s l (ψ l)

  steps_clear : (s : State) → steps (build g) (erase_trailer (build g) a ∷ []) s
      ≡ back a s (erase_in g (trailer_sector (build g) a) (in_area a s))
  unfolding steps step base
  steps_clear s = refl

pub steps_lines_one_two : (g : Geometry) (p : Bool) (s : State)
    → steps (build g) (lines_one_two (build g) p) s ≡ back scratch s (lines_one_two_in g (trailer_sector (build g) scratch) p (in_area scratch s))
unfolding lines_one_two lines_one_two_in
steps_lines_one_two g p s =
    joined g scratch (erase_trailer (build g) scratch ∷ []) (ok_ops (build g) scratch p ++ magic_ops (build g) scratch) (erase_in g i)
    (λ l. magic_in g i (ok_in g i p l)) (steps_clear g scratch)
    (joined g scratch (ok_ops (build g) scratch p) (magic_ops (build g) scratch) (ok_in g i p) (magic_in g i) (steps_ok g scratch p)
    (steps_magic g scratch)) s
  where
    i : Sector
    i = trailer_sector (build g) scratch

steps_three : (g : Geometry) (s : State) → steps (build g) (progress (build g) 0 ∷ progress (build g) 1 ∷ progress (build g) 2 ∷ []) s
    ≡ back slot0 s (three_in g (trailer_sector (build g) slot0) (in_area slot0 s))
unfolding steps step base three_in mark_in
steps_three g s = refl

pub steps_line_five : (g : Geometry) (p : Bool) (s : State)
    → steps (build g) (ok_ops (build g) slot0 p ++ (progress (build g) 0 ∷ progress (build g) 1 ∷ progress (build g) 2 ∷ magic_ops
    (build g) slot0)) s
    ≡ back slot0 s (line_five_in g (trailer_sector (build g) slot0) p (in_area slot0 s))
unfolding line_five_in
steps_line_five g p s =
    joined g slot0 (ok_ops (build g) slot0 p) (three ++ magic_ops (build g) slot0) (ok_in g i p) (λ l. magic_in g i (three_in g i l))
    (steps_ok g slot0 p)
    (joined g slot0 three (magic_ops (build g) slot0) (three_in g i) (magic_in g i) (steps_three g) (steps_magic g slot0)) s
  where
    i : Sector
    i = trailer_sector (build g) slot0

    three : List Op
    three = progress (build g) 0 ∷ progress (build g) 1 ∷ progress (build g) 2 ∷ []

pub steps_marked : (g : Geometry) (a : Area) (p : Bool) (s : State)
    → steps (build g) (ok_ops (build g) a p ++ magic_ops (build g) a) s
    ≡ back a s (magic_in g (trailer_sector (build g) a) (ok_in g (trailer_sector (build g) a) p (in_area a s)))
steps_marked g a p s =
    joined g a (ok_ops (build g) a p) (magic_ops (build g) a) (ok_in g (trailer_sector (build g) a) p) (magic_in g (trailer_sector (build g) a))
    (steps_ok g a p) (steps_magic g a) s

pub steps_erases : (g : Geometry) (a : Area) (i k : ℕ) (s : State) → steps (build g) (erases a i k) s
    ≡ back a s (erases_in g i k (in_area a s))
unfolding erases erases_in steps step base
steps_erases g a i zero s = sym (back_own a s)
steps_erases g a i (suc k) s =
    let l : Local = erase_in g (sector_no i) (in_area a s) in
    steps_erases g a (suc i) k (back a s l) ∙ ap (λ (x : Local). back a (back a s l) (erases_in g (suc i) k x)) (in_back a s l)
    ∙ back_back a s l (erases_in g (suc i) k l)

-- ---- for the code

-- a mark's bytes are the first of eight
pub mark_unit : (g : Geometry) (u : Unit) (v : ℕ) (l : Local) → 0 < g.unit → g.unit ≤ 8
    → write_all_in g u 1 (part (v ∷ 255 ∷ 255 ∷ 255 ∷ 255 ∷ 255 ∷ 255 ∷ 255 ∷ []) 0 (bytes_in g (unit_count 1)).0) l
    ≡ write_in g u (mark_bytes (build g) v) l
unfolding write_all_in part mark_bytes base blank
mark_unit g u v l lo hi = ap (λ (bs : List ℕ). write_in g u bs l) (twice ∙ first g.unit lo hi)
  where
    eight : List ℕ
    eight = v ∷ blank 7

    twice : take g.unit (take (1 * g.unit) eight) ≡ take g.unit eight
    twice = take-take g.unit (1 * g.unit) eight (omega arith)

    first : (w : ℕ) → 0 < w → w ≤ 8 → take w eight ≡ v ∷ blank (w - 1)
    first zero lo hi = absurd (omega arith)
    first (suc w) lo hi =
        let e : suc w - 1 ≡ w = omega arith in
        ap {B = List ℕ} (λ r. v ∷ r) (part_blank 7 0 w (omega arith) ∙ ap blank (sym e))
