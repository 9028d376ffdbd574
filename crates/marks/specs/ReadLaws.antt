-- A mark as code reads it: off the trailer sector, without cutting out its unit first.
use Rattle.std.specs.Prelude.{◌≡◌, List, [], ◌∷◌, ℕ, zero, suc, ◌+◌, ◌-◌, ◌<◌, take, drop, get_or}
use Rattle.std.proofs.Common.{sym, ap, ap₂, ◌∙◌, add-zero, arith, drop-drop, get_or-take, get_or-drop}
use Rattle.std.proofs.Math.Seq.{take-nil}
use Rattle.spans.specs.Bytes.{part, blank, same}
use Rattle.spans.specs.Choice.{pick}
use Rattle.flash.specs.declared.Offset.{Offset}
use Rattle.flash.specs.Build.{Build}
use Rattle.trailer.specs.declared.Mark.{Mark}
use Rattle.trailer.specs.Trailer.{mark_of}

rest : (w : ℕ) (xs : List ℕ) → 0 < w → drop 1 (take w xs) ≡ take (w - 1) (drop 1 xs)
rest zero xs h = absurd (omega arith)
rest (suc w) [] h = sym (take-nil (suc w - 1))
rest (suc w) (x ∷ xs) h = let e : w ≡ suc w - 1 = omega arith in ap (λ (n : ℕ). take n xs) e

pub part_rest : (xs : List ℕ) (at w : ℕ) → 0 < w → drop 1 (part xs at w) ≡ part xs (at + 1) (w - 1)
unfolding part
part_rest xs at w h = rest w (drop at xs) h ∙ ap (take (w - 1)) (drop-drop 1 at xs)

pub part_first : (xs : List ℕ) (at w : ℕ) → 0 < w → get_or (part xs at w) 0 0 ≡ get_or xs at 0
unfolding part
part_first xs at w h =
    get_or-take w (drop at xs) 0 0 h ∙ get_or-drop at xs 0 0 ∙ ap (λ (i : ℕ). get_or xs i 0) (add-zero at)

pub mark_reads : (g : Build) (t : List ℕ) (at : Offset) → 0 < g.unit
    → mark_of g t at ≡ pick (same (part t at.0 g.unit) (blank g.unit)) Mark.Unset
    (pick (same (part t (at.0 + 1) (g.unit - 1)) (blank (g.unit - 1))) (Mark.Value (get_or t at.0 0)) Mark.Bad)
unfolding mark_of
mark_reads g t at h =
    ap₂ (λ (u : List ℕ) (v : ℕ). pick (same (part t at.0 g.unit) (blank g.unit)) Mark.Unset
    (pick (same u (blank (g.unit - 1))) (Mark.Value v) Mark.Bad))
    (part_rest t at.0 g.unit h) (part_first t at.0 g.unit h)
