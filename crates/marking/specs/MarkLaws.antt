-- Laws for the code of marking and confirming.
use Rattle.std.specs.Prelude.{◌≡◌, refl, Result, Ok, Err, ⊤, Bool, true, ℕ, ◌+◌, ◌-◌, ◌≤◌, length}
use Rattle.std.proofs.Common.{sym, ◌∙◌, arith, length-append}
use Rattle.std.proofs.Math.Path.{ap}
use mathlib.Core.List.{List, ◌++◌}
use Rattle.flash.specs.declared.Geometry.{Geometry}
use Rattle.flash.specs.declared.Run.{Run}
use Rattle.flash.specs.Build.{slot0, slot1, Flash, trailer_sector}
use Rattle.flash.specs.Base.{base, build}
use Rattle.flash.specs.Operations.{Op, State, local, going, back, start, steps}
use Rattle.flash.specs.OperationLaws.{steps_left}
use Rattle.plan.specs.Lists.{ok_ops, magic_ops}
use Rattle.plan.specs.Lengths.{one_if, length_ok, length_magic}
use Rattle.trailer.specs.Trailer.{magic_units}
use Rattle.plan.specs.declared.Course.{Course}
use Rattle.plan.specs.Asked.{flash_of}
use Rattle.moves.specs.Areas.{state}
use Rattle.writes.specs.InArea.{ok_in, magic_in, steps_ok, steps_marked}
use Rattle.answers.specs.declared.Refusal.{Refusal}
use Rattle.answers.specs.declared.Marked.{Marked}
use Rattle.marking.specs.Marking.{MarkResult, mark_result, refused_mark, ending_of, wrote_all, unless_under_way}
use Rattle.marking.specs.Standing.{standing_of, by_standing, standing_says}

pub length_marking : (g : Geometry) (p : Bool) → length (ok_ops (build g) slot1 p ++ magic_ops (build g) slot1) ≡ one_if p + (magic_units g).0
unfolding base
length_marking g p = simp (length-append, length_ok, length_magic)

pub wrote : (g : Geometry) (a : Marked) (ops : List Op) (f : Flash) (s : State) → s ≡ steps (build g) ops (start (length ops) f)
    → (a.ending ≡ ending_of s.run.end) × (a.count ≡ length ops - s.run.left) → mark_result a s.flash ≡ wrote_all g ops f
unfolding wrote_all
wrote g a ops f s e h =
    let same : mark_result a s.flash ≡ mark_result (record { ending = a.ending; count = a.count }) s.flash = refl in
    same ∙ rw (h.0, h.1, e) refl

-- what the writes of marking and of confirming leave, of the state that they begin in
module _ (g : Geometry) (x0 x1 x2 : List ℕ) (b : ℕ) where
  pub marked_state : (p : Bool) (x1' : List ℕ) (r : Run)
      → local x1' r ≡ magic_in g (trailer_sector (build g) slot1) (ok_in g (trailer_sector (build g) slot1) p (local x1 (going b)))
      → state x0 x1' x2 r ≡ steps (build g) (ok_ops (build g) slot1 p ++ magic_ops (build g) slot1) (start b (flash_of x0 x1 x2))
  marked_state p x1' r e = ap (back slot1 (state x0 x1 x2 (going b))) e ∙ sym (steps_marked g slot1 p (state x0 x1 x2 (going b)))

  pub confirmed_state : (x0' : List ℕ) (r : Run) → local x0' r ≡ ok_in g (trailer_sector (build g) slot0) true (local x0 (going b))
      → state x0' x1 x2 r ≡ steps (build g) (ok_ops (build g) slot0 true) (start b (flash_of x0 x1 x2))
  confirmed_state x0' r e = ap (back slot0 (state x0 x1 x2 (going b))) e ∙ sym (steps_ok g slot0 true (state x0 x1 x2 (going b)))

-- and so no more is left than there was
pub left_of : (g : Geometry) (ops : List Op) (s : State) (b : ℕ) (f : Flash) → s ≡ steps (build g) ops (start b f) → s.run.left ≤ b
left_of g ops s b f e = omega (arith, ap (λ (x : State). x.run.left) e, steps_left (build g) ops (start b f))

-- ---- by how things stand

module _ (c : Course) (f : Flash) (otherwise : MarkResult) where
  pub stands_free : standing_of c ≡ Ok tt → otherwise ≡ unless_under_way c f otherwise
  unfolding by_standing
  stands_free e = ap (λ (s : Result ⊤ Refusal). by_standing s f otherwise) (sym e) ∙ standing_says c f otherwise

  pub stands_refused : (r : Refusal) → standing_of c ≡ Err r → refused_mark r f ≡ unless_under_way c f otherwise
  unfolding by_standing
  stands_refused r e = ap (λ (s : Result ⊤ Refusal). by_standing s f otherwise) (sym e) ∙ standing_says c f otherwise
