-- Laws for the code of marking and confirming.
use Rattle.std.specs.Prelude.{◌≡◌, Err, Bool, true, false, ℕ, ◌-◌, length}
use Rattle.std.proofs.Common.{sym, ◌∙◌}
use Rattle.std.proofs.Math.Path.{ap}
use mathlib.Core.List.{List, [], ◌++◌}
use Rattle.spans.specs.Choice.{pick}
use Rattle.flash.specs.declared.Geometry.{Geometry}
use Rattle.flash.specs.declared.Run.{Run}
use Rattle.flash.specs.Build.{slot0, slot1, Flash, trailer_sector}
use Rattle.flash.specs.Base.{build}
use Rattle.flash.specs.Operations.{Op, local, going, start, steps}
use Rattle.plan.specs.Lists.{ok_ops, magic_ops}
use Rattle.trailer.specs.Trailer.{trailer}
use Rattle.plan.specs.Asked.{flash_of}
use Rattle.moves.specs.Areas.{state}
use Rattle.writes.specs.InArea.{ok_in, magic_in}
use Rattle.answers.specs.declared.Refusal.{Refusal}
use Rattle.answers.specs.declared.Marked.{Marked}
use Rattle.marking.specs.Marking.{mark_result, refused_mark, ending_of, wrote_all, unmarked, mark_unless_marked, confirmable, confirm_if_needed}
use Rattle.marking.specs.MarkResults.{refusing_mark}
use Rattle.marking.specs.MarkLaws.{wrote, marked_state, confirmed_state}

-- ---- where no exchange is under way

module _ (g : Geometry) (x0 x1 x2 : List ℕ) (a : Marked) where
  pub marks_written : (p : Bool) (all : ℕ) (x1' : List ℕ) (r : Run) → all ≡ length (ok_ops (build g) slot1 p ++ magic_ops (build g) slot1)
      → unmarked g (flash_of [] x1 []) ≡ true
      → local x1' r ≡ magic_in g (trailer_sector (build g) slot1) (ok_in g (trailer_sector (build g) slot1) p (local x1 (going all)))
      → (a.ending ≡ ending_of r.end) × (a.count ≡ all - r.left) → mark_result a (flash_of x0 x1' x2) ≡ mark_unless_marked p g
      (flash_of x0 x1 x2)
  unfolding mark_unless_marked unmarked trailer
  marks_written p all x1' r n u e h =
      let ops : List Op = ok_ops (build g) slot1 p ++ magic_ops (build g) slot1 in
      let f : Flash = flash_of x0 x1 x2 in
      wrote g a ops f (state x0 x1' x2 r) (marked_state g x0 x1 x2 all p x1' r e ∙ ap (λ (b : ℕ). steps (build g) ops (start b f)) n)
      (h.0, h.1 ∙ ap (λ (b : ℕ). b - r.left) n)
      ∙ ap (λ (b : Bool). pick b (wrote_all g ops f) (refused_mark Refusal.Marks f)) (sym u)

  pub marks_refused : (p : Bool) → unmarked g (flash_of [] x1 []) ≡ false → (a.ending ≡ Err Refusal.Marks) × (a.count ≡ 0)
      → mark_result a (flash_of x0 x1 x2) ≡ mark_unless_marked p g (flash_of x0 x1 x2)
  unfolding mark_unless_marked unmarked trailer
  marks_refused p u h =
      let f : Flash = flash_of x0 x1 x2 in
      refusing_mark a Refusal.Marks f h
      ∙ ap (λ (b : Bool). pick b (wrote_all g (ok_ops (build g) slot1 p ++ magic_ops (build g) slot1) f) (refused_mark Refusal.Marks f)) (sym u)

  pub confirm_written : (x0' : List ℕ) (r : Run) → confirmable g (flash_of x0 [] []) ≡ true
      → local x0' r ≡ ok_in g (trailer_sector (build g) slot0) true (local x0 (going 1))
      → (a.ending ≡ ending_of r.end) × (a.count ≡ 1 - r.left) → mark_result a (flash_of x0' x1 x2) ≡ confirm_if_needed g (flash_of x0 x1 x2)
  unfolding confirm_if_needed confirmable trailer ok_ops
  confirm_written x0' r u e h =
      let f : Flash = flash_of x0 x1 x2 in
      wrote g a (ok_ops (build g) slot0 true) f (state x0' x1 x2 r) (confirmed_state g x0 x1 x2 1 x0' r e) h
      ∙ ap (λ (b : Bool). pick b (wrote_all g (ok_ops (build g) slot0 true) f) (refused_mark Refusal.Needs f)) (sym u)

  pub confirm_refused : confirmable g (flash_of x0 [] []) ≡ false → (a.ending ≡ Err Refusal.Needs) × (a.count ≡ 0)
      → mark_result a (flash_of x0 x1 x2) ≡ confirm_if_needed g (flash_of x0 x1 x2)
  unfolding confirm_if_needed confirmable trailer
  confirm_refused u h =
      let f : Flash = flash_of x0 x1 x2 in
      refusing_mark a Refusal.Needs f h
      ∙ ap (λ (b : Bool). pick b (wrote_all g (ok_ops (build g) slot0 true) f) (refused_mark Refusal.Needs f)) (sym u)
