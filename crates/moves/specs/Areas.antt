-- The lists of operations over the three areas, as code goes through them.
use Rattle.std.specs.Prelude.{◌≡◌, Bool, ℕ, suc, ◌+◌, ◌*◌, ◌-◌, ◌%◌, ◌≤◌, ◌<◌, drop}
use Rattle.std.proofs.Math.Path.{refl, sym, ap}
use Rattle.std.proofs.Common.{◌∙◌, add-one, arith, drop_of_length-le}
use mathlib.Core.List.{List, [], ◌∷◌, ◌++◌}
use Rattle.flash.specs.declared.Geometry.{Geometry}
use Rattle.flash.specs.declared.Sector.{Sector}
use Rattle.flash.specs.declared.Offset.{Offset}
use Rattle.flash.specs.declared.Run.{Run}
use Rattle.flash.specs.Geometry.{sector_no, last_sector}
use Rattle.flash.specs.Build.{slot0, slot1, scratch, Move, trailer_sector}
use Rattle.flash.specs.Base.{all_moves, base, build}
use Rattle.flash.specs.BaseLaws.{length_moves}
use Rattle.flash.specs.Operations.{Op, State, Local, local, back, erase_in, step, steps}
use Rattle.flash.specs.OperationLaws.{steps_append}
use Rattle.trailer.specs.Trailer.{copy_done_at}
use Rattle.plan.specs.Lists.{erase_trailer, mark, ok_ops, progress, magic_ops, lines_one_two, lines_three_to_six, move_ops, data_ops, erases, clear_out}
use Rattle.writes.specs.Steps.{move_in, steps_move}
use Rattle.writes.specs.InArea.{mark_in, ok_in, lines_one_two_in, line_five_in, erases_in, steps_ok, steps_lines_one_two, steps_line_five, steps_erases}
use Rattle.moves.specs.Moves.{marked_sector, move_of, next_move}

abbrev pub state : List ℕ → List ℕ → List ℕ → Run → State
state x0 x1 x2 r = record { flash = record { in0 = x0; in1 = x1; in2 = x2 }; run = r }

-- lines 3 to 6, line by line
module _ (g : Geometry) (p : Bool) (x0 x1 x2 : List ℕ) (r : Run) where
  pub lines_three_to_six_lem : (x1' : List ℕ) (r₁ : Run) → local x1' r₁ ≡ erase_in g (trailer_sector (build g) slot1) (local x1 r)
      → (y0 : List ℕ) (r₂ : Run) → local y0 r₂ ≡ erase_in g (trailer_sector (build g) slot0) (local x0 r₁)
      → (x0' : List ℕ) (r₃ : Run) → local x0' r₃ ≡ line_five_in g (trailer_sector (build g) slot0) p (local y0 r₂)
      → (x2' : List ℕ) (r₄ : Run) → local x2' r₄ ≡ erase_in g (trailer_sector (build g) scratch) (local x2 r₃)
      → state x0' x1' x2' r₄ ≡ steps (build g) (lines_three_to_six (build g) p) (state x0 x1 x2 r)
  unfolding lines_three_to_six steps step base
  lines_three_to_six_lem x1' r₁ e₁ y0 r₂ e₂ x0' r₃ e₃ x2' r₄ e₄ =
      ap (back scratch (state x0' x1' x2 r₃)) e₄
      ∙ ap (λ (l : Local). step (build g) (erase_trailer (build g) scratch) (back slot0 (state y0 x1' x2 r₂) l)) e₃
      ∙ ap (step (build g) (erase_trailer (build g) scratch)) (sym (steps_line_five g p (state y0 x1' x2 r₂)))
      ∙ sym (steps_append (build g) line5 (erase_trailer (build g) scratch ∷ []) (state y0 x1' x2 r₂))
      ∙ ap (λ (l : Local). steps (build g) (line5 ++ (erase_trailer (build g) scratch ∷ [])) (back slot0 (state x0 x1' x2 r₁) l)) e₂
      ∙ ap (λ (l : Local). steps (build g) (erase_trailer (build g) slot0 ∷ (line5 ++ (erase_trailer (build g) scratch ∷ []))) (back slot1
      (state x0 x1 x2 r) l)) e₁
    where
      line5 : List Op
      line5 = ok_ops (build g) slot0 p ++ (progress (build g) 0 ∷ progress (build g) 1 ∷ progress (build g) 2 ∷ magic_ops (build g) slot0)

-- a move, in the area that it goes to
module _ (g : Geometry) (i : Sector) (x0 x1 x2 : List ℕ) (r : Run) (j : ℕ) where
  pub to_scratch : (x2' : List ℕ) (r' : Run) → local x2' r' ≡ move_in g x1 i (sector_no 0) (local x2 r) → j ≡ 0
      → state x0 x1 x2' r' ≡ steps (build g) (move_ops (build g) (move_of i j)) (state x0 x1 x2 r)
  unfolding move_of base
  to_scratch x2' r' e z =
      ap (back scratch (state x0 x1 x2 r)) e ∙ sym (steps_move (build g) (move_of i 0) refl (state x0 x1 x2 r))
      ∙ ap (λ (k : ℕ). steps (build g) (move_ops (build g) (move_of i k)) (state x0 x1 x2 r)) (sym z)

  pub to_slot1 : (x1' : List ℕ) (r' : Run) → local x1' r' ≡ move_in g x0 i i (local x1 r) → j ≡ 1
      → state x0 x1' x2 r' ≡ steps (build g) (move_ops (build g) (move_of i j)) (state x0 x1 x2 r)
  unfolding move_of base
  to_slot1 x1' r' e z =
      ap (back slot1 (state x0 x1 x2 r)) e ∙ sym (steps_move (build g) (move_of i 1) refl (state x0 x1 x2 r))
      ∙ ap (λ (k : ℕ). steps (build g) (move_ops (build g) (move_of i k)) (state x0 x1 x2 r)) (sym z)

  pub to_slot0 : (x0' : List ℕ) (r' : Run) → local x0' r' ≡ move_in g x2 (sector_no 0) i (local x0 r) → j ≡ 2
      → state x0' x1 x2 r' ≡ steps (build g) (move_ops (build g) (move_of i j)) (state x0 x1 x2 r)
  unfolding move_of base
  to_slot0 x0' r' e z =
      ap (back slot0 (state x0 x1 x2 r)) e ∙ sym (steps_move (build g) (move_of i 2) refl (state x0 x1 x2 r))
      ∙ ap (λ (k : ℕ). steps (build g) (move_ops (build g) (move_of i k)) (state x0 x1 x2 r)) (sym z)

-- a mark in slot 0
module _ (g : Geometry) (x0 x1 x2 : List ℕ) (r : Run) (at : Offset) (v : ℕ) where
  pub in_slot0 : (x0' : List ℕ) (r' : Run) → local x0' r' ≡ mark_in g (trailer_sector (build g) slot0) at v (local x0 r)
      → state x0' x1 x2 r' ≡ step (build g) (mark (build g) slot0 at v) (state x0 x1 x2 r)
  unfolding step mark_in base
  in_slot0 x0' r' e = ap (back slot0 (state x0 x1 x2 r)) e

-- one move more with its mark, of those from mark number k on
pub next_mark : (g : Geometry) (k : ℕ) (s : State) → 3 ≤ k → k < 3 * g.sectors
    → steps (build g) (data_ops (build g) k (drop (k - 3) (all_moves (g.sectors - 1)))) s
    ≡ steps (build g) (data_ops (build g) (k + 1) (drop (k + 1 - 3) (all_moves (g.sectors - 1))))
    (step (build g) (progress (build g) k) (steps (build g) (move_ops (build g) (move_of (marked_sector g k) (k % 3))) s))
unfolding data_ops steps
next_mark g k s lo hi =
    let m : Move = move_of (marked_sector g k) (k % 3) in
    let ms : List Move = drop (k + 1 - 3) (all_moves (g.sectors - 1)) in
    ap (λ (l : List Move). steps (build g) (data_ops (build g) k l) s) (next_move g.sectors k lo hi)
    ∙ steps_append (build g) (move_ops (build g) m) (progress (build g) k ∷ data_ops (build g) (suc k) ms) s
    ∙ ap (λ (c : ℕ). steps (build g) (data_ops (build g) c ms) (step (build g) (progress (build g) k) (steps (build g) (move_ops
    (build g) m) s)))
    (sym (add-one k))

-- after the last mark, copy done
pub last_mark : (g : Geometry) (k : ℕ) (s : State) → 0 < g.sectors → k ≡ 3 * g.sectors
    → steps (build g) (data_ops (build g) k (drop (k - 3) (all_moves (g.sectors - 1)))) s ≡ step (build g) (mark (build g) slot0
    (copy_done_at (build g)) 1) s
unfolding data_ops steps
last_mark g k s p e =
    let none : drop (k - 3) (all_moves (g.sectors - 1)) ≡ [] =
    drop_of_length-le (all_moves (g.sectors - 1)) {i = k - 3} (omega (arith, length_moves (g.sectors - 1))) in
    ap (λ (l : List Move). steps (build g) (data_ops (build g) k l) s) none

-- the clear-out, part by part
module _ (g : Geometry) (u : Bool) (x0 x1 x2 : List ℕ) (r : Run) where
  pub cleared : (y1 : List ℕ) (r₁ : Run) → local y1 r₁ ≡ erases_in g 0 (last_sector g).0 (local x1 r)
      → (x0' : List ℕ) (r₂ : Run) → local x0' r₂ ≡ ok_in g (trailer_sector (build g) slot0) u (local x0 r₁)
      → (x1' : List ℕ) (r₃ : Run) → local x1' r₃ ≡ erase_in g (trailer_sector (build g) slot1) (local y1 r₂)
      → state x0' x1' x2 r₃ ≡ steps (build g) (clear_out (build g) u) (state x0 x1 x2 r)
  unfolding clear_out steps step base
  cleared y1 r₁ e₁ x0' r₂ e₂ x1' r₃ e₃ =
      ap (back slot1 (state x0' y1 x2 r₂)) e₃
      ∙ ap (λ (l : Local). step (build g) (erase_trailer (build g) slot1) (back slot0 (state x0 y1 x2 r₁) l)) e₂
      ∙ ap (step (build g) (erase_trailer (build g) slot1)) (sym (steps_ok g slot0 u (state x0 y1 x2 r₁)))
      ∙ sym (steps_append (build g) (ok_ops (build g) slot0 u) (erase_trailer (build g) slot1 ∷ []) (state x0 y1 x2 r₁))
      ∙ ap (λ (l : Local). steps (build g) rest (back slot1 (state x0 x1 x2 r) l)) e₁
      ∙ ap (steps (build g) rest) (sym (steps_erases g slot1 0 (g.sectors - 1) (state x0 x1 x2 r)))
      ∙ sym (steps_append (build g) (erases slot1 0 (g.sectors - 1)) rest (state x0 x1 x2 r))
    where
      rest : List Op
      rest = ok_ops (build g) slot0 u ++ (erase_trailer (build g) slot1 ∷ [])

-- lines 1 and 2
pub lines_one_two_lem : (g : Geometry) (p : Bool) (x0 x1 x2 : List ℕ) (r : Run) (x2' : List ℕ) (r' : Run)
    → local x2' r' ≡ lines_one_two_in g (trailer_sector (build g) scratch) p (local x2 r)
    → state x0 x1 x2' r' ≡ steps (build g) (lines_one_two (build g) p) (state x0 x1 x2 r)
lines_one_two_lem g p x0 x1 x2 r x2' r' e = ap (back scratch (state x0 x1 x2 r)) e ∙ sym (steps_lines_one_two g p (state x0 x1 x2 r))
