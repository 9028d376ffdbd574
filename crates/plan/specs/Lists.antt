-- Document 01, "Trailer exchange", "Data exchange", "Clear-out": the lists of operations.
use Rattle.std.specs.Prelude.{List, [], ◌∷◌, ◌++◌, Bool, true, false, ℕ, zero, suc, take, drop}
use Rattle.flash.specs.declared.Unit.{Unit}
use Rattle.flash.specs.declared.Offset.{Offset}
use Rattle.flash.specs.Geometry.{sector_no, start_of, unit_at, first_unit, next_unit, units_per_sector, after}
use Rattle.flash.specs.Build.{Area, slot0, slot1, scratch, Move, Build, geometry, data_sectors, trailer_sector}
use Rattle.flash.specs.Operations.{Op, erase, write, copy}
use Rattle.trailer.specs.Trailer.{magic_at, ok_at, copy_done_at, mark_at, magic_bytes, magic_units, mark_bytes}

-- ---- a trailer sector's erase, and the writes in it

-- where an offset into the area's trailer sector stands in the area, and the unit there
abbrev pub place_in : Build → Area → Offset → Offset
place_in g a at = after (start_of (geometry g) (trailer_sector g a)) at

abbrev pub trailer_unit : Build → Area → Offset → Unit
trailer_unit g a at = unit_at (geometry g) (place_in g a at)

abbrev pub erase_trailer : Build → Area → Op
erase_trailer g a = erase a (trailer_sector g a)

abbrev pub mark : Build → Area → Offset → ℕ → Op
mark g a at v = write a (trailer_unit g a at) (mark_bytes g v)

-- progress mark number k, in slot 0
abbrev pub progress : Build → ℕ → Op
progress g k = mark g slot0 (mark_at g k) (g.value k)

unfoldable pub writes : Build → Area → Unit → ℕ → List ℕ → List Op
writes g a u zero bs = []
writes g a u (suc k) bs = write a u (take g.unit bs) ∷ writes g a (next_unit u) k (drop g.unit bs)

-- "Units of the magic are also written in rising order."
unfoldable pub magic_ops : Build → Area → List Op
magic_ops g a = writes g a (trailer_unit g a (magic_at g)) (magic_units (geometry g)).0 magic_bytes

-- image ok 01, if there is to be one
unfoldable pub ok_ops : Build → Area → Bool → List Op
ok_ops g a true = mark g a (ok_at g) 1 ∷ []
ok_ops g a false = []

-- ---- the exchange; p: it is permanent or a revert

-- "Trailer exchange": lines 1 and 2
unfoldable pub lines_one_two : Build → Bool → List Op
lines_one_two g p = erase_trailer g scratch ∷ (ok_ops g scratch p ++ magic_ops g scratch)

-- lines 3 to 6
unfoldable pub lines_three_to_six : Build → Bool → List Op
lines_three_to_six g p =
    erase_trailer g slot1 ∷ erase_trailer g slot0 ∷
    ((ok_ops g slot0 p ++ (progress g 0 ∷ progress g 1 ∷ progress g 2 ∷ magic_ops g slot0)) ++ (erase_trailer g scratch ∷ []))

-- "writes all s/w units in rising order"
unfoldable pub copies : Area → Unit → Area → Unit → ℕ → List Op
copies a v b u zero = []
copies a v b u (suc k) = copy a v b u ∷ copies a (next_unit v) b (next_unit u) k

-- "A move erases its target, writes all s/w units in rising order" (its mark comes in `data_ops`)
unfoldable pub move_ops : Build → Move → List Op
move_ops g m =
    erase m.to m.to_sector
    ∷ copies m.from (first_unit (geometry g) m.from_sector) m.to (first_unit (geometry g) m.to_sector)
    (units_per_sector (geometry g)).0

-- "Data exchange": the moves ms, whose marks are those from number c on; "After the last mark, write copy done 01."
unfoldable pub data_ops : Build → ℕ → List Move → List Op
data_ops g c [] = mark g slot0 (copy_done_at g) 1 ∷ []
data_ops g c (m ∷ ms) = move_ops g m ++ (progress g c ∷ data_ops g (suc c) ms)

unfoldable pub exchange : Build → Bool → List Op
exchange g p = lines_one_two g p ++ (lines_three_to_six g p ++ data_ops g 3 g.moves)

-- ---- the clear-out

unfoldable pub erases : Area → ℕ → ℕ → List Op
erases a i zero = []
erases a i (suc k) = erase a (sector_no i) ∷ erases a (suc i) k

-- "erase slot 1's data sectors 0 to m − 1, write slot 0 image ok 01 if it is Unset, erase slot 1's trailer sector"
unfoldable pub clear_out : Build → Bool → List Op
clear_out g unset = erases slot1 0 (data_sectors g slot1) ++ (ok_ops g slot0 unset ++ (erase_trailer g slot1 ∷ []))
