-- What the window that wipes a sector hides: the writes in a trailer sector, a move.
use Rattle.std.specs.Prelude.{◌≡◌, List, Bool, take, drop}
use Rattle.std.proofs.Math.Path.{ap}
use Rattle.std.proofs.Math.Bool.{true, false}
use Prim.Native.Nat.{ℕ, zero, suc, ◌+◌, ◌*◌, ◌≤◌, ◌<◌}
use Rattle.std.specs.Int.{◌∣◌}
use Rattle.std.proofs.Common.{arith}
use Rattle.std.proofs.Math.ListN.{length-take}
use Rattle.flash.specs.declared.Sector.{Sector}
use Rattle.flash.specs.declared.Unit.{Unit}
use Rattle.flash.specs.declared.Offset.{Offset}
use Rattle.flash.specs.Geometry.{first_unit, next_unit, unit_count, start_of, place_of, bytes_in}
use Rattle.flash.specs.Build.{Area, slot0, scratch, Build, Move, Flash, geometry, trailer_sector}
use Rattle.flash.specs.Operations.{apply, run_all}
use Rattle.trailer.specs.Trailer.{magic_bytes, magic_at, ok_at, mark_at, mark_bytes, magic_units}
use Rattle.plan.specs.Lists.{trailer_unit, mark, progress, writes, magic_ops, ok_ops, lines_one_two, copies, move_ops}
use Rattle.recovery.specs.All.{All, none, one, all_append}
use Rattle.recovery.specs.Windows.{Hidden, wipe, hidden_erase, hidden_write, hidden_copy}
use Rattle.recovery.specs.Places.{Geo, per, unit_back, per_back, unit_small, magic_unit, magic_units_lem, ok_unit, mark_unit, length_mark}
use Rattle.recovery.specs.Reading.{mark_room}

-- the window that wipes the trailer sector of an area
abbrev pub wipe_trailer : Build → Area → Flash → Flash
wipe_trailer g a = wipe g a (trailer_sector g a)

module _ {g : Build} (geo : Geo g) where
  pub hidden_mark : (a : Area) (at : Offset) (v : ℕ) → g.unit ∣ at.0 → at.0 + g.unit ≤ g.sector
      → Hidden g (wipe_trailer g a) (mark g a at v)
  hidden_mark a at v d h =
      hidden_write g a (trailer_sector g a) at.0 (trailer_unit g a at) (unit_back geo a at d) h (mark_bytes g v)
      (omega (arith, length_mark geo v))

  hidden_writes : (a : Area) (o : ℕ) (u : Unit) (k : ℕ) (bs : List ℕ)
      → (place_of (geometry g) u).0 ≡ (start_of (geometry g) (trailer_sector g a)).0 + o
      → o + (bytes_in (geometry g) (unit_count k)).0 ≤ g.sector → All (Hidden g (wipe_trailer g a)) (writes g a u k bs)
  unfolding writes
  hidden_writes a o u zero bs e h = none
  hidden_writes a o u (suc k) bs e h =
      one (hidden_write g a (trailer_sector g a) o u e (omega arith) (take g.unit bs) (simp length-take (omega arith)))
      (hidden_writes a (o + g.unit) (next_unit u) k (drop g.unit bs) (omega arith) (omega arith))

  pub hidden_magic : (a : Area) → All (Hidden g (wipe_trailer g a)) (magic_ops g a)
  unfolding magic_ops
  hidden_magic a =
      hidden_writes a (magic_at g).0 (trailer_unit g a (magic_at g)) (magic_units (geometry g)).0 magic_bytes
      (unit_back geo a (magic_at g) (magic_unit geo)) (omega (arith, magic_units_lem geo))

  pub hidden_ok : (a : Area) (p : Bool) → All (Hidden g (wipe_trailer g a)) (ok_ops g a p)
  unfolding ok_ops
  hidden_ok a true = one (hidden_mark a (ok_at g) 1 (ok_unit geo) (omega (arith, unit_small geo))) none
  hidden_ok a false = none

  pub hidden_begin : (p : Bool) → All (Hidden g (wipe_trailer g scratch)) (lines_one_two g p)
  unfolding lines_one_two
  hidden_begin p = one (hidden_erase g scratch (trailer_sector g scratch)) (all_append (hidden_ok scratch p) (hidden_magic scratch))

  pub hidden_progress : (k : ℕ) → k < 3 * g.sectors → Hidden g (wipe_trailer g slot0) (progress g k)
  hidden_progress k h = hidden_mark slot0 (mark_at g k) (g.value k) (mark_unit geo k) (omega (arith, mark_room geo h))

  hidden_copies : (a : Area) (v : Unit) (b : Area) (j : Sector) (o : ℕ) (u : Unit) (k : ℕ)
      → (place_of (geometry g) u).0 ≡ (start_of (geometry g) j).0 + o → o + (bytes_in (geometry g) (unit_count k)).0 ≤ g.sector
      → All (Hidden g (wipe g b j)) (copies a v b u k)
  unfolding copies
  hidden_copies a v b j o u zero e h = none
  hidden_copies a v b j o u (suc k) e h =
      one (hidden_copy g b j o u e (omega arith) a v)
      (hidden_copies a (next_unit v) b j (o + g.unit) (next_unit u) k (omega arith) (omega arith))

  pub hidden_move : (m : Move) → All (Hidden g (wipe g m.to m.to_sector)) (move_ops g m)
  unfolding move_ops
  hidden_move m =
      one (hidden_erase g m.to m.to_sector)
      (hidden_copies m.from (first_unit (geometry g) m.from_sector) m.to m.to_sector 0
      (first_unit (geometry g) m.to_sector) (per g) (omega (arith, ap (λ (x : ℕ). m.to_sector.0 * x) (per_back geo)))
      (omega (arith, per_back geo)))

-- a move begins with the erase of its target, and so does not see what was there
pub move_run : (g : Build) (m : Move) (f f' : Flash) → wipe g m.to m.to_sector f ≡ wipe g m.to m.to_sector f'
    → run_all g (move_ops g m) f ≡ run_all g (move_ops g m) f'
unfolding move_ops run_all apply
move_run g m f f' e =
    ap (run_all g (copies m.from (first_unit (geometry g) m.from_sector) m.to (first_unit (geometry g) m.to_sector)
    (per g))) e
