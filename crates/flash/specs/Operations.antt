-- Document 01, "The flash": the two operations, and a list of them under an allowance.
use Rattle.std.specs.Prelude.{List, [], ◌∷◌, Bool, true, ℕ, zero, suc, ◌-◌, take, drop, eqb}
use Rattle.spans.specs.Bytes.{part, put, blank, same}
use Rattle.spans.specs.Choice.{pick}
use Rattle.flash.specs.declared.Geometry.{Geometry}
use Rattle.flash.specs.declared.Sector.{Sector}
use Rattle.flash.specs.declared.Unit.{Unit}
use Rattle.flash.specs.declared.Run.{Run}
use Rattle.flash.specs.declared.End.{End}
use Rattle.flash.specs.declared.End.TheVariants.{Going, Stopped, Unerased}
use Rattle.flash.specs.Geometry.{start_of, place_of, next_unit}
use Rattle.flash.specs.Build.{Area, Build, geometry, Flash, area, with_area}

-- "An operation is one of two: erase one sector (all bytes 0xff), or write one unit." What is written is given, or is another unit's.
pub data Op : Type 0 where
  erase : Area → Sector → Op
  write : Area → Unit → List ℕ → Op
  copy : Area → Unit → Area → Unit → Op

-- ---- what an operation does

abbrev pub store : Area → ℕ → List ℕ → Flash → Flash
store a at bs f = with_area a f (put (area a f) at bs)

abbrev pub unit_of : Build → Area → Unit → Flash → List ℕ
unit_of g a u f = part (area a f) (place_of (geometry g) u).0 g.unit

unfoldable pub apply : Build → Op → Flash → Flash
apply g (erase a i) f = store a (start_of (geometry g) i).0 (blank g.sector) f
apply g (write a u bs) f = store a (place_of (geometry g) u).0 bs f
apply g (copy a v b u) f = store b (place_of (geometry g) u).0 (unit_of g a v f) f

-- the flash after the first b operations, and after all
unfoldable pub run : Build → ℕ → List Op → Flash → Flash
run g zero ops f = f
run g (suc b) [] f = f
run g (suc b) (op ∷ ops) f = run g b ops (apply g op f)

unfoldable pub run_all : Build → List Op → Flash → Flash
run_all g [] f = f
run_all g (op ∷ ops) f = run_all g ops (apply g op f)

-- ---- carrying out under an allowance

-- the bytes of one area, with what is left of the allowance
pub record Local : Type 0 where
  pub bytes : List ℕ
  pub run : Run

abbrev pub local : List ℕ → Run → Local
local xs r = record { bytes = xs; run = r }

abbrev pub going : ℕ → Run
going b = record { left = b; end = Going }

-- One operation is due that turns xs into ys: with nothing left of the allowance it is not begun; "A unit is written only if its w
-- bytes are all 0xff"; and after either nothing more is done.
abbrev pub onward : End → Local → Local → Local
onward Going l l' = l'
onward Stopped l l' = l
onward Unerased l l' = l

unfoldable pub attempt : Bool → List ℕ → Local → Local
attempt erased ys l =
    onward l.run.end l
    (pick (eqb l.run.left 0) (local l.bytes (record { left = l.run.left; end = Stopped }))
    (pick erased (local ys (going (l.run.left - 1))) (local l.bytes (record { left = l.run.left; end = Unerased }))))

-- an erase, and a write, in an area
unfoldable pub erase_in : Geometry → Sector → Local → Local
erase_in g i l = attempt true (put l.bytes (start_of g i).0 (blank g.sector)) l

unfoldable pub erased : Geometry → Unit → List ℕ → Bool
erased g u xs = same (part xs (place_of g u).0 g.unit) (blank g.unit)

unfoldable pub write_in : Geometry → Unit → List ℕ → Local → Local
write_in g u bs l = attempt (erased g u l.bytes) (put l.bytes (place_of g u).0 bs) l

unfoldable pub write_all_in : Geometry → Unit → ℕ → List ℕ → Local → Local
write_all_in g u zero bs l = l
write_all_in g u (suc k) bs l = write_all_in g (next_unit u) k (drop g.unit bs) (write_in g u (take g.unit bs) l)

-- the three areas, with what is left of the allowance
pub record State : Type 0 where
  pub flash : Flash
  pub run : Run

abbrev pub in_area : Area → State → Local
in_area a s = local (area a s.flash) s.run

abbrev pub back : Area → State → Local → State
back a s l = record { flash = with_area a s.flash l.bytes; run = l.run }

unfoldable pub step : Build → Op → State → State
step g (erase a i) s = back a s (erase_in (geometry g) i (in_area a s))
step g (write a u bs) s = back a s (write_in (geometry g) u bs (in_area a s))
step g (copy a v b u) s = back b s (write_in (geometry g) u (unit_of g a v s.flash) (in_area b s))

-- "after an allowance of b the areas are those after the first b operations listed"
unfoldable pub steps : Build → List Op → State → State
steps g [] s = s
steps g (op ∷ ops) s = steps g ops (step g op s)

abbrev pub start : ℕ → Flash → State
start b f = record { flash = f; run = going b }
