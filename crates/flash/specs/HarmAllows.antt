-- What the harm of a power failure allows, said by what is read afterwards: any bytes where an operation works on data, and nothing
-- but done or not done in a trailer sector. Data is what stands before the last sector of an area.
use Rattle.std.specs.Prelude.{◌≡◌, List, false, ℕ, ◌+◌, length, take, drop}
use Rattle.spans.specs.Bytes.{part, blank}
use Rattle.flash.specs.declared.Unit.{Unit}
use Rattle.flash.specs.Geometry.{unit_no, start_of, place_of}
use Rattle.flash.specs.Build.{Area, slot0, slot1, scratch, Build, geometry, Flash, area, same_area}
use Rattle.flash.specs.Base.{base}
use Rattle.flash.specs.Operations.{Op, erase, write, copy}
use Rattle.flash.specs.Harm.{Torn}

-- where an operation works: its area, and the place of its first byte
abbrev pub target : Op → Area
target (erase a i) = a
target (write a u bs) = a
target (copy b v a u) = a

abbrev pub begins : Build → Op → ℕ
begins g (erase a i) = (start_of (geometry g) i).0
begins g (write a u bs) = (place_of (geometry g) u).0
begins g (copy b v a u) = (place_of (geometry g) u).0

-- cut in the middle, the operation can leave these bytes where it works, and everything else as it was
pub record CanLeave (g : Build) (op : Op) (bytes : List ℕ) (f : Flash) : Type 0 where
  pub left : Flash
  pub torn : Torn g op f left
  pub there : part (area (target op) left) (begins g op) (length bytes) ≡ bytes
  pub before : take (begins g op) (area (target op) left) ≡ take (begins g op) (area (target op) f)
  pub behind : drop (begins g op + length bytes) (area (target op) left) ≡ drop (begins g op + length bytes) (area (target op) f)
  pub elsewhere : (b : Area) → same_area (target op) b ≡ false → area b left ≡ area b f

-- ---- document 01's build, w 1, s 416, n 3: slots of two data sectors, scratch of one

unfoldable pub three : Build
three = base 1 416 3

unfoldable pub all_erased : Flash
all_erased = record { in0 = blank 1248; in1 = blank 1248; in2 = blank 832 }

unfoldable pub last_data_unit : Area → Unit
last_data_unit slot0 = unit_no 831
last_data_unit slot1 = unit_no 831
last_data_unit scratch = unit_no 415
