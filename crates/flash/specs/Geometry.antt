-- Document 01, "The flash": the geometry, and the three kinds of number with the named functions that turn one into another; with two
-- kinds of count, of units and of bytes.
use Rattle.std.specs.Prelude.{ℕ, ◌+◌, ◌*◌, ◌-◌, ◌/◌}
use Rattle.flash.specs.declared.Geometry.{Geometry}
use Rattle.flash.specs.declared.Sector.{Sector}
use Rattle.flash.specs.declared.Unit.{Unit}
use Rattle.flash.specs.declared.Offset.{Offset}
use Rattle.flash.specs.declared.Units.{Units}
use Rattle.flash.specs.declared.Bytes.{Bytes}

-- "A sector number, a write-unit number and a byte offset count three things, and no one of them may stand for another."
abbrev pub sector_no : ℕ → Sector
sector_no i = record { 0 = i }

abbrev pub unit_no : ℕ → Unit
unit_no u = record { 0 = u }

abbrev pub byte_at : ℕ → Offset
byte_at o = record { 0 = o }

-- how many units, and how many bytes
abbrev pub unit_count : ℕ → Units
unit_count n = record { 0 = n }

abbrev pub byte_count : ℕ → Bytes
byte_count n = record { 0 = n }

-- where a sector begins, and where a unit begins
abbrev pub start_of : Geometry → Sector → Offset
start_of g i = byte_at (i.0 * g.sector)

abbrev pub place_of : Geometry → Unit → Offset
place_of g u = byte_at (u.0 * g.unit)

-- the unit that begins at an offset
abbrev pub unit_at : Geometry → Offset → Unit
unit_at g o = unit_no (o.0 / g.unit)

-- how many bytes some units are, and some sectors; how many units some bytes are
abbrev pub bytes_in : Geometry → Units → Bytes
bytes_in g n = byte_count (n.0 * g.unit)

abbrev pub sector_bytes : Geometry → ℕ → Bytes
sector_bytes g k = byte_count (k * g.sector)

abbrev pub units_in : Geometry → Bytes → Units
units_in g b = unit_count (b.0 / g.unit)

-- the units of a sector, and the first of them
abbrev pub units_per_sector : Geometry → Units
units_per_sector g = units_in g (byte_count g.sector)

abbrev pub first_unit : Geometry → Sector → Unit
first_unit g i = unit_no (i.0 * (units_per_sector g).0)

-- the unit that comes some units after another, and the next
abbrev pub further : Unit → Units → Unit
further u n = unit_no (u.0 + n.0)

abbrev pub next_unit : Unit → Unit
next_unit u = further u (unit_count 1)

-- an offset counted from another, and the offset some bytes behind one
abbrev pub after : Offset → Offset → Offset
after o p = byte_at (o.0 + p.0)

abbrev pub beyond : Offset → Bytes → Offset
beyond o b = byte_at (o.0 + b.0)

-- "The last sector of a slot is its trailer sector; the m = n − 1 before it are data."
abbrev pub last_sector : Geometry → Sector
last_sector g = sector_no (g.sectors - 1)

-- "Each slot is exactly n·s bytes"; "the slot's m·s data bytes"
abbrev pub slot_bytes : Geometry → Bytes
slot_bytes g = sector_bytes g g.sectors

abbrev pub data_bytes : Geometry → Bytes
data_bytes g = sector_bytes g (last_sector g).0
