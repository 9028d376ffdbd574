-- Document 01, "Trailer, counted from the end of slot or scratch".
use Rattle.std.specs.Prelude.{List, [], ◌∷◌, Bool, true, false, ◌&&◌, ℕ, zero, suc, ◌+◌, ◌*◌, ◌-◌, drop, get_or, eqb, ltb}
use Rattle.spans.specs.Bytes.{part, blank, same}
use Rattle.spans.specs.Choice.{pick}
use Rattle.flash.specs.declared.Geometry.{Geometry}
use Rattle.flash.specs.declared.Sector.{Sector}
use Rattle.flash.specs.declared.Offset.{Offset}
use Rattle.flash.specs.declared.Units.{Units}
use Rattle.flash.specs.Geometry.{unit_no, unit_count, byte_count, byte_at, start_of, place_of, bytes_in, units_in, after}
use Rattle.flash.specs.Build.{Build, geometry, Flash, Area, area, trailer_sector}
use Rattle.trailer.specs.declared.Magic.{Magic}
use Rattle.trailer.specs.declared.Mark.{Mark}

-- the bytes of an area's trailer sector
unfoldable pub trailer : Build → Area → Flash → List ℕ
trailer g a f = drop (start_of (geometry g) (trailer_sector g a)).0 (area a f)

-- ---- the places, as offsets into a trailer sector

-- "last 16 bytes"
abbrev pub magic_at : Build → Offset
magic_at g = byte_at (g.sector - 16)

-- "24 from the end"
abbrev pub ok_at : Build → Offset
ok_at g = byte_at (g.sector - 24)

-- "32 from the end"
abbrev pub copy_done_at : Build → Offset
copy_done_at g = byte_at (g.sector - 32)

-- so many units before that
abbrev pub marks_at : Build → Units → Offset
marks_at g n = byte_at (g.sector - 32 - (bytes_in (geometry g) n).0)

-- "384w before that"; "Mark j (0 to 2) of sector i stands (127 − i)·3w + j·w into the progress marks"
unfoldable pub mark_stands : Build → Sector → ℕ → Offset
mark_stands g i j = after (marks_at g (unit_count 384)) (place_of (geometry g) (unit_no ((127 - i.0) * 3 + j)))

-- Mark number k in reading order, from sector n − 1 down: marks 0 to 2 are those of sector n − 1, 3 to 5 those of sector n − 2. They are
-- consecutive units, which `reading_order` shows of `mark_stands`.
abbrev pub mark_at : Build → ℕ → Offset
mark_at g k = after (marks_at g (unit_count (3 * g.sectors))) (place_of (geometry g) (unit_no k))

-- ---- magic

-- "magic words f395c277, 7fefd260, 0f505235, 8079b62c", "little endian here"
unfoldable pub magic_bytes : List ℕ
magic_bytes =
    0x77 ∷ 0xc2 ∷ 0x95 ∷ 0xf3 ∷ 0x60 ∷ 0xd2 ∷ 0xef ∷ 0x7f ∷ 0x35 ∷ 0x52 ∷ 0x50 ∷ 0x0f ∷ 0x2c ∷ 0xb6 ∷ 0x79 ∷ 0x80 ∷ []

-- how many units they are
abbrev pub magic_units : Geometry → Units
magic_units g = units_in g (byte_count 16)

-- "Magic is Good when equal, Unset when all 0xff, otherwise Bad."
unfoldable pub magic_of : Build → List ℕ → Magic
magic_of g t =
    let m = part t (magic_at g).0 16 in
    pick (same m magic_bytes) Magic.Good (pick (same m (blank 16)) Magic.Unset Magic.Bad)

unfoldable pub is_good : Magic → Bool
is_good Magic.Good = true
is_good Magic.Unset = false
is_good Magic.Bad = false

unfoldable pub is_no_magic : Magic → Bool
is_no_magic Magic.Good = false
is_no_magic Magic.Unset = true
is_no_magic Magic.Bad = false

-- ---- marks

-- "A mark is Unset when all w bytes are 0xff, has value v when its first byte is v and the rest are 0xff, and is otherwise Bad."
unfoldable pub mark_of : Build → List ℕ → Offset → Mark
mark_of g t at =
    let u = part t at.0 g.unit in
    pick (same u (blank g.unit)) Mark.Unset
    (pick (same (drop 1 u) (blank (g.unit - 1))) (Mark.Value (get_or u 0 0)) Mark.Bad)

unfoldable pub mark_bytes : Build → ℕ → List ℕ
mark_bytes g v = v ∷ blank (g.unit - 1)

unfoldable pub is_unset : Mark → Bool
is_unset Mark.Unset = true
is_unset (Mark.Value v) = false
is_unset Mark.Bad = false

unfoldable pub has_value : ℕ → Mark → Bool
has_value x Mark.Unset = false
has_value x (Mark.Value v) = eqb v x
has_value x Mark.Bad = false

-- ---- the run of progress marks

-- of the r marks from number k on, how many stand before the first that is Unset
unfoldable pub written : Build → List ℕ → ℕ → ℕ → ℕ
written g t k zero = 0
written g t k (suc r) = pick (is_unset (mark_of g t (mark_at g k))) 0 (suc (written g t (suc k) r))

-- of the r marks from number k on, those before number c have their values, and the others are Unset
unfoldable pub legal : Build → List ℕ → ℕ → ℕ → ℕ → Bool
legal g t c k zero = true
legal g t c k (suc r) =
    (let m = mark_of g t (mark_at g k) in pick (ltb k c) (has_value (g.value k) m) (is_unset m)) && legal g t c (suc k) r
