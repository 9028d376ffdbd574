-- Document 01, "The flash": the three areas and their sectors; and what one build of the loader differs in from another.
use Rattle.std.specs.Prelude.{List, [], ◌∷◌, Bool, true, false, ◌||◌, ℕ, suc, ◌+◌, ◌*◌, ◌%◌, length, eqb, leb}
use Rattle.spans.specs.Choice.{every}
use Rattle.flash.specs.declared.Geometry.{Geometry}
use Rattle.flash.specs.declared.Sector.{Sector}
use Rattle.flash.specs.declared.Bytes.{Bytes}
use Rattle.flash.specs.Geometry.{sector_no, sector_bytes, last_sector, slot_bytes}

pub data Area : Type 0 where
  slot0 slot1 scratch : Area

-- all the bytes of one sector go to another
pub record Move : Type 0 where
  pub from : Area
  pub from_sector : Sector
  pub to : Area
  pub to_sector : Sector

-- A geometry, with what builds differ in: the data sectors of scratch, the sectors of slot 1 that the image check is lent, the
-- moves of an exchange, and the values of the progress marks in reading order.
pub record Build : Type 0 where
  pub unit : ℕ
  pub sector : ℕ
  pub sectors : ℕ
  pub spare : ℕ
  pub lent : ℕ
  pub moves : List Move
  pub value : ℕ → ℕ

abbrev pub geometry : Build → Geometry
geometry g = record { unit = g.unit; sector = g.sector; sectors = g.sectors }

-- how many sectors stand before the trailer sector: "The last sector of a slot is its trailer sector; the m = n − 1 before it are data."
abbrev pub data_sectors : Build → Area → ℕ
data_sectors g slot0 = (last_sector (geometry g)).0
data_sectors g slot1 = (last_sector (geometry g)).0
data_sectors g scratch = g.spare

abbrev pub trailer_sector : Build → Area → Sector
trailer_sector g a = sector_no (data_sectors g a)

-- the bytes of scratch, and those that the image check is lent
abbrev pub scratch_bytes : Build → Bytes
scratch_bytes g = sector_bytes (geometry g) (suc g.spare)

abbrev pub lent_bytes : Build → Bytes
lent_bytes g = sector_bytes (geometry g) g.lent

pub record Flash : Type 0 where
  pub in0 : List ℕ
  pub in1 : List ℕ
  pub in2 : List ℕ

abbrev pub area : Area → Flash → List ℕ
area slot0 f = f.in0
area slot1 f = f.in1
area scratch f = f.in2

abbrev pub with_area : Area → Flash → List ℕ → Flash
with_area slot0 f xs = record { in0 = xs; in1 = f.in1; in2 = f.in2 }
with_area slot1 f xs = record { in0 = f.in0; in1 = xs; in2 = f.in2 }
with_area scratch f xs = record { in0 = f.in0; in1 = f.in1; in2 = xs }

abbrev pub same_area : Area → Area → Bool
same_area slot0 slot0 = true
same_area slot0 slot1 = false
same_area slot0 scratch = false
same_area slot1 slot0 = false
same_area slot1 slot1 = true
same_area slot1 scratch = false
same_area scratch slot0 = false
same_area scratch slot1 = false
same_area scratch scratch = true

-- "a write unit of w bytes (1, 2, 4 or 8), a sector of s bytes (a multiple of w, from 384w + 32 to 65,536) and n sectors per slot
-- (2 to 128). Each slot is exactly n·s bytes, scratch exactly 2s" (here its data sectors and one more)
unfoldable pub asked : Build → ℕ → ℕ → ℕ → List Bool
asked g l0 l1 l2 =
    (eqb g.unit 1 || eqb g.unit 2 || eqb g.unit 4 || eqb g.unit 8)
    ∷ eqb (g.sector % g.unit) 0 ∷ leb (384 * g.unit + 32) g.sector ∷ leb g.sector 65536
    ∷ leb 2 g.sectors ∷ leb g.sectors 128
    ∷ eqb l0 (slot_bytes (geometry g)).0 ∷ eqb l1 (slot_bytes (geometry g)).0 ∷ eqb l2 (scratch_bytes g).0 ∷ []

unfoldable pub fits : Build → ℕ → ℕ → ℕ → Bool
fits g l0 l1 l2 = every (asked g l0 l1 l2)

unfoldable pub valid : Build → Flash → Bool
valid g f = fits g (length f.in0) (length f.in1) (length f.in2)
