-- The base build of document 01: its moves ("Data exchange") and the values of its marks ("Trailer").
use Rattle.std.specs.Prelude.{List, [], ◌∷◌, ◌++◌, ℕ, zero, suc, ◌+◌, ◌-◌, ◌%◌}
use Rattle.flash.specs.declared.Geometry.{Geometry}
use Rattle.flash.specs.Geometry.{sector_no}
use Rattle.flash.specs.Build.{slot0, slot1, scratch, Move, Build}

-- "three moves each: slot 1 to scratch, slot 0 to slot 1, scratch to slot 0"
unfoldable pub three_moves : ℕ → List Move
three_moves i =
    record { from = slot1; from_sector = sector_no i; to = scratch; to_sector = sector_no 0 }
    ∷ record { from = slot0; from_sector = sector_no i; to = slot1; to_sector = sector_no i }
    ∷ record { from = scratch; from_sector = sector_no 0; to = slot0; to_sector = sector_no i } ∷ []

-- "sectors m − 1 down to 0"
unfoldable pub all_moves : ℕ → List Move
all_moves zero = []
all_moves (suc i) = three_moves i ++ all_moves i

-- "The written values are 01, 02, 03"; the check is lent "the slot's m·s data bytes"
unfoldable pub base : ℕ → ℕ → ℕ → Build
base w s n = record {
  unit = w;
  sector = s;
  sectors = n;
  spare = 1;
  lent = n - 1;
  moves = all_moves (n - 1);
  value = λ k. 1 + k % 3;
}

abbrev pub build : Geometry → Build
build g = base g.unit g.sector g.sectors
