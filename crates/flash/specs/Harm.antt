-- Document 01, "Harm of a power failure".
use Rattle.std.specs.Prelude.{◌≡◌, List, ◌∷◌, ℕ, ◌<◌, length}
use Rattle.flash.specs.declared.Sector.{Sector}
use Rattle.flash.specs.declared.Unit.{Unit}
use Rattle.flash.specs.Geometry.{start_of, place_of, first_unit}
use Rattle.flash.specs.Build.{Area, Build, geometry, trailer_sector, data_sectors, Flash}
use Rattle.flash.specs.Operations.{Op, erase, write, copy, store, apply}

-- What a failure in the middle of an operation leaves: the flash as it was ("An operation on a trailer sector happens or does not"); or
-- arbitrary bytes in the data sector that was being erased, or in the data unit that was being written.
pub data Torn (g : Build) : Op → Flash → Flash → Type 0 where
  as_before : {op : Op} {f f' : Flash} → f' ≡ f → Torn g op f f'
  half_erased : {a : Area} {i : Sector} {f f' : Flash} (bytes : List ℕ) → i.0 < data_sectors g a → length bytes ≡ g.sector
      → f' ≡ store a (start_of (geometry g) i).0 bytes f → Torn g (erase a i) f f'
  half_written : {a : Area} {u : Unit} {bs : List ℕ} {f f' : Flash} (bytes : List ℕ)
      → u.0 < (first_unit (geometry g) (trailer_sector g a)).0 → length bytes ≡ g.unit
      → f' ≡ store a (place_of (geometry g) u).0 bytes f → Torn g (write a u bs) f f'
  half_copied : {b a : Area} {v u : Unit} {f f' : Flash} (bytes : List ℕ)
      → u.0 < (first_unit (geometry g) (trailer_sector g a)).0 → length bytes ≡ g.unit
      → f' ≡ store a (place_of (geometry g) u).0 bytes f → Torn g (copy b v a u) f f'

-- Power fails before the last operation of the list is done: in the middle of the first, or later.
pub data Cut (g : Build) : List Op → Flash → Flash → Type 0 where
  here : {op : Op} {ops : List Op} {f f' : Flash} → Torn g op f f' → Cut g (op ∷ ops) f f'
  later : {op : Op} {ops : List Op} {f f' : Flash} → Cut g ops (apply g op f) f' → Cut g (op ∷ ops) f f'
