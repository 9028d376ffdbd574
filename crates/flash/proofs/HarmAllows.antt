-- What the harm of a power failure allows, said by what is read afterwards: any bytes where an operation works on data, and nothing
-- but done or not done in a trailer sector. Data is what stands before the last sector of an area.
use Rattle.std.specs.Prelude.{◌≡◌, refl, ◌⊎◌, List, [], ◌∷◌, Bool, true, false, ℕ, zero, suc, ◌+◌, ◌*◌, ◌-◌, ◌%◌, ◌≤◌, ◌<◌, length, take, drop, get_or, eqb}
use Rattle.std.proofs.Common.{sym, ap, ◌∙◌, inl, inr, mul_assoc, div-add-mod', mul-le-mul_right, lt_of_mul-lt-mul_right, arith, eqb-true, leb-true}
use Rattle.std.proofs.lemmas.Bool.{false≢true}
use Rattle.spans.specs.Bytes.{part, blank}
use Rattle.spans.specs.Choice.{every}
use Rattle.spans.specs.Laws.{part_put, take_put_before, drop_put_after}
use Rattle.flash.specs.declared.Sector.{Sector}
use Rattle.flash.specs.declared.Unit.{Unit}
use Rattle.flash.specs.Geometry.{start_of, place_of, units_per_sector, next_unit, first_unit, bytes_in, slot_bytes, data_bytes}
use Rattle.flash.specs.Build.{Area, slot0, slot1, scratch, Build, geometry, data_sectors, Flash, area, asked, fits, valid, trailer_sector, scratch_bytes}
use Rattle.flash.specs.Base.{base}
use Rattle.flash.specs.Operations.{Op, erase, write, copy, store, apply}
use Rattle.flash.specs.Harm.{Torn, as_before, half_erased, half_written, half_copied, Cut, here, later}
use Rattle.flash.specs.Units.{each_unit}
use Rattle.flash.specs.AreaLaws.{area_store, unseen}
use Rattle.flash.specs.HarmAllows.{target, begins, CanLeave, three, all_erased, last_data_unit}

-- what a store leaves is such a flash
stored : (g : Build) (op : Op) (bytes : List ℕ) (f : Flash) → begins g op + length bytes ≤ length (area (target op) f)
    → Torn g op f (store (target op) (begins g op) bytes f) → CanLeave g op bytes f
stored g op bytes f h t =
    let a : Area = target op in
    let at : ℕ = begins g op in
    let e = area_store a at bytes f in
    record {
      left = store a at bytes f;
      torn = t;
      there = ap (λ (xs : List ℕ). part xs at (length bytes)) e ∙ part_put (area a f) at bytes (length bytes) refl h;
      before = ap (take at) e ∙ take_put_before (area a f) at at bytes (omega arith);
      behind = ap (drop (at + length bytes)) e ∙ drop_put_after (area a f) (at + length bytes) at bytes (omega arith);
      elsewhere = λ b n. unseen (λ xs. xs) a b at bytes f (λ q. absurd (false≢true (sym n ∙ q)));
    }

-- ---- what the sizes of a valid flash give

pub record Sizes (g : Build) (f : Flash) : Type 0 where
  pub positive : 0 < g.sector
  pub one : 0 < g.unit
  pub whole : (k : ℕ) → k * (units_per_sector (geometry g)).0 * g.unit ≡ k * g.sector
  pub long : (a : Area) → length (area a f) ≡ (start_of (geometry g) (trailer_sector g a)).0 + g.sector

-- each of the tests of a list that passes all of them
test : (k : ℕ) (bs : List Bool) → every bs ≡ true → get_or bs k true ≡ true
unfolding every
test k [] h = refl
test zero (true ∷ bs) h = refl
test (suc k) (true ∷ bs) h = test k bs h
test k (false ∷ bs) h = absurd (false≢true h)

sizes : (g : Build) (f : Flash) → valid g f ≡ true → Sizes g f
unfolding valid fits asked
sizes g f h =
    let nth : (k : ℕ) → get_or (asked g (length f.in0) (length f.in1) (length f.in2)) k true ≡ true =
    λ k. test k (asked g (length f.in0) (length f.in1) (length f.in2)) h in
    let two : 2 ≤ g.sectors = leb-true 2 g.sectors (nth 4) in
    let n : g.sectors ≡ suc (g.sectors - 1) = omega arith in
    let e : (slot_bytes (geometry g)).0 ≡ (data_bytes (geometry g)).0 + g.sector =
    ap (λ (x : ℕ). x * g.sector) n ∙ omega arith in
    record {
      positive = omega (arith, leb-true (384 * g.unit + 32) g.sector (nth 2));
      one = each_unit (λ w. 0 < w) (omega arith) (omega arith) (omega arith) (omega arith) g.unit (nth 0);
      whole = λ k. mul_assoc k (units_per_sector (geometry g)).0 g.unit ∙ ap (λ (x : ℕ). k * x) (sector_back (nth 1));
      long = elim [
        | slot0 ↦ eqb-true (length f.in0) (slot_bytes (geometry g)).0 (nth 6) ∙ e
        | slot1 ↦ eqb-true (length f.in1) (slot_bytes (geometry g)).0 (nth 7) ∙ e
        | scratch ↦ eqb-true (length f.in2) (scratch_bytes g).0 (nth 8) ∙ omega arith
      ];
    }
  where
    sector_back : eqb (g.sector % g.unit) 0 ≡ true → (bytes_in (geometry g) (units_per_sector (geometry g))).0 ≡ g.sector
    sector_back e = omega (arith, eqb-true (g.sector % g.unit) 0 e, div-add-mod' g.sector g.unit)

module _ (g : Build) (f : Flash) (taken : valid g f ≡ true) where
  -- a sector, and a unit, that lies before the last sector of its area is of its data; one that does not is not
  sector_in_data : (a : Area) (i : Sector) → (start_of (geometry g) i).0 + g.sector + g.sector ≤ length (area a f)
      → i.0 < data_sectors g a
  sector_in_data a i h =
      let z = sizes g f taken in
      lt_of_mul-lt-mul_right g.sector (omega (arith, z.positive, z.long a))

  unit_in_data : (a : Area) (u : Unit) → (place_of (geometry g) u).0 + g.unit + g.sector ≤ length (area a f)
      → u.0 < (first_unit (geometry g) (trailer_sector g a)).0
  unit_in_data a u h =
      let z = sizes g f taken in
      lt_of_mul-lt-mul_right g.unit (omega (arith, z.one, z.long a, z.whole (data_sectors g a)))

  sector_in_trailer : (a : Area) (i : Sector) → length (area a f) ≤ (start_of (geometry g) i).0 + g.sector → i.0 < data_sectors g a → ⊥
  sector_in_trailer a i h q =
      let z = sizes g f taken in
      omega (arith, z.positive, z.long a, mul-le-mul_right g.sector q)

  unit_in_trailer : (a : Area) (u : Unit) → length (area a f) ≤ (place_of (geometry g) u).0 + g.sector
      → u.0 < (first_unit (geometry g) (trailer_sector g a)).0 → ⊥
  unit_in_trailer a u h q =
      let z = sizes g f taken in
      omega (arith, z.one, z.long a, mul-le-mul_right g.unit q, z.whole (data_sectors g a))

  -- ---- data

  -- "A cut inside an erase of a data sector, scratch's included, leaves arbitrary bytes in that sector."
  pub torn_erase : (a : Area) (i : Sector) (bytes : List ℕ) → length bytes ≡ g.sector
      → (start_of (geometry g) i).0 + g.sector + g.sector ≤ length (area a f) → CanLeave g (erase a i) bytes f
  torn_erase a i bytes l h =
      stored g (erase a i) bytes f (omega arith) (half_erased bytes (sector_in_data a i h) l refl)

  -- "A cut inside a data unit leaves arbitrary bytes in that unit."
  pub torn_write : (a : Area) (u : Unit) (bs bytes : List ℕ) → length bytes ≡ g.unit
      → (place_of (geometry g) u).0 + g.unit + g.sector ≤ length (area a f) → CanLeave g (write a u bs) bytes f
  torn_write a u bs bytes l h =
      stored g (write a u bs) bytes f (omega arith) (half_written bytes (unit_in_data a u h) l refl)

  pub torn_copy : (b : Area) (v : Unit) (a : Area) (u : Unit) (bytes : List ℕ) → length bytes ≡ g.unit
      → (place_of (geometry g) u).0 + g.unit + g.sector ≤ length (area a f) → CanLeave g (copy b v a u) bytes f
  torn_copy b v a u bytes l h =
      stored g (copy b v a u) bytes f (omega arith) (half_copied bytes (unit_in_data a u h) l refl)

  -- ---- trailers

  -- "An operation on a trailer sector happens or does not": torn, it has not happened
  pub trailer_whole : (op : Op) → length (area (target op) f) ≤ begins g op + g.sector → {f' : Flash} → Torn g op f f' → f' ≡ f
  trailer_whole op h (as_before e) = e
  trailer_whole op h (half_erased {a} {i} bytes q l e) = absurd (sector_in_trailer a i h q)
  trailer_whole op h (half_written {a} {u} bytes q l e) = absurd (unit_in_trailer a u h q)
  trailer_whole op h (half_copied {a = a} {u = u} bytes q l e) = absurd (unit_in_trailer a u h q)

  -- so a cut finds it not done, or done
  pub happens_or_not : {op : Op} {ops : List Op} {f' : Flash} → length (area (target op) f) ≤ begins g op + g.sector
      → Cut g (op ∷ ops) f f' → (f' ≡ f) ⊎ Cut g ops (apply g op f) f'
  happens_or_not h (here {op} t) = inl (trailer_whole op h t)
  happens_or_not h (later c) = inr c

-- and both come: not done, of every operation; done, of every one but the list's last
pub not_done : (g : Build) (op : Op) (ops : List Op) (f : Flash) → Cut g (op ∷ ops) f f
not_done g op ops f = here (as_before refl)

pub done : (g : Build) (op next : Op) (ops : List Op) (f : Flash) → Cut g (op ∷ next ∷ ops) f (apply g op f)
done g op next ops f = later (not_done g next ops (apply g op f))

-- the last data unit of each area can be torn, and the first of its trailer sector cannot
pub last_unit_torn : (a : Area) (bs bytes : List ℕ) → length bytes ≡ 1 → CanLeave three (write a (last_data_unit a) bs) bytes all_erased
unfolding three base all_erased last_data_unit blank valid fits asked every
last_unit_torn a bs bytes l = torn_write three all_erased refl a (last_data_unit a) bs bytes l (room a)
  where
    room : (a : Area) → (last_data_unit a).0 * 1 + 1 + 416 ≤ length (area a all_erased)
    room slot0 = omega arith
    room slot1 = omega arith
    room scratch = omega arith

pub next_unit_whole : (a : Area) (bs : List ℕ) {f' : Flash} → Torn three (write a (next_unit (last_data_unit a)) bs) all_erased f'
    → f' ≡ all_erased
unfolding three base all_erased last_data_unit blank valid fits asked every
next_unit_whole a bs t = trailer_whole three all_erased refl (write a (next_unit (last_data_unit a)) bs) (room a) t
  where
    room : (a : Area) → length (area a all_erased) ≤ (next_unit (last_data_unit a)).0 * 1 + 416
    room slot0 = omega arith
    room slot1 = omega arith
    room scratch = omega arith
