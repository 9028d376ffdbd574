-- Where things stand in a valid geometry, and what a trailer sector holds after an operation.
use Rattle.std.specs.Prelude.{◌≡◌, take, drop}
use Rattle.std.proofs.Math.Path.{sym, ap}
use Rattle.std.proofs.Common.{◌∙◌, le_of_mul-le-mul_right, add-zero, arith, take-append-drop}
use mathlib.Core.List.{List, [], ◌∷◌}
use Prim.Native.Nat.{ℕ, zero, suc, ◌+◌, ◌*◌, ◌-◌, ◌≤◌, ◌<◌}
use Rattle.std.specs.Int.{◌∣◌}
use Rattle.std.proofs.Math.Nat.{dvd-add, dvd-sub, dvd-mul_left, dvd-mul_left_of_dvd, div-mul_cancel, le_of_dvd}
use Rattle.std.proofs.Math.ListN.{length, length-take, length-drop}
use Rattle.spans.specs.Bytes.{put, blank}
use Rattle.spans.specs.Laws.{put_all, drop_put, drop_put_after, length_blank}
use Rattle.flash.specs.declared.Unit.{Unit}
use Rattle.flash.specs.declared.Offset.{Offset}
use Rattle.flash.specs.Geometry.{units_per_sector, next_unit, unit_count, start_of, place_of, bytes_in, first_unit}
use Rattle.flash.specs.Build.{Area, Build, Flash, area, geometry, data_sectors, trailer_sector}
use Rattle.flash.specs.Operations.{write, store, apply, run_all}
use Rattle.flash.specs.Harm.{Torn, as_before, half_erased, half_written}
use Rattle.flash.specs.AreaLaws.{same_area_lem, unseen, area_store, store_nil, store_join}
use Rattle.trailer.specs.Trailer.{magic_bytes, trailer, magic_at, ok_at, copy_done_at, mark_at, mark_bytes, magic_units}
use Rattle.plan.specs.Lists.{trailer_unit, erase_trailer, mark, writes, magic_ops}

-- what a valid geometry gives
pub record Geo (g : Build) : Type 0 where
  pub positive : 0 < g.unit
  pub eight : g.unit ∣ 8
  pub whole : g.unit ∣ g.sector
  pub room : 3 * g.sectors * g.unit + 32 ≤ g.sector
  pub two : 2 ≤ g.sectors

-- the units of a sector
abbrev pub per : Build → ℕ
per g = (units_per_sector (geometry g)).0

-- an area's trailer sector is there
abbrev pub Sized : Build → Area → Flash → Type 0
Sized g a f = length (trailer g a f) ≡ g.sector

module _ (g : Build) where
  pub trailer_store : (a : Area) (o : ℕ) (bs : List ℕ) (f : Flash)
      → trailer g a (store a ((start_of (geometry g) (trailer_sector g a)).0 + o) bs f) ≡ put (trailer g a f) o bs
  unfolding trailer
  trailer_store a o bs f =
      ap (drop (start_of (geometry g) (trailer_sector g a)).0) (area_store a ((start_of (geometry g) (trailer_sector g a)).0 + o) bs f)
      ∙ drop_put (area a f) (start_of (geometry g) (trailer_sector g a)).0 o bs

  -- a store among the data shows in no trailer
  pub trailer_data : (a b : Area) (at : ℕ) (bs : List ℕ) (f : Flash) → at + length bs ≤ (start_of (geometry g) (trailer_sector g a)).0
      → trailer g b (store a at bs f) ≡ trailer g b f
  unfolding trailer
  trailer_data a b at bs f h =
      unseen (drop (start_of (geometry g) (trailer_sector g b)).0) a b at bs f (λ e.
      drop_put_after (area b f) (start_of (geometry g) (trailer_sector g b)).0 at bs (rw (← (same_area_lem a b e)) h))

  -- bytes written unit by unit
  pub writes_all : (a : Area) (u : Unit) (k : ℕ) (bs : List ℕ) (f : Flash) → length bs ≡ (bytes_in (geometry g) (unit_count k)).0
      → run_all g (writes g a u k bs) f ≡ store a (place_of (geometry g) u).0 bs f
  unfolding writes run_all apply
  writes_all a u zero [] f e = sym (store_nil a (place_of (geometry g) u).0 f)
  writes_all a u zero (b ∷ bs) f e = absurd (omega arith)
  writes_all a u (suc k) bs f e =
      let n : (place_of (geometry g) (next_unit u)).0 ≡ (place_of (geometry g) u).0 + length (take g.unit bs) = simp length-take (omega arith) in
      let f₁ : Flash = store a (place_of (geometry g) u).0 (take g.unit bs) f in
      writes_all a (next_unit u) k (drop g.unit bs) f₁ (simp length-drop (omega arith))
      ∙ ap (λ (x : ℕ). store a x (drop g.unit bs) f₁) n
      ∙ store_join a (place_of (geometry g) u).0 (take g.unit bs) (drop g.unit bs) f
      ∙ ap (λ (x : List ℕ). store a (place_of (geometry g) u).0 x f) (take-append-drop g.unit bs)

module _ {g : Build} (geo : Geo g) where
  pub unit_back : (a : Area) (at : Offset) → g.unit ∣ at.0
      → (place_of (geometry g) (trailer_unit g a at)).0 ≡ (start_of (geometry g) (trailer_sector g a)).0 + at.0
  unit_back a at h = div-mul_cancel g.unit (dvd-add g.unit (dvd-mul_left_of_dvd g.unit geo.whole (data_sectors g a)) h)

  pub per_back : (bytes_in (geometry g) (units_per_sector (geometry g))).0 ≡ g.sector
  per_back = div-mul_cancel g.unit geo.whole

  pub unit_small : g.unit ≤ 8
  unit_small = le_of_dvd (omega arith) geo.eight

  -- the places are units
  pub magic_unit : g.unit ∣ (magic_at g).0
  magic_unit = dvd-sub g.unit geo.whole (dvd-mul_left_of_dvd g.unit geo.eight 2)

  pub ok_unit : g.unit ∣ (ok_at g).0
  ok_unit = dvd-sub g.unit geo.whole (dvd-mul_left_of_dvd g.unit geo.eight 3)

  pub done_unit : g.unit ∣ (copy_done_at g).0
  done_unit = dvd-sub g.unit geo.whole (dvd-mul_left_of_dvd g.unit geo.eight 4)

  pub mark_unit : (k : ℕ) → g.unit ∣ (mark_at g k).0
  mark_unit k =
      dvd-add g.unit (dvd-sub g.unit done_unit (dvd-mul_left g.unit (3 * g.sectors))) (dvd-mul_left g.unit k)

  pub length_mark : (v : ℕ) → length (mark_bytes g v) ≡ g.unit
  unfolding mark_bytes
  length_mark v = omega (arith, length_blank (g.unit - 1), geo.positive)

  pub magic_units_lem : (bytes_in (geometry g) (magic_units (geometry g))).0 ≡ 16
  magic_units_lem = div-mul_cancel g.unit (dvd-mul_left_of_dvd g.unit geo.eight 2)

  -- an operation on a trailer sector happens or does not
  pub clear_whole : (a : Area) {f f' : Flash} → Torn g (erase_trailer g a) f f' → f' ≡ f
  clear_whole a (as_before e) = e
  clear_whole a (half_erased bs q l e) = absurd (omega arith)

  pub write_whole : (a : Area) (o : ℕ) (u : Unit) → (place_of (geometry g) u).0 ≡ (start_of (geometry g) (trailer_sector g a)).0 + o
      → {bs : List ℕ} {f f' : Flash} → Torn g (write a u bs) f f' → f' ≡ f
  write_whole a o u h (as_before e) = e
  write_whole a o u h (half_written bs q l e) =
      let k : (place_of (geometry g) (first_unit (geometry g) (trailer_sector g a))).0 ≤ (place_of (geometry g) u).0 =
      omega (arith, ap (λ (x : ℕ). data_sectors g a * x) per_back) in
      let m : (first_unit (geometry g) (trailer_sector g a)).0 ≤ u.0 = le_of_mul-le-mul_right k geo.positive in
      absurd (omega arith)

  pub mark_whole : (a : Area) (at : Offset) (v : ℕ) → g.unit ∣ at.0 → {f f' : Flash} → Torn g (mark g a at v) f f' → f' ≡ f
  mark_whole a at v d = write_whole a at.0 (trailer_unit g a at) (unit_back a at d)

  -- and what the trailer sectors then hold
  pub trailer_clear : (a : Area) (f : Flash) → Sized g a f → trailer g a (apply g (erase_trailer g a) f) ≡ blank g.sector
  unfolding apply
  trailer_clear a f h =
      ap (λ (x : ℕ). trailer g a (store a x (blank g.sector) f)) (sym (add-zero (start_of (geometry g) (trailer_sector g a)).0))
      ∙ trailer_store g a 0 (blank g.sector) f
      ∙ put_all (trailer g a f) (blank g.sector) (h ∙ sym (length_blank g.sector))

  pub trailer_mark : (a : Area) (at : Offset) (v : ℕ) (f : Flash) → g.unit ∣ at.0
      → trailer g a (apply g (mark g a at v) f) ≡ put (trailer g a f) at.0 (mark_bytes g v)
  unfolding apply
  trailer_mark a at v f h =
      ap (λ (x : ℕ). trailer g a (store a x (mark_bytes g v) f)) (unit_back a at h)
      ∙ trailer_store g a at.0 (mark_bytes g v) f

  pub trailer_magic : (a : Area) (f : Flash)
      → trailer g a (run_all g (magic_ops g a) f) ≡ put (trailer g a f) (magic_at g).0 magic_bytes
  unfolding magic_ops magic_bytes
  trailer_magic a f =
      ap (trailer g a) (writes_all g a (trailer_unit g a (magic_at g)) (magic_units (geometry g)).0 magic_bytes f (sym magic_units_lem))
      ∙ ap (λ (x : ℕ). trailer g a (store a x magic_bytes f)) (unit_back a (magic_at g) magic_unit)
      ∙ trailer_store g a (magic_at g).0 magic_bytes f
