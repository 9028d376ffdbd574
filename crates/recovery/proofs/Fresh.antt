-- Lists of operations that write no unit but erased ones: the parts of an exchange.
use Rattle.std.specs.Prelude.{◌≡◌, Bool, length, take, drop}
use Rattle.std.proofs.Math.Path.{refl, ap}
use Rattle.std.proofs.Common.{sym, ap₂, ◌∙◌, add-zero, drop-drop}
use mathlib.Core.List.{List, [], ◌∷◌, ◌++◌}
use Rattle.std.proofs.Math.Bool.{true, false}
use Prim.Native.Nat.{ℕ, zero, suc, ◌+◌, ◌*◌, ◌≤◌, ◌<◌}
use Rattle.std.specs.Int.{◌∣◌}
use native.Mathlib.Omega.{arith}
use Rattle.std.proofs.Math.ListN.{length-take}
use Rattle.spans.specs.Bytes.{part, blank}
use Rattle.spans.specs.Laws.{length_blank, part_blank, part_put, part_put_after, blank_within}
use Rattle.flash.specs.declared.Sector.{Sector}
use Rattle.flash.specs.declared.Unit.{Unit}
use Rattle.flash.specs.declared.Offset.{Offset}
use Rattle.flash.specs.Geometry.{first_unit, next_unit, unit_count, start_of, place_of, bytes_in}
use Rattle.flash.specs.Build.{Area, slot0, slot1, scratch, Build, Move, Flash, area, geometry, data_sectors, trailer_sector}
use Rattle.flash.specs.Operations.{Op, erase, write, copy, store, unit_of, apply, run_all}
use Rattle.flash.specs.AreaLaws.{area_store}
use Rattle.trailer.specs.Trailer.{magic_bytes, trailer, magic_at, ok_at, copy_done_at, mark_at, mark_bytes, magic_units}
use Rattle.plan.specs.Lists.{trailer_unit, erase_trailer, mark, progress, writes, magic_ops, ok_ops, lines_one_two, lines_three_to_six, copies, move_ops, data_ops, exchange}
use Rattle.recovery.specs.All.{All, one_less}
use Rattle.recovery.specs.Windows.{wipe, hidden_run}
use Rattle.recovery.specs.Places.{Geo, Sized, per, per_back, unit_back, unit_small, magic_unit, magic_units_lem, ok_unit, done_unit, mark_unit, length_mark, trailer_clear, trailer_mark}
use Rattle.recovery.specs.Reading.{Free, Marked, mark_room, free_mark}
use Rattle.recovery.specs.Statement.{Sound, Proper}
use Rattle.recovery.specs.Hiding.{hidden_move}
use Rattle.recovery.specs.Begin.{with_ok, trailer_ok, sized_run}
use Rattle.recovery.specs.Settling.{Under, marked_ok, marked_progress, three_marks, settled}
use Rattle.recovery.specs.Moving.{same_trailer}
use Rattle.recovery.specs.Sectors.{inside}

-- each unit that the operations write is erased when its turn comes
pub data Fresh (g : Build) : List Op → Flash → Type 0 where
  end : {f : Flash} → Fresh g [] f
  erasing : {a : Area} {i : Sector} {ops : List Op} {f : Flash} → Fresh g ops (apply g (erase a i) f) → Fresh g (erase a i ∷ ops) f
  writing : {a : Area} {u : Unit} {bs : List ℕ} {ops : List Op} {f : Flash} → unit_of g a u f ≡ blank g.unit
      → Fresh g ops (apply g (write a u bs) f) → Fresh g (write a u bs ∷ ops) f
  copying : {b a : Area} {v u : Unit} {ops : List Op} {f : Flash} → unit_of g a u f ≡ blank g.unit
      → Fresh g ops (apply g (copy b v a u) f) → Fresh g (copy b v a u ∷ ops) f

pub fresh_append : {g : Build} (xs ys : List Op) {f : Flash} → Fresh g xs f → Fresh g ys (run_all g xs f) → Fresh g (xs ++ ys) f
unfolding run_all
fresh_append [] ys end q = q
fresh_append (x ∷ xs) ys (erasing p) q = erasing (fresh_append xs ys p q)
fresh_append (x ∷ xs) ys (writing e p) q = writing e (fresh_append xs ys p q)
fresh_append (x ∷ xs) ys (copying e p) q = copying e (fresh_append xs ys p q)

-- ---- units in rising order

module _ (g : Build) (a : Area) where
  -- k units from u on are erased
  abbrev Blank : Unit → ℕ → Flash → Type 0
  Blank u k f = part (area a f) (place_of (geometry g) u).0 (bytes_in (geometry g) (unit_count k)).0 ≡ blank (bytes_in (geometry g) (unit_count k)).0

  -- the first of them, and the others once it is written
  module _ (u : Unit) (k : ℕ) (f : Flash) (e : Blank u (suc k) f) where
    first_unit_lem : unit_of g a u f ≡ blank g.unit
    first_unit_lem = ap (λ (at : ℕ). part (area a f) at g.unit) (sym (add-zero (u.0 * g.unit)))
        ∙ blank_within (area a f) (u.0 * g.unit) (suc k * g.unit) 0 g.unit e (omega arith)

    other_units : (bs : List ℕ) → length bs ≤ g.unit → Blank (next_unit u) k (store a (u.0 * g.unit) bs f)
    other_units bs h =
        let at : ℕ = u.0 * g.unit in
        let n : (u.0 + 1) * g.unit ≡ at + g.unit = omega arith in
        ap₂ (λ (xs : List ℕ) (o : ℕ). part xs o (k * g.unit)) (area_store a at bs f) n
        ∙ part_put_after (area a f) at bs (at + g.unit) (k * g.unit) (omega arith)
        ∙ blank_within (area a f) at (suc k * g.unit) g.unit (k * g.unit) e (omega arith)

  fresh_writes : (u : Unit) (k : ℕ) (bs : List ℕ) (f : Flash) → Blank u k f → Fresh g (writes g a u k bs) f
  unfolding writes apply
  fresh_writes u zero bs f e = end
  fresh_writes u (suc k) bs f e =
      writing (first_unit_lem u k f e)
      (fresh_writes (next_unit u) k (drop g.unit bs) (store a (u.0 * g.unit) (take g.unit bs) f)
      (other_units u k f e (take g.unit bs) (simp length-take (omega arith))))

  fresh_copies : (b : Area) (v u : Unit) (k : ℕ) (f : Flash) → Blank u k f → Fresh g (copies b v a u k) f
  unfolding copies apply part
  fresh_copies b v u zero f e = end
  fresh_copies b v u (suc k) f e =
      copying (first_unit_lem u k f e)
      (fresh_copies b (next_unit v) (next_unit u) k (store a (u.0 * g.unit) (unit_of g b v f) f)
      (other_units u k f e (unit_of g b v f) (simp length-take (omega arith))))

-- ---- trailer sectors

trailer_part : (g : Build) (a : Area) (f : Flash) (u : Unit) (o l : ℕ)
    → (place_of (geometry g) u).0 ≡ (start_of (geometry g) (trailer_sector g a)).0 + o
    → part (area a f) (place_of (geometry g) u).0 l ≡ part (trailer g a f) o l
unfolding part trailer
trailer_part g a f u o l e =
    ap (λ (n : ℕ). take l (drop n (area a f))) e ∙ ap (take l) (sym (drop-drop o (start_of (geometry g) (trailer_sector g a)).0 (area a f)))

module _ {g : Build} (geo : Geo g) where
  fresh_mark : (a : Area) (at : Offset) (v : ℕ) {ops : List Op} (f : Flash) → g.unit ∣ at.0
      → part (trailer g a f) at.0 g.unit ≡ blank g.unit → Fresh g ops (apply g (mark g a at v) f)
      → Fresh g (mark g a at v ∷ ops) f
  fresh_mark a at v f d e p = writing (trailer_part g a f (trailer_unit g a at) at.0 g.unit (unit_back geo a at d) ∙ e) p

  pub fresh_ok : (a : Area) (p : Bool) (f : Flash) → (p ≡ true → part (trailer g a f) (ok_at g).0 g.unit ≡ blank g.unit)
      → Fresh g (ok_ops g a p) f
  unfolding ok_ops
  fresh_ok a true f e = fresh_mark a (ok_at g) 1 f (ok_unit geo) (e refl) end
  fresh_ok a false f e = end

  pub fresh_magic : (a : Area) (f : Flash) → part (trailer g a f) (magic_at g).0 16 ≡ blank 16 → Fresh g (magic_ops g a) f
  unfolding magic_ops
  fresh_magic a f e =
      let u : Unit = trailer_unit g a (magic_at g) in
      fresh_writes g a u (magic_units (geometry g)).0 magic_bytes f
      (trailer_part g a f u (magic_at g).0 (bytes_in (geometry g) (magic_units (geometry g))).0 (unit_back geo a (magic_at g) (magic_unit geo))
      ∙ rw (magic_units_lem geo) e)

  -- image ok and marks leave the place of the magic as it is, and erased
  pub magic_behind_ok : (p : Bool) (t : List ℕ) → part (with_ok g p t) (magic_at g).0 16 ≡ part t (magic_at g).0 16
  unfolding with_ok
  magic_behind_ok true t =
      part_put_after t (ok_at g).0 (mark_bytes g 1) (magic_at g).0 16 (omega (arith, length_mark geo 1, unit_small geo, geo.room))
  magic_behind_ok false t = refl

  tail_ok : (p : Bool) → part (with_ok g p (blank g.sector)) (magic_at g).0 16 ≡ blank 16
  tail_ok p = magic_behind_ok p (blank g.sector) ∙ part_blank g.sector (magic_at g).0 16 (omega arith)

  tail_progress : (c : ℕ) (f : Flash) → c < 3 * g.sectors → part (trailer g slot0 f) (magic_at g).0 16 ≡ blank 16
      → part (trailer g slot0 (apply g (progress g c) f)) (magic_at g).0 16 ≡ blank 16
  tail_progress c f h e =
      ap (λ (t : List ℕ). part t (magic_at g).0 16) (trailer_mark geo slot0 (mark_at g c) (g.value c) f (mark_unit geo c))
      ∙ part_put_after (trailer g slot0 f) (mark_at g c).0 (mark_bytes g (g.value c)) (magic_at g).0 16
      (omega (arith, length_mark geo (g.value c), mark_room geo h)) ∙ e

  ok_blank : part (blank g.sector) (ok_at g).0 g.unit ≡ blank g.unit
  ok_blank = part_blank g.sector (ok_at g).0 g.unit (omega (arith, unit_small geo))

  fresh_begin : (p : Bool) (f : Flash) → Sized g scratch f → Fresh g (lines_one_two g p) f
  unfolding lines_one_two
  fresh_begin p f z =
      let f₁ : Flash = apply g (erase_trailer g scratch) f in
      let t : trailer g scratch f₁ ≡ blank g.sector = trailer_clear geo scratch f z in
      erasing (fresh_append (ok_ops g scratch p) (magic_ops g scratch) (fresh_ok scratch p f₁ (λ q. rw t ok_blank))
      (fresh_magic scratch (run_all g (ok_ops g scratch p) f₁) (rw (trailer_ok geo scratch p f₁, t) (tail_ok p))))

  fresh_settle : (p : Bool) (f : Flash) → Sized g slot0 f → Fresh g (lines_three_to_six g p) f
  unfolding lines_three_to_six apply trailer run_all
  fresh_settle p f z =
      let f₁ : Flash = apply g (erase_trailer g slot0) (apply g (erase_trailer g slot1) f) in
      let t : trailer g slot0 f₁ ≡ blank g.sector = trailer_clear geo slot0 (apply g (erase_trailer g slot1) f) z in
      let f₂ : Flash = run_all g (ok_ops g slot0 p) f₁ in
      let f₃ : Flash = apply g (progress g 0) f₂ in
      let f₄ : Flash = apply g (progress g 1) f₃ in
      let f₅ : Flash = apply g (progress g 2) f₄ in
      let h₀ : 0 < 3 * g.sectors = omega (arith, three_marks geo) in
      let h₁ : 1 < 3 * g.sectors = omega (arith, three_marks geo) in
      let h₂ : 2 < 3 * g.sectors = omega (arith, three_marks geo) in
      let m₂ : Marked g 0 (trailer g slot0 f₂) = rw (trailer_ok geo slot0 p f₁, t) (marked_ok geo p) in
      let m₃ : Marked g 1 (trailer g slot0 f₃) = marked_progress geo f₂ h₀ m₂ in
      let m₄ : Marked g 2 (trailer g slot0 f₄) = marked_progress geo f₃ h₁ m₃ in
      let e : part (trailer g slot0 f₂) (magic_at g).0 16 ≡ blank 16 = rw (trailer_ok geo slot0 p f₁, t) (tail_ok p) in
      let e₅ : part (trailer g slot0 f₅) (magic_at g).0 16 ≡ blank 16 =
      tail_progress 2 f₄ h₂ (tail_progress 1 f₃ h₁ (tail_progress 0 f₂ h₀ e)) in
      let marks : List Op = progress g 0 ∷ progress g 1 ∷ progress g 2 ∷ magic_ops g slot0 in
      erasing (erasing (fresh_append (ok_ops g slot0 p ++ marks) (erase_trailer g scratch ∷ [])
      (fresh_append (ok_ops g slot0 p) marks (fresh_ok slot0 p f₁ (λ q. rw t ok_blank))
      (fresh_mark slot0 (mark_at g 0) (g.value 0) f₂ (mark_unit geo 0) (m₂.free.after 0 (omega arith) h₀)
      (fresh_mark slot0 (mark_at g 1) (g.value 1) f₃ (mark_unit geo 1) (m₃.free.after 1 (omega arith) h₁)
      (fresh_mark slot0 (mark_at g 2) (g.value 2) f₄ (mark_unit geo 2) (m₄.free.after 2 (omega arith) h₂)
      (fresh_magic slot0 f₅ e₅)))))
      (erasing end)))

  -- ---- moves

  fresh_move : (m : Move) (f : Flash) → m.to_sector.0 < data_sectors g m.to → Sized g m.to f → Fresh g (move_ops g m) f
  unfolding move_ops apply
  fresh_move m f h z =
      let s : ℕ = g.sector in
      let j : Sector = m.to_sector in
      let pj : j.0 * per g * g.unit ≡ j.0 * s = omega (arith, ap (λ (x : ℕ). j.0 * x) (per_back geo)) in
      erasing (fresh_copies g m.to m.from (first_unit (geometry g) m.from_sector) (first_unit (geometry g) j) (per g)
      (wipe g m.to j f)
      (rw (pj, per_back geo) (ap (λ (xs : List ℕ). part xs (j.0 * s) s) (area_store m.to (j.0 * s) (blank s) f)
      ∙ part_put (area m.to f) (j.0 * s) (blank s) s (length_blank s) (inside geo m.to j f z h))))

  pub fresh_data : (ms : List Move) (c : ℕ) (f : Flash) → All (Proper g) ms → c + length ms ≤ 3 * g.sectors
      → ((a : Area) → Sized g a f) → Free g c (trailer g slot0 f) → Fresh g (data_ops g c ms) f
  unfolding data_ops run_all
  fresh_data [] c f ok l z r = fresh_mark slot0 (copy_done_at g) 1 f (done_unit geo) r.done end
  fresh_data (m ∷ ms) c f ok l z r =
      let h : m.to_sector.0 < data_sectors g m.to = (one_less ok).0.writes in
      let f₁ : Flash = run_all g (move_ops g m) f in
      let p : c < 3 * g.sectors = omega arith in
      let r₁ : Free g c (trailer g slot0 f₁) = rw (same_trailer geo m.to slot0 f₁ f h (hidden_run (hidden_move geo m) f)) r in
      let z₁ : (a : Area) → Sized g a f₁ = λ a. sized_run g a (move_ops g m) f (z a) in
      fresh_append (move_ops g m) (progress g c ∷ data_ops g (suc c) ms) (fresh_move m f h (z m.to))
      (fresh_mark slot0 (mark_at g c) (g.value c) f₁ (mark_unit geo c) (r₁.after c (omega arith) p)
      (fresh_data ms (suc c) (apply g (progress g c) f₁) (one_less ok).1 (omega arith)
      (λ a. sized_run g a (progress g c ∷ []) f₁ (z₁ a))
      (rw (trailer_mark geo slot0 (mark_at g c) (g.value c) f₁ (mark_unit geo c)) (free_mark geo p r₁))))

  -- ---- an exchange, from its third line and from its first

  module _ (sound : Sound g) where
    pub fresh_rest : (p : Bool) (f : Flash) → ((a : Area) → Sized g a f) → Fresh g (lines_three_to_six g p ++ data_ops g 3 g.moves) f
    fresh_rest p f z =
        let u : Under g 3 (run_all g (lines_three_to_six g p) f) = settled geo p f (z slot0) (z scratch) in
        fresh_append (lines_three_to_six g p) (data_ops g 3 g.moves) (fresh_settle p f (z slot0))
        (fresh_data g.moves 3 (run_all g (lines_three_to_six g p) f) sound.proper sound.places
        (λ a. sized_run g a (lines_three_to_six g p) f (z a))
        u.marked.free)

    pub fresh_exchange : (p : Bool) (f : Flash) → ((a : Area) → Sized g a f) → Fresh g (exchange g p) f
    unfolding exchange
    fresh_exchange p f z = fresh_append (lines_one_two g p) (lines_three_to_six g p ++ data_ops g 3 g.moves) (fresh_begin p f (z scratch))
        (fresh_rest p (run_all g (lines_one_two g p) f) (λ a. sized_run g a (lines_one_two g p) f (z a)))
