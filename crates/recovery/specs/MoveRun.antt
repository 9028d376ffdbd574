-- What a move does, whole or stopped on the way, and what a whole exchange does to the sectors.
use Rattle.std.specs.Prelude.{◌≡◌, Bool, false}
use Rattle.std.proofs.Math.Path.{sym, ap, ap₂}
use Rattle.std.proofs.Common.{◌∙◌, zero-mul}
use mathlib.Core.List.{List, [], ◌∷◌, ◌++◌}
use Prim.Native.Nat.{ℕ, zero, suc, ◌+◌, ◌*◌, ◌≤◌, ◌<◌, min}
use Rattle.std.proofs.Math.Nat.{mul-le-mul_right, zero-min, min-zero, suc-min-suc}
use native.Mathlib.Omega.{arith}
use Rattle.std.proofs.Math.ListN.{length}
use Rattle.spans.specs.Bytes.{part, blank}
use Rattle.spans.specs.Laws.{length_blank, length_part, part_add}
use Rattle.flash.specs.declared.Sector.{Sector}
use Rattle.flash.specs.declared.Unit.{Unit}
use Rattle.flash.specs.Geometry.{first_unit, next_unit}
use Rattle.flash.specs.Build.{Area, slot0, scratch, Build, Move, Flash, area, geometry, data_sectors, trailer_sector}
use Rattle.flash.specs.Operations.{copy, store, apply, run, run_all}
use Rattle.flash.specs.AreaLaws.{length_store, store_again, store_join, store_nil}
use Rattle.trailer.specs.Trailer.{copy_done_at}
use Rattle.plan.specs.Lists.{erase_trailer, mark, progress, copies, move_ops, data_ops, lines_one_two, lines_three_to_six, exchange}
use Rattle.recovery.specs.All.{All, one_less}
use Rattle.recovery.specs.Cuts.{run_all_append, run_all_lem}
use Rattle.recovery.specs.Windows.{hidden_run, hidden_erase, wipe}
use Rattle.recovery.specs.Places.{Geo, Sized, per, per_back, unit_small, done_unit}
use Rattle.plan.specs.Lengths.{length_copies}
use Rattle.recovery.specs.Statement.{Proper, sector_of, same_sector}
use Rattle.recovery.specs.Hiding.{hidden_mark, hidden_begin, hidden_progress}
use Rattle.recovery.specs.Begin.{sized_run}
use Rattle.recovery.specs.Settling.{settling, settle_split, hidden_settling}
use Rattle.recovery.specs.Sectors.{moved1, moved, moved_same, read_apart, inside, sector_store, sector_same, sector_both}

module _ {g : Build} (geo : Geo g) (a b : Area) (i j : Sector) (e : same_sector b j a i ≡ false) where
  -- copies from byte o of one sector to byte o of another
  copies_run : (o : ℕ) (v u : Unit) (k : ℕ) (f : Flash) → v.0 * g.unit ≡ i.0 * g.sector + o
      → u.0 * g.unit ≡ j.0 * g.sector + o → o + k * g.unit ≤ g.sector → i.0 * g.sector + g.sector ≤ length (area a f)
      → run_all g (copies a v b u k) f ≡ store b (u.0 * g.unit) (part (area a f) (v.0 * g.unit) (k * g.unit)) f
  unfolding copies run_all apply part
  copies_run o v u zero f p q h l =
      let w : ℕ = g.unit in
      sym (ap (λ (n : ℕ). store b (u.0 * w) (part (area a f) (v.0 * w) n) f) (zero-mul w) ∙ store_nil b (u.0 * w) f)
  copies_run o v u (suc k) f p q h l =
      let w : ℕ = g.unit in
      let x : List ℕ = part (area a f) (v.0 * w) w in
      let f₁ : Flash = store b (u.0 * w) x f in
      let n : length x ≡ w = length_part (area a f) (v.0 * w) w (omega arith) in
      let p₁ : (v.0 + 1) * w ≡ i.0 * g.sector + (o + w) = omega arith in
      let p₂ : i.0 * g.sector + (o + w) ≡ v.0 * w + w = omega arith in
      let q₁ : (u.0 + 1) * w ≡ u.0 * w + length x = omega arith in
      let r : w + k * w ≡ suc k * w = omega arith in
      let y : part (area a f₁) ((v.0 + 1) * w) (k * w) ≡ part (area a f) (v.0 * w + w) (k * w) =
      ap₂ (λ (at to : ℕ). part (area a (store b to x f)) at (k * w)) p₁ q
      ∙ read_apart g.sector i j (o + w) (k * w) o x (omega arith) (omega arith) a b f e
      ∙ ap (λ (at : ℕ). part (area a f) at (k * w)) p₂ in
      copies_run (o + w) (next_unit v) (next_unit u) k f₁ (omega arith) (omega arith) (omega arith)
      (rw (length_store b a (u.0 * w) x f) l)
      ∙ ap₂ (λ (at : ℕ) (z : List ℕ). store b at z f₁) q₁ y
      ∙ store_join b (u.0 * w) x (part (area a f) (v.0 * w + w) (k * w)) f
      ∙ ap (λ (z : List ℕ). store b (u.0 * w) z f) (part_add (area a f) (v.0 * w) w (k * w) ∙ ap (part (area a f) (v.0 * w)) r)

-- the first n of k copies are the list of fewer
run_copies : (g : Build) (a : Area) (v : Unit) (b : Area) (u : Unit) (k n : ℕ) (f : Flash)
    → run g n (copies a v b u k) f ≡ run_all g (copies a v b u (min n k)) f
unfolding copies run run_all
run_copies g a v b u k zero f = rw (zero-min k)
run_copies g a v b u zero (suc n) f = rw (min-zero (suc n))
run_copies g a v b u (suc k) (suc n) f =
    rw (suc-min-suc n k) (run_copies g a (next_unit v) b (next_unit u) k n (apply g (copy a v b u) f))

module _ {g : Build} (geo : Geo g) where
  -- A move that is stopped: the target is erased, and the units that the allowance reached are copied, all at once.
  pub run_move : (m : Move) → Proper g m → (f : Flash) → Sized g m.from f → (n : ℕ)
      → run g (suc n) (move_ops g m) f
      ≡ store m.to (m.to_sector.0 * g.sector)
      (part (area m.from f) (m.from_sector.0 * g.sector) (min n (per g) * g.unit)) (wipe g m.to m.to_sector f)
  unfolding move_ops run apply
  run_move m ok f z n =
      let s : ℕ = g.sector in
      let a : Area = m.from in
      let b : Area = m.to in
      let i : Sector = m.from_sector in
      let j : Sector = m.to_sector in
      let k : ℕ = min n (per g) in
      let l : ℕ = k * g.unit in
      let f₁ : Flash = wipe g b j f in
      let h : l ≤ s = omega (arith, per_back geo, mul-le-mul_right {m = k} {n = per g} g.unit (omega arith)) in
      let pi : i.0 * per g * g.unit ≡ i.0 * s = omega (arith, ap (λ (x : ℕ). i.0 * x) (per_back geo)) in
      let pj : j.0 * per g * g.unit ≡ j.0 * s = omega (arith, ap (λ (x : ℕ). j.0 * x) (per_back geo)) in
      let i₀ : i.0 * s ≡ i.0 * s + 0 = omega arith in
      let j₀ : j.0 * s ≡ j.0 * s + 0 = omega arith in
      let x : part (area a f₁) (i.0 * s) l ≡ part (area a f) (i.0 * s) l =
      ap₂ (λ (at to : ℕ). part (area a (store b to (blank s) f)) at l) i₀ j₀
      ∙ read_apart s i j 0 l 0 (blank s) (omega arith) (omega (arith, length_blank s)) a b f ok.apart
      ∙ ap (λ (at : ℕ). part (area a f) at l) (sym i₀) in
      run_copies g a (first_unit (geometry g) i) b (first_unit (geometry g) j) (per g) n f₁
      ∙ copies_run geo a b i j ok.apart 0 (first_unit (geometry g) i) (first_unit (geometry g) j) k f₁ (omega arith) (omega arith)
      (omega arith) (rw (length_store b a (j.0 * s) (blank s) f) (inside geo a i f z ok.reads))
      ∙ ap₂ (λ (to : ℕ) (y : List ℕ). store b to y f₁) pj (ap (λ (at : ℕ). part (area a f₁) at l) pi ∙ x)

  -- a move that is not stopped
  move_is : (m : Move) → Proper g m → (f : Flash) → Sized g m.from f
      → run_all g (move_ops g m) f ≡ store m.to (m.to_sector.0 * g.sector) (sector_of g f m.from m.from_sector) f
  unfolding move_ops sector_of
  move_is m ok f z =
      let s : ℕ = g.sector in
      let at : ℕ = m.to_sector.0 * s in
      let xs : List ℕ = part (area m.from f) (m.from_sector.0 * s) s in
      let k : min (per g) (per g) * g.unit ≡ s =
      let e : min (per g) (per g) ≡ per g = omega arith in ap (λ (n : ℕ). n * g.unit) e ∙ per_back geo in
      sym (run_all_lem g (suc (per g)) (move_ops g m) f (simp length_copies (omega arith)))
      ∙ run_move m ok f z (per g)
      ∙ ap (λ (n : ℕ). store m.to at (part (area m.from f) (m.from_sector.0 * s) n) (wipe g m.to m.to_sector f)) k
      ∙ store_again m.to at (blank s) xs f
      (omega (
        arith,
        length_blank s,
        length_part (area m.from f) (m.from_sector.0 * s) s
            (inside geo m.from m.from_sector f z ok.reads),
      ))

  sector_move : (m : Move) → Proper g m → (f : Flash) → ((a : Area) → Sized g a f) → (b : Area) (k : Sector)
      → sector_of g (run_all g (move_ops g m) f) b k ≡ moved1 m (sector_of g f) b k
  unfolding moved1 sector_of
  sector_move m ok f z b k =
      ap (λ (x : Flash). sector_of g x b k) (move_is m ok f (z m.from))
      ∙ sector_store geo m.to b m.to_sector k (sector_of g f m.from m.from_sector) f
      (length_part (area m.from f) (m.from_sector.0 * g.sector) g.sector
      (inside geo m.from m.from_sector f (z m.from) ok.reads)) (z m.to) ok.writes

  -- a move with its mark, and the trailer exchange
  pub sector_step : (m : Move) → Proper g m → (c : ℕ) (f : Flash) → c < 3 * g.sectors → ((a : Area) → Sized g a f)
      → (b : Area) (k : Sector) → k.0 < data_sectors g b
      → sector_of g (apply g (progress g c) (run_all g (move_ops g m) f)) b k ≡ moved1 m (sector_of g f) b k
  sector_step m ok c f p z b k h =
      let f₁ : Flash = run_all g (move_ops g m) f in
      sector_same geo slot0 b k (apply g (progress g c) f₁) f₁ h ((hidden_progress geo c p).done f₁) ∙ sector_move m ok f z b k

  pub sector_settled : (p : Bool) (f : Flash) (b : Area) (k : Sector) → k.0 < data_sectors g b
      → sector_of g (run_all g (lines_three_to_six g p) (run_all g (lines_one_two g p) f)) b k ≡ sector_of g f b k
  sector_settled p f b k h =
      let f₁ : Flash = run_all g (lines_one_two g p) f in
      let f₂ : Flash = run_all g (settling g p) f₁ in
      ap (λ (x : Flash). sector_of g x b k) (settle_split g p f₁)
      ∙ sector_same geo scratch b k (apply g (erase_trailer g scratch) f₂) f₂ h ((hidden_erase g scratch (trailer_sector g scratch)).done f₂)
      ∙ sector_both geo b k f₂ f₁ h (hidden_run (hidden_settling geo p) f₁)
      ∙ sector_same geo scratch b k f₁ f h (hidden_run (hidden_begin geo p) f)

  sector_data : (ms : List Move) (c : ℕ) (f : Flash) → All (Proper g) ms → c + length ms ≤ 3 * g.sectors
      → ((a : Area) → Sized g a f)
      → (b : Area) (k : Sector) → k.0 < data_sectors g b
      → sector_of g (run_all g (data_ops g c ms) f) b k ≡ moved ms (sector_of g f) b k
  unfolding data_ops moved run_all
  sector_data [] c f ok l z b k h =
      sector_same geo slot0 b k (apply g (mark g slot0 (copy_done_at g) 1) f) f h
      ((hidden_mark geo slot0 (copy_done_at g) 1 (done_unit geo) (omega (arith, unit_small geo))).done f)
  sector_data (m ∷ ms) c f ok l z b k h =
      let f₁ : Flash = run_all g (move_ops g m) f in
      let f₂ : Flash = apply g (progress g c) f₁ in
      let z₂ : (a : Area) → Sized g a f₂ = λ a. sized_run g a (progress g c ∷ []) f₁ (sized_run g a (move_ops g m) f (z a)) in
      ap (λ (x : Flash). sector_of g x b k) (run_all_append g (move_ops g m) (progress g c ∷ data_ops g (suc c) ms) f)
      ∙ sector_data ms (suc c) f₂ (one_less ok).1 (omega arith) z₂ b k h
      ∙ moved_same g ms (one_less ok).1 (sector_of g f₂) (moved1 m (sector_of g f))
      (sector_step m (one_less ok).0 c f (omega arith) z) b k h

  -- a whole exchange does to the sectors what its moves do
  pub sector_exchange : (p : Bool) (f : Flash) → All (Proper g) g.moves → 3 + length g.moves ≤ 3 * g.sectors
      → ((a : Area) → Sized g a f) → (b : Area) (k : Sector) → k.0 < data_sectors g b
      → sector_of g (run_all g (exchange g p) f) b k ≡ moved g.moves (sector_of g f) b k
  unfolding exchange
  sector_exchange p f ok l z b k h =
      let f₁ : Flash = run_all g (lines_one_two g p) f in
      let f₃ : Flash = run_all g (lines_three_to_six g p) f₁ in
      let z₃ : (a : Area) → Sized g a f₃ = λ a. sized_run g a (lines_three_to_six g p) f₁ (sized_run g a (lines_one_two g p) f (z a)) in
      ap (λ (x : Flash). sector_of g x b k) (run_all_append g (lines_one_two g p) (lines_three_to_six g p ++ data_ops g 3 g.moves) f
      ∙ run_all_append g (lines_three_to_six g p) (data_ops g 3 g.moves) f₁)
      ∙ sector_data g.moves 3 f₃ ok l z₃ b k h
      ∙ moved_same g g.moves ok (sector_of g f₃) (sector_of g f) (sector_settled p f) b k h
