-- Sectors as wholes: what stands in which, after a store, and after a list of moves.
use Rattle.std.specs.Prelude.{◌≡◌, List, [], ◌∷◌, ◌++◌, Bool, true, false, ◌&&◌, length, eqb, ltb}
use Rattle.std.proofs.Math.Path.{refl, sym, ap, ap₂}
use Rattle.std.proofs.Common.{◌∙◌, length-drop, eqb-true, ne_eqb, ltb-true, ltb-false}
use Prim.Native.Nat.{ℕ, suc, ◌+◌, ◌*◌, ◌≤◌, ◌<◌}
use Rattle.std.proofs.Math.Nat.{mul-le-mul_right}
use Rattle.std.proofs.Math.Numerals.{lt_of_le_of_ne}
use native.Mathlib.Omega.{arith}
use Rattle.std.proofs.lemmas.Bool.{eqb-false}
use Rattle.spans.specs.Bytes.{part, put, blank}
use Rattle.spans.specs.Choice.{pick, both}
use Rattle.spans.specs.Laws.{length_blank, part_put, part_put_before, part_put_after}
use Rattle.flash.specs.Geometry.{start_of}
use Rattle.flash.specs.declared.Sector.{Sector}
use Rattle.flash.specs.Build.{Area, slot0, slot1, Build, Move, Flash, area, same_area, data_sectors, trailer_sector, geometry}
use Rattle.flash.specs.Operations.{store}
use Rattle.flash.specs.AreaLaws.{same_area_lem, unseen, area_store}
use Rattle.trailer.specs.Trailer.{trailer}
use Rattle.recovery.specs.All.{All, one_less}
use Rattle.recovery.specs.Windows.{wipe}
use Rattle.recovery.specs.Places.{Geo, Sized}
use Rattle.recovery.specs.Statement.{Proper, sector_of, same_sector}
use Rattle.recovery.specs.Hiding.{wipe_trailer}
use Rattle.recovery.specs.Settling.{wipe_both}

-- ---- moves of whole sectors

-- what stands where: the bytes of each sector of each area
abbrev pub Contents : Type 0
Contents = Area → Sector → List ℕ

unfoldable pub moved1 : Move → Contents → Contents
moved1 m σ b k = pick (same_sector m.to m.to_sector b k) (σ m.from m.from_sector) (σ b k)

unfoldable pub moved : List Move → Contents → Contents
moved [] σ = σ
moved (m ∷ ms) σ = moved ms (moved1 m σ)

pub moved_append : (xs ys : List Move) (σ : Contents) → moved (xs ++ ys) σ ≡ moved ys (moved xs σ)
unfolding moved
moved_append [] ys σ = refl
moved_append (x ∷ xs) ys σ = moved_append xs ys (moved1 x σ)

-- moves between data sectors see data sectors alone
pub moved_same : (g : Build) (ms : List Move) → All (Proper g) ms → (σ τ : Contents)
    → ((b : Area) (k : Sector) → k.0 < data_sectors g b → σ b k ≡ τ b k)
    → (b : Area) (k : Sector) → k.0 < data_sectors g b → moved ms σ b k ≡ moved ms τ b k
unfolding moved moved1
moved_same g [] ok σ τ e = e
moved_same g (m ∷ ms) ok σ τ e = moved_same g ms (one_less ok).1 (moved1 m σ) (moved1 m τ)
    (λ b k h. ap₂ (pick (same_sector m.to m.to_sector b k)) (e m.from m.from_sector (one_less ok).0.reads) (e b k h))

-- ---- what is stored in one sector does not show in another

module _ (s : ℕ) (i j : Sector) (o l q : ℕ) (bs : List ℕ) (h : o + l ≤ s) (h' : q + length bs ≤ s) where
  read_else : (xs : List ℕ) → eqb j.0 i.0 ≡ false
      → part (put xs (j.0 * s + q) bs) (i.0 * s + o) l ≡ part xs (i.0 * s + o) l
  read_else xs e = go (ltb i.0 j.0) refl
    where
      go : (b : Bool) → ltb i.0 j.0 ≡ b → part (put xs (j.0 * s + q) bs) (i.0 * s + o) l ≡ part xs (i.0 * s + o) l
      go true p = part_put_before xs (j.0 * s + q) bs (i.0 * s + o) l
          (omega (arith, mul-le-mul_right {m = suc i.0} s (ltb-true i.0 j.0 p)))
      go false p =
          let n : j.0 < i.0 = lt_of_le_of_ne (ltb-false i.0 j.0 p) (eqb-false j.0 i.0 e) in
          part_put_after xs (j.0 * s + q) bs (i.0 * s + o) l (omega (arith, mul-le-mul_right {m = suc j.0} s n))

  pub read_apart : (a b : Area) (f : Flash) → same_sector b j a i ≡ false
      → part (area a (store b (j.0 * s + q) bs f)) (i.0 * s + o) l ≡ part (area a f) (i.0 * s + o) l
  read_apart a b f e = unseen (λ (xs : List ℕ). part xs (i.0 * s + o) l) b a (j.0 * s + q) bs f
      (λ same. read_else (area a f) (rw same at e))

module _ {g : Build} (geo : Geo g) where
  -- a data sector lies in its area
  pub inside : (a : Area) (i : Sector) (f : Flash) → Sized g a f → i.0 < data_sectors g a
      → i.0 * g.sector + g.sector ≤ length (area a f)
  unfolding trailer
  inside a i f z h =
      let p : 0 < g.sector = omega arith in
      omega (arith, sym (length-drop (start_of (geometry g) (trailer_sector g a)).0 (area a f)) ∙ z, mul-le-mul_right {m = suc i.0} g.sector h)

  pub sector_else : (a b : Area) (j k : Sector) (xs : List ℕ) (f : Flash) → length xs ≡ g.sector → same_sector a j b k ≡ false
      → sector_of g (store a (j.0 * g.sector) xs f) b k ≡ sector_of g f b k
  unfolding sector_of
  sector_else a b j k xs f l e =
      let s : ℕ = g.sector in
      let j₀ : j.0 * s ≡ j.0 * s + 0 = omega arith in
      let k₀ : k.0 * s ≡ k.0 * s + 0 = omega arith in
      ap₂ (λ (at y : ℕ). part (area b (store a y xs f)) at s) k₀ j₀
      ∙ read_apart s k j 0 s 0 xs (omega arith) (omega arith) b a f e
      ∙ ap (λ (at : ℕ). part (area b f) at s) (sym k₀)

  -- a sector after a store of a whole sector
  pub sector_store : (to b : Area) (j k : Sector) (xs : List ℕ) (f : Flash) → length xs ≡ g.sector → Sized g to f
      → j.0 < data_sectors g to
      → sector_of g (store to (j.0 * g.sector) xs f) b k ≡ pick (same_sector to j b k) xs (sector_of g f b k)
  unfolding sector_of
  sector_store to b j k xs f l z h = go (same_sector to j b k) refl
    where
      s : ℕ
      s = g.sector

      f' : Flash
      f' = store to (j.0 * s) xs f

      here : part (area to f') (j.0 * s) s ≡ xs
      here = ap (λ (y : List ℕ). part y (j.0 * s) s) (area_store to (j.0 * s) xs f)
          ∙ part_put (area to f) (j.0 * s) xs s l (inside to j f z h)

      go : (c : Bool) → same_sector to j b k ≡ c → part (area b f') (k.0 * s) s ≡ pick c xs (part (area b f) (k.0 * s) s)
      go true e =
          let ea : to ≡ b = same_area_lem to b (both (same_area to b) (eqb j.0 k.0) e).0 in
          let ek : j.0 ≡ k.0 = eqb-true j.0 k.0 (both (same_area to b) (eqb j.0 k.0) e).1 in
          ap₂ (λ (y : Area) (n : ℕ). part (area y f') (n * s) s) (sym ea) (sym ek) ∙ here
      go false e = sector_else to b j k xs f l e

  -- flashes that differ in one sector at most are alike in another
  pub sector_unwiped : (a b : Area) (j k : Sector) (f f' : Flash) → same_sector a j b k ≡ false → wipe g a j f ≡ wipe g a j f'
      → sector_of g f b k ≡ sector_of g f' b k
  sector_unwiped a b j k f f' h e = sym (past f) ∙ ap (λ (x : Flash). sector_of g x b k) e ∙ past f'
    where
      past : (x : Flash) → sector_of g (wipe g a j x) b k ≡ sector_of g x b k
      past x = sector_else a b j k (blank g.sector) x (length_blank g.sector) h

  -- a trailer sector is no data sector
  trailer_else : (a b : Area) (k : Sector) → k.0 < data_sectors g b → same_sector a (trailer_sector g a) b k ≡ false
  trailer_else a b k h = other (same_area a b) refl
    where
      other : (c : Bool) → same_area a b ≡ c → (c && eqb (data_sectors g a) k.0) ≡ false
      other true e = ne_eqb (data_sectors g a) k.0 (λ q. omega (arith, ap (data_sectors g) (same_area_lem a b e)))
      other false e = refl

  -- what happens in trailer sectors shows in no data sector
  pub sector_same : (a b : Area) (k : Sector) (f f' : Flash) → k.0 < data_sectors g b → wipe_trailer g a f ≡ wipe_trailer g a f'
      → sector_of g f b k ≡ sector_of g f' b k
  sector_same a b k f f' h e = sector_unwiped a b (trailer_sector g a) k f f' (trailer_else a b k h) e

  pub sector_both : (b : Area) (k : Sector) (f f' : Flash) → k.0 < data_sectors g b → wipe_both g f ≡ wipe_both g f'
      → sector_of g f b k ≡ sector_of g f' b k
  sector_both b k f f' h e = past f ∙ sector_same slot0 b k (wipe_trailer g slot1 f) (wipe_trailer g slot1 f') h e ∙ sym (past f')
    where
      past : (x : Flash) → sector_of g x b k ≡ sector_of g (wipe_trailer g slot1 x) b k
      past x = sym (sector_else slot1 b (trailer_sector g slot1) k (blank g.sector) x (length_blank g.sector)
          (trailer_else slot1 b k h))
