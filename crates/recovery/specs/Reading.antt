-- What the decision reads off trailers that an exchange leaves.
use Rattle.std.proofs.Math.Path.{◌≡◌, refl, sym, ap}
use Rattle.std.proofs.Common.{◌∙◌, mul-le-mul_right}
use mathlib.Core.List.{List, [], ◌∷◌}
use Rattle.std.specs.Prelude.{Bool, ◌&&◌, length, drop}
use Rattle.std.proofs.Math.Bool.{true, false}
use Rattle.std.proofs.lemmas.Bool.{false≢true}
use Prim.Native.Nat.{ℕ, zero, suc, ◌+◌, ◌*◌, ◌-◌, ◌≤◌, ◌<◌}
use native.Mathlib.Omega.{arith}
use Rattle.std.proofs.Math.ListN.{get_or}
use Rattle.std.proofs.Math.Dec.{ltb}
use borrow.Author.Tests.{ltb-true, ltb-false, eq-eqb, ne_eqb}
use Rattle.spans.specs.Bytes.{part, put, blank, same}
use Rattle.spans.specs.Choice.{pick}
use Rattle.spans.specs.Laws.{same_refl, same_eq, part_part, length_blank, length_put, part_put, part_put_before, part_put_after, part_blank}
use Rattle.flash.specs.declared.Offset.{Offset}
use Rattle.flash.specs.Build.{Build}
use Rattle.trailer.specs.declared.Magic.{Magic}
use Rattle.trailer.specs.declared.Mark.{Mark}
use Rattle.trailer.specs.Trailer.{magic_bytes, magic_at, ok_at, copy_done_at, mark_at, magic_of, mark_of, mark_bytes, is_good, is_unset, has_value, written, legal}
use Rattle.recovery.specs.Places.{Geo, length_mark, unit_small}

-- ---- single readings

module _ {g : Build} (geo : Geo g) where
  pub good_read : (t : List ℕ) → part t (magic_at g).0 16 ≡ magic_bytes → is_good (magic_of g t) ≡ true
  unfolding magic_of is_good
  good_read t e = rw (e, same_refl magic_bytes)

  -- a trailer whose last byte is erased has no good magic
  pub not_good_read : (t : List ℕ) → part t (g.sector - 1) 1 ≡ blank 1 → is_good (magic_of g t) ≡ false
  unfolding magic_of is_good magic_bytes part blank
  not_good_read t e = go (same (part t (magic_at g).0 16) magic_bytes) (same (part t (magic_at g).0 16) (blank 16)) refl
    where
      last : part t (magic_at g).0 16 ≡ magic_bytes → ⊥
      last h =
          let p : g.sector - 1 ≡ (magic_at g).0 + 15 = omega (arith, geo.room) in
          let q : ◌≡◌ {A = List ℕ} (255 ∷ []) (128 ∷ []) =
          sym e ∙ ap (λ (x : ℕ). part t x 1) p ∙ sym (part_part t (magic_at g).0 16 15 1 (omega arith))
          ∙ ap (λ (x : List ℕ). part x 15 1) h in
          let z : ◌≡◌ {A = ℕ} 255 128 = ap (λ (x : List ℕ). get_or x 0 0) q in omega arith

      go : (b c : Bool) → same (part t (magic_at g).0 16) magic_bytes ≡ b
          → is_good (pick b Magic.Good (pick c Magic.Unset Magic.Bad)) ≡ false
      go true c h = absurd (last (same_eq (part t (magic_at g).0 16) magic_bytes h))
      go false true h = refl
      go false false h = refl

  pub unset_read : (t : List ℕ) (at : Offset) → part t at.0 g.unit ≡ blank g.unit → is_unset (mark_of g t at) ≡ true
  unfolding mark_of is_unset
  unset_read t at e = rw (e, same_refl (blank g.unit))

  pub value_read : (t : List ℕ) (at : Offset) (v : ℕ) → v < 255 → part t at.0 g.unit ≡ mark_bytes g v
      → mark_of g t at ≡ Mark.Value v
  unfolding mark_of mark_bytes same blank
  value_read t at v h e = rw (e, differs, same_refl (blank (g.unit - 1)))
    where
      differs : same (v ∷ blank (g.unit - 1)) (blank g.unit) ≡ false
      differs =
          let p : g.unit ≡ suc (g.unit - 1) = omega (arith, geo.positive) in
          ap (λ (n : ℕ). same (v ∷ blank (g.unit - 1)) (blank n)) p ∙ rw (ne_eqb v 255 (λ q. omega arith))

-- a mark that is read as Unset is erased
pub unset_blank : (g : Build) (t : List ℕ) (at : Offset) → is_unset (mark_of g t at) ≡ true
    → part t at.0 g.unit ≡ blank g.unit
unfolding mark_of is_unset
unset_blank g t at h = go (same m (blank g.unit)) (same (drop 1 m) (blank (g.unit - 1))) refl h
  where
    m : List ℕ
    m = part t at.0 g.unit

    go : (b c : Bool) → same m (blank g.unit) ≡ b
        → is_unset (pick b Mark.Unset (pick c (Mark.Value (get_or m 0 0)) Mark.Bad)) ≡ true → m ≡ blank g.unit
    go true c e h = same_eq m (blank g.unit) e
    go false true e h = absurd (false≢true h)
    go false false e h = absurd (false≢true h)

-- ---- slot 0's trailer while sectors are moved

-- the places that marks from number c on, and copy done, will take are erased
pub record Free (g : Build) (c : ℕ) (t : List ℕ) : Type 0 where
  pub done : part t (copy_done_at g).0 g.unit ≡ blank g.unit
  pub after : (k : ℕ) → c ≤ k → k < 3 * g.sectors → part t (mark_at g k).0 g.unit ≡ blank g.unit

-- and the marks before number c are written
pub record Marked (g : Build) (c : ℕ) (t : List ℕ) : Type 0 where
  pub len : length t ≡ g.sector
  pub before : (k : ℕ) → k < c → part t (mark_at g k).0 g.unit ≡ mark_bytes g (g.value k)
  pub free : Free g c t

module _ {g : Build} (geo : Geo g) (small : (k : ℕ) → g.value k < 255) {c : ℕ} {t : List ℕ} (m : Marked g c t)
    (h : c ≤ 3 * g.sectors) where
  marks_value : (k : ℕ) → k < c → mark_of g t (mark_at g k) ≡ Mark.Value (g.value k)
  marks_value k q = value_read geo t (mark_at g k) (g.value k) (small k) (m.before k q)

  marks_unset : (k : ℕ) → c ≤ k → k < 3 * g.sectors → is_unset (mark_of g t (mark_at g k)) ≡ true
  marks_unset k q r = unset_read geo t (mark_at g k) (m.free.after k q r)

  pub written_from : (k r : ℕ) → k + r ≡ 3 * g.sectors → k ≤ c → written g t k r ≡ c - k
  unfolding written is_unset
  written_from k zero e q = omega arith
  written_from k (suc r) e q = go (written_from (suc k) r (omega arith)) (ltb k c) refl
    where
      go : (suc k ≤ c → written g t (suc k) r ≡ c - suc k) → (b : Bool) → ltb k c ≡ b
          → pick (is_unset (mark_of g t (mark_at g k))) 0 (suc (written g t (suc k) r)) ≡ c - k
      go ih true p =
          let l : k < c = ltb-true k c p in
          rw (marks_value k l, ih l) (omega arith)
      go ih false p =
          let l : c ≤ k = ltb-false k c p in
          rw (marks_unset k l (omega arith)) (omega arith)

  pub legal_from : (k r : ℕ) → k + r ≡ 3 * g.sectors → legal g t c k r ≡ true
  unfolding legal has_value
  legal_from k zero e = refl
  legal_from k (suc r) e = go (legal_from (suc k) r (omega arith)) (ltb k c) refl
    where
      mark : Mark
      mark = mark_of g t (mark_at g k)

      go : legal g t c (suc k) r ≡ true → (b : Bool) → ltb k c ≡ b
          → (pick (ltb k c) (has_value (g.value k) mark) (is_unset mark) && legal g t c (suc k) r) ≡ true
      go ih true p =
          let l : k < c = ltb-true k c p in
          rw (p, marks_value k l, eq-eqb (g.value k) (g.value k) refl, ih)
      go ih false p =
          let l : c ≤ k = ltb-false k c p in
          rw (p, marks_unset k l (omega arith), ih)

module _ {g : Build} (geo : Geo g) where
  pub mark_room : {k : ℕ} → k < 3 * g.sectors → (mark_at g k).0 + g.unit ≤ (copy_done_at g).0
  mark_room {k} h = omega (arith, geo.room, mul-le-mul_right {m = suc k} g.unit h)

  pub mark_apart : (j k : ℕ) → j < k → (mark_at g j).0 + g.unit ≤ (mark_at g k).0
  mark_apart j k h = omega (arith, mul-le-mul_right {m = suc j} g.unit h)

  pub marked_blank : Marked g 0 (blank g.sector)
  marked_blank = record {
    len = length_blank g.sector;
    before = λ k q. absurd (omega arith);
    free = record {
      done = part_blank g.sector (copy_done_at g).0 g.unit (omega (arith, unit_small geo));
      after = λ k q r. part_blank g.sector (mark_at g k).0 g.unit (omega (arith, mark_room r));
    };
  }

  -- image ok and magic stand behind the marks
  pub marked_far : {c : ℕ} {t : List ℕ} (at : ℕ) (bs : List ℕ) → c ≤ 3 * g.sectors → (ok_at g).0 ≤ at
      → Marked g c t → Marked g c (put t at bs)
  marked_far {c} {t} at bs b h m = record {
    len = length_put t at bs ∙ m.len;
    before = λ k q. past (mark_at g k).0 (omega (arith, mark_room {k = k} (omega arith))) ∙ m.before k q;
    free = record {
      done = past (copy_done_at g).0 (omega (arith, unit_small geo)) ∙ m.free.done;
      after = λ k q r. past (mark_at g k).0 (omega (arith, mark_room r)) ∙ m.free.after k q r;
    };
  }
    where
      past : (o : ℕ) → o + g.unit ≤ at → part (put t at bs) o g.unit ≡ part t o g.unit
      past o = part_put_before t at bs o g.unit

  -- mark number c is written
  pub free_mark : {c : ℕ} {t : List ℕ} → c < 3 * g.sectors → Free g c t
      → Free g (suc c) (put t (mark_at g c).0 (mark_bytes g (g.value c)))
  free_mark {c} {t} b r = record {
    done = past (copy_done_at g).0 (mark_room b) ∙ r.done;
    after = λ k q l. past (mark_at g k).0 (mark_apart c k q) ∙ r.after k (omega arith) l;
  }
    where
      bs : List ℕ
      bs = mark_bytes g (g.value c)

      past : (o : ℕ) → (mark_at g c).0 + g.unit ≤ o → part (put t (mark_at g c).0 bs) o g.unit ≡ part t o g.unit
      past o l = part_put_after t (mark_at g c).0 bs o g.unit (omega (arith, length_mark geo (g.value c)))

  pub marked_mark : {c : ℕ} {t : List ℕ} → c < 3 * g.sectors → Marked g c t
      → Marked g (suc c) (put t (mark_at g c).0 (mark_bytes g (g.value c)))
  marked_mark {c} {t} b m = record {
    len = length_put t at bs ∙ m.len;
    before = λ k q. old k (omega arith) (ltb k c) refl;
    free = free_mark b m.free;
  }
    where
      at : ℕ
      at = (mark_at g c).0

      bs : List ℕ
      bs = mark_bytes g (g.value c)

      old : (k : ℕ) → k ≤ c → (b : Bool) → ltb k c ≡ b → part (put t at bs) (mark_at g k).0 g.unit ≡ mark_bytes g (g.value k)
      old k q true p =
          let l : k < c = ltb-true k c p in
          part_put_before t at bs (mark_at g k).0 g.unit (mark_apart k c l) ∙ m.before k l
      old k q false p =
          let e : k ≡ c = omega (arith, ltb-false k c p) in
          ap (λ (x : ℕ). part (put t at bs) (mark_at g x).0 g.unit) e
          ∙ part_put t at bs g.unit (length_mark geo (g.value c)) (omega (arith, m.len, mark_room b))
          ∙ ap (λ (x : ℕ). mark_bytes g (g.value x)) (sym e)
