-- Lines 1 and 2 of the trailer exchange: scratch's magic is not Good before the last of it is written; then A takes over.
use Rattle.std.specs.Prelude.{◌≡◌, ◌⊎◌, Bool, take, drop}
use Rattle.std.proofs.Math.Path.{refl, ap}
use Rattle.std.proofs.Common.{sym, ◌∙◌, inl, inr, arith, length-drop}
use mathlib.Core.List.{List, ◌++◌}
use Rattle.std.proofs.Math.Bool.{true, false}
use Prim.Native.Nat.{ℕ, zero, suc, ◌+◌, ◌-◌, ◌<◌}
use Rattle.std.proofs.Math.ListN.{length, length-take}
use Rattle.spans.specs.Bytes.{part, put, blank}
use Rattle.spans.specs.Laws.{length_blank, part_blank, part_put, part_put_before, part_put_after, length_put}
use Rattle.flash.specs.declared.Unit.{Unit}
use Rattle.flash.specs.Geometry.{next_unit, unit_count, start_of, place_of, bytes_in}
use Rattle.flash.specs.Build.{Area, scratch, Build, Flash, area, geometry, trailer_sector}
use Rattle.flash.specs.Operations.{Op, write, store, apply, run_all}
use Rattle.flash.specs.Harm.{Cut, here, later}
use Rattle.trailer.specs.declared.Mark.{Mark}
use Rattle.trailer.specs.Trailer.{magic_bytes, trailer, magic_at, ok_at, magic_of, mark_of, mark_bytes, is_good, is_unset, has_value, magic_units}
use Rattle.plan.specs.declared.Course.TheVariants.{FromLineThree}
use Rattle.plan.specs.Lists.{trailer_unit, erase_trailer, writes, magic_ops, ok_ops, lines_one_two}
use Rattle.plan.specs.Decision.{step_a}
use Rattle.recovery.specs.All.{All, none, one}
use Rattle.recovery.specs.Cuts.{run_all_append, cut_append, cut_nil}
use Rattle.recovery.specs.Windows.{Hidden, hidden_run, hidden_cut, all_lengths}
use Rattle.recovery.specs.Places.{Geo, Sized, unit_back, unit_small, magic_unit, magic_units_lem, ok_unit, length_mark, clear_whole, write_whole, mark_whole, trailer_store, trailer_clear, trailer_mark, trailer_magic}
use Rattle.recovery.specs.Reading.{good_read, not_good_read, unset_read, value_read}
use Rattle.recovery.specs.Hiding.{wipe_trailer}

-- ---- trailer sectors stay as long as they are

same_size : (g : Build) (a : Area) (f f' : Flash) → length (area a f') ≡ length (area a f) → Sized g a f → Sized g a f'
unfolding trailer
same_size g a f f' e h =
    let n : ℕ = (start_of (geometry g) (trailer_sector g a)).0 in
    length-drop n (area a f') ∙ ap (λ (k : ℕ). k - n) e ∙ sym (length-drop n (area a f)) ∙ h

pub sized_run : (g : Build) (a : Area) (ops : List Op) (f : Flash) → Sized g a f → Sized g a (run_all g ops f)
sized_run g a ops f h = same_size g a f (run_all g ops f) (hidden_run (all_lengths g a ops) f) h

pub sized_cut : (g : Build) (a : Area) (ops : List Op) (f f' : Flash) → Cut g ops f f' → Sized g a f → Sized g a f'
sized_cut g a ops f f' k h = same_size g a f f' (hidden_cut (all_lengths g a ops) k) h

-- ---- before the last unit of the magic, the last byte of scratch is erased

last_byte : Build → Flash → List ℕ
last_byte g f = part (trailer g scratch f) (g.sector - 1) 1

module _ {g : Build} (geo : Geo g) where
  keep_last : (o : ℕ) (u : Unit) (bs : List ℕ) (f : Flash) → (place_of (geometry g) u).0 ≡ (start_of (geometry g) (trailer_sector g scratch)).0 + o
      → o + length bs < g.sector → last_byte g (apply g (write scratch u bs) f) ≡ last_byte g f
  unfolding last_byte apply
  keep_last o u bs f e h =
      ap (λ (x : ℕ). part (trailer g scratch (store scratch x bs f)) (g.sector - 1) 1) e
      ∙ ap (λ (t : List ℕ). part t (g.sector - 1) 1) (trailer_store g scratch o bs f)
      ∙ part_put_after (trailer g scratch f) o bs (g.sector - 1) 1 (omega arith)

  cut_writes : (o : ℕ) (u : Unit) (k : ℕ) (bs : List ℕ) {f f' : Flash}
      → (place_of (geometry g) u).0 ≡ (start_of (geometry g) (trailer_sector g scratch)).0 + o
      → o + (bytes_in (geometry g) (unit_count k)).0 ≡ g.sector → Cut g (writes g scratch u k bs) f f' → last_byte g f' ≡ last_byte g f
  unfolding writes
  cut_writes o u zero bs e h c = absurd (cut_nil c)
  cut_writes o u (suc zero) bs e h (here t) = ap (last_byte g) (write_whole geo scratch o u e t)
  cut_writes o u (suc zero) bs e h (later c) = absurd (cut_nil c)
  cut_writes o u (suc (suc k)) bs e h (here t) = ap (last_byte g) (write_whole geo scratch o u e t)
  cut_writes o u (suc (suc k)) bs {f} e h (later c) =
      cut_writes (o + g.unit) (next_unit u) (suc k) (drop g.unit bs) (omega arith) (omega arith) c
      ∙ keep_last o u (take g.unit bs) f e (simp length-take (omega arith))

  hidden_last : (p : Bool) → All (Hidden g (last_byte g)) (ok_ops g scratch p)
  unfolding ok_ops
  hidden_last false = none
  hidden_last true =
      one (record {
        done = λ f. keep_last (ok_at g).0 (trailer_unit g scratch (ok_at g)) (mark_bytes g 1) f
            (unit_back geo scratch (ok_at g) (ok_unit geo)) (omega (arith, length_mark geo 1, unit_small geo));
        torn = λ f f' t. ap (last_byte g) (mark_whole geo scratch (ok_at g) 1 (ok_unit geo) t);
      }) none

  pub cut_begin : (p : Bool) {f f' : Flash} → Sized g scratch f → is_good (magic_of g (trailer g scratch f)) ≡ false
      → Cut g (lines_one_two g p) f f' → is_good (magic_of g (trailer g scratch f')) ≡ false
  unfolding lines_one_two magic_ops last_byte
  cut_begin p s ng (here t) = ap (λ x. is_good (magic_of g (trailer g scratch x))) (clear_whole geo scratch t) ∙ ng
  cut_begin p {f} {f'} s ng (later c) =
      not_good_read geo (trailer g scratch f') (go (cut_append (ok_ops g scratch p) (magic_ops g scratch) c) ∙ erased)
    where
      f₁ : Flash
      f₁ = apply g (erase_trailer g scratch) f

      erased : last_byte g f₁ ≡ blank 1
      erased = ap (λ (t : List ℕ). part t (g.sector - 1) 1) (trailer_clear geo scratch f s)
          ∙ part_blank g.sector (g.sector - 1) 1 (omega arith)

      go : Cut g (ok_ops g scratch p) f₁ f' ⊎ Cut g (magic_ops g scratch) (run_all g (ok_ops g scratch p) f₁) f'
          → last_byte g f' ≡ last_byte g f₁
      go (inl c) = hidden_cut (hidden_last p) c
      go (inr c) =
          cut_writes (magic_at g).0 (trailer_unit g scratch (magic_at g)) (magic_units (geometry g)).0 magic_bytes
          (unit_back geo scratch (magic_at g) (magic_unit geo)) (omega (arith, magic_units_lem geo)) c
          ∙ hidden_run (hidden_last p) f₁

-- ---- what they leave in scratch

-- the trailer t with image ok, if there is to be one
unfoldable pub with_ok : Build → Bool → List ℕ → List ℕ
with_ok g true t = put t (ok_at g).0 (mark_bytes g 1)
with_ok g false t = t

-- what is read where magic was written behind image ok
module _ {g : Build} (geo : Geo g) (t : List ℕ) (s : length t ≡ g.sector) where
  pub marked_good : (p : Bool) → is_good (magic_of g (put (with_ok g p t) (magic_at g).0 magic_bytes)) ≡ true
  unfolding with_ok magic_bytes
  marked_good p =
      good_read geo (put (with_ok g p t) (magic_at g).0 magic_bytes)
      (part_put (with_ok g p t) (magic_at g).0 magic_bytes 16 refl (omega (arith, size p, geo.room)))
    where
      size : (p : Bool) → length (with_ok g p t) ≡ g.sector
      size true = length_put t (ok_at g).0 (mark_bytes g 1) ∙ s
      size false = s

  before_magic : (xs : List ℕ) → part (put xs (magic_at g).0 magic_bytes) (ok_at g).0 g.unit ≡ part xs (ok_at g).0 g.unit
  before_magic xs = part_put_before xs (magic_at g).0 magic_bytes (ok_at g).0 g.unit (omega (arith, unit_small geo, geo.room))

  pub marked_01 : mark_of g (put (with_ok g true t) (magic_at g).0 magic_bytes) (ok_at g) ≡ Mark.Value 1
  unfolding with_ok
  marked_01 =
      value_read geo (put (with_ok g true t) (magic_at g).0 magic_bytes) (ok_at g) 1 (omega arith)
      (before_magic (with_ok g true t)
      ∙ part_put t (ok_at g).0 (mark_bytes g 1) g.unit (length_mark geo 1) (omega (arith, unit_small geo, geo.room)))

  pub marked_unset : part (put (with_ok g false t) (magic_at g).0 magic_bytes) (ok_at g).0 g.unit ≡ part t (ok_at g).0 g.unit
  unfolding with_ok
  marked_unset = before_magic t

-- scratch's trailer sector after line 2
unfoldable pub begun : Build → Bool → List ℕ
begun g p = put (with_ok g p (blank g.sector)) (magic_at g).0 magic_bytes

-- lines 1 and 2 do not see what stood in scratch's trailer sector
pub begin_run : (g : Build) (p : Bool) (f f' : Flash) → wipe_trailer g scratch f ≡ wipe_trailer g scratch f'
    → run_all g (lines_one_two g p) f ≡ run_all g (lines_one_two g p) f'
unfolding lines_one_two run_all apply
begin_run g p f f' e = ap (run_all g (ok_ops g scratch p ++ magic_ops g scratch)) e

module _ {g : Build} (geo : Geo g) where
  pub trailer_ok : (a : Area) (p : Bool) (f : Flash) → trailer g a (run_all g (ok_ops g a p) f) ≡ with_ok g p (trailer g a f)
  unfolding ok_ops with_ok run_all
  trailer_ok a true f = trailer_mark geo a (ok_at g) 1 f (ok_unit geo)
  trailer_ok a false f = refl

  pub trailer_begin : (p : Bool) (f : Flash) → Sized g scratch f → trailer g scratch (run_all g (lines_one_two g p) f) ≡ begun g p
  unfolding lines_one_two run_all begun
  trailer_begin p f s =
      let f₁ : Flash = apply g (erase_trailer g scratch) f in
      ap (trailer g scratch) (run_all_append g (ok_ops g scratch p) (magic_ops g scratch) f₁)
      ∙ trailer_magic geo scratch (run_all g (ok_ops g scratch p) f₁)
      ∙ ap (λ (t : List ℕ). put t (magic_at g).0 magic_bytes)
      (trailer_ok scratch p f₁ ∙ ap (with_ok g p) (trailer_clear geo scratch f s))

  pub begun_good : (p : Bool) → is_good (magic_of g (begun g p)) ≡ true
  unfolding begun
  begun_good p = marked_good geo (blank g.sector) (length_blank g.sector) p

  pub step_a_lem : (p : Bool) → step_a g (begun g p) ≡ FromLineThree p
  unfolding step_a begun is_unset has_value
  step_a_lem true = rw (marked_01 geo (blank g.sector) (length_blank g.sector))
  step_a_lem false = rw (unset_read geo (begun g false) (ok_at g)
      (marked_unset geo (blank g.sector) (length_blank g.sector)
      ∙ part_blank g.sector (ok_at g).0 g.unit (omega (arith, unit_small geo))))
