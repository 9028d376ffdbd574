-- Lines 3 to 6 of the trailer exchange: they see nothing of the slots' old trailers, and leave three marks and good magic in
-- slot 0.
use Rattle.std.specs.Prelude.{◌≡◌, Bool, ℕ, suc, ◌*◌, ◌-◌, ◌≤◌, ◌<◌}
use Rattle.std.proofs.Math.Path.{refl}
use Rattle.std.proofs.Common.{ap, ◌∙◌, arith}
use mathlib.Core.List.{List, [], ◌∷◌, ◌++◌}
use Rattle.std.proofs.Math.Bool.{true, false}
use Rattle.spans.specs.Bytes.{part, blank}
use Rattle.spans.specs.Laws.{part_blank, part_put}
use Rattle.flash.specs.Build.{slot0, slot1, scratch, Build, Flash, trailer_sector}
use Rattle.flash.specs.Operations.{Op, apply, run_all}
use Rattle.trailer.specs.Trailer.{magic_bytes, trailer, magic_at, ok_at, mark_at, magic_of, mark_bytes, is_good}
use Rattle.plan.specs.Lists.{erase_trailer, progress, magic_ops, ok_ops, lines_three_to_six}
use Rattle.recovery.specs.All.{All, one, all_append, all_map}
use Rattle.recovery.specs.Cuts.{run_all_append}
use Rattle.recovery.specs.Windows.{Hidden, hidden_behind, hidden_erase}
use Rattle.recovery.specs.Places.{Geo, Sized, mark_unit, trailer_clear, trailer_mark, trailer_magic}
use Rattle.recovery.specs.Reading.{Marked, marked_blank, marked_far, marked_mark, not_good_read}
use Rattle.recovery.specs.Hiding.{wipe_trailer, hidden_ok, hidden_progress, hidden_magic}
use Rattle.recovery.specs.Begin.{with_ok, trailer_ok, sized_run}

-- the window that wipes the trailer sectors of both slots
abbrev pub wipe_both : Build → Flash → Flash
wipe_both g f = wipe_trailer g slot0 (wipe_trailer g slot1 f)

-- line 5
unfoldable pub line5 : Build → Bool → List Op
line5 g p = ok_ops g slot0 p ++ (progress g 0 ∷ progress g 1 ∷ progress g 2 ∷ magic_ops g slot0)

-- lines 3 to 5
unfoldable pub settling : Build → Bool → List Op
settling g p = erase_trailer g slot1 ∷ erase_trailer g slot0 ∷ line5 g p

pub settle_run : (g : Build) (p : Bool) (f f' : Flash) → wipe_both g f ≡ wipe_both g f'
    → run_all g (lines_three_to_six g p) f ≡ run_all g (lines_three_to_six g p) f'
unfolding lines_three_to_six run_all apply line5
settle_run g p f f' e = ap (run_all g (line5 g p ++ (erase_trailer g scratch ∷ []))) e

pub settle_split : (g : Build) (p : Bool) (f : Flash)
    → run_all g (lines_three_to_six g p) f ≡ apply g (erase_trailer g scratch) (run_all g (settling g p) f)
unfolding lines_three_to_six settling line5 run_all
settle_split g p f = run_all_append g (settling g p) (erase_trailer g scratch ∷ []) f

-- slot 0's trailer sector has good magic and c marks, and scratch's magic is not Good
pub record Under (g : Build) (c : ℕ) (f : Flash) : Type 0 where
  pub marked : Marked g c (trailer g slot0 f)
  pub magic : part (trailer g slot0 f) (magic_at g).0 16 ≡ magic_bytes
  pub idle : is_good (magic_of g (trailer g scratch f)) ≡ false

module _ {g : Build} (geo : Geo g) where
  pub three_marks : 3 < 3 * g.sectors
  three_marks = omega (arith, geo.two)

  pub hidden_settling : (p : Bool) → All (Hidden g (wipe_both g)) (settling g p)
  unfolding settling line5
  hidden_settling p =
      one (hidden_behind (wipe_trailer g slot0) (hidden_erase g slot1 (trailer_sector g slot1)))
      (all_map (λ op h. hidden_behind (wipe_trailer g slot1) h)
      (one (hidden_erase g slot0 (trailer_sector g slot0)) (all_append (hidden_ok geo slot0 p)
      (one (hidden_progress geo 0 (omega (arith, three_marks))) (one (hidden_progress geo 1 (omega (arith, three_marks)))
      (one (hidden_progress geo 2 (omega (arith, three_marks))) (hidden_magic geo slot0)))))))

  -- ---- what they leave in slot 0

  pub marked_ok : (p : Bool) → Marked g 0 (with_ok g p (blank g.sector))
  unfolding with_ok
  marked_ok true = marked_far geo (ok_at g).0 (mark_bytes g 1) (omega arith) (omega arith) (marked_blank geo)
  marked_ok false = marked_blank geo

  pub marked_progress : {c : ℕ} (f : Flash) → c < 3 * g.sectors → Marked g c (trailer g slot0 f)
      → Marked g (suc c) (trailer g slot0 (apply g (progress g c) f))
  marked_progress {c} f h m = rw (trailer_mark geo slot0 (mark_at g c) (g.value c) f (mark_unit geo c)) (marked_mark geo h m)

  -- the magic written behind c marks
  marked_magic : {c : ℕ} (f : Flash) → c ≤ 3 * g.sectors → Marked g c (trailer g slot0 f)
      → Marked g c (trailer g slot0 (run_all g (magic_ops g slot0) f))
      × (part (trailer g slot0 (run_all g (magic_ops g slot0) f)) (magic_at g).0 16 ≡ magic_bytes)
  unfolding magic_bytes
  marked_magic f h m = rw (trailer_magic geo slot0 f) (
    marked_far geo (magic_at g).0 magic_bytes h (omega arith) m,
    part_put (trailer g slot0 f) (magic_at g).0 magic_bytes 16 refl (omega (arith, m.len)),
  )

  pub marked_settling : (p : Bool) (f : Flash) → Sized g slot0 f
      → Marked g 3 (trailer g slot0 (run_all g (settling g p) f))
      × (part (trailer g slot0 (run_all g (settling g p) f)) (magic_at g).0 16 ≡ magic_bytes)
  unfolding settling line5 run_all apply trailer
  marked_settling p f s =
      let f₂ : Flash = apply g (erase_trailer g slot0) (apply g (erase_trailer g slot1) f) in
      let f₃ : Flash = run_all g (ok_ops g slot0 p) f₂ in
      let f₄ : Flash = apply g (progress g 0) f₃ in
      let f₅ : Flash = apply g (progress g 1) f₄ in
      let m₃ : Marked g 0 (trailer g slot0 f₃) =
      rw (trailer_ok geo slot0 p f₂, trailer_clear geo slot0 (apply g (erase_trailer g slot1) f) s) (marked_ok p) in
      rw (run_all_append g (ok_ops g slot0 p) (progress g 0 ∷ progress g 1 ∷ progress g 2 ∷ magic_ops g slot0) f₂)
      (marked_magic (apply g (progress g 2) f₅) (omega (arith, three_marks))
      (marked_progress f₅ (omega (arith, three_marks))
      (marked_progress f₄ (omega (arith, three_marks))
      (marked_progress f₃ (omega (arith, three_marks)) m₃))))

  -- line 6 puts scratch out of the way
  pub settled : (p : Bool) (f : Flash) → Sized g slot0 f → Sized g scratch f → Under g 3 (run_all g (lines_three_to_six g p) f)
  unfolding apply trailer
  settled p f s0 s2 =
      let f₅ : Flash = run_all g (settling g p) f in
      rw (settle_split g p f) record {
        marked = (marked_settling p f s0).0;
        magic = (marked_settling p f s0).1;
        idle = not_good_read geo (trailer g scratch (apply g (erase_trailer g scratch) f₅))
            (ap (λ (t : List ℕ). part t (g.sector - 1) 1) (trailer_clear geo scratch f₅ (sized_run g scratch (settling g p) f s2))
            ∙ part_blank g.sector (g.sector - 1) 1 (omega arith));
      }
