-- The data exchange: what a move with its mark leaves in the trailer sectors, and that B finds where to go on.
use Rattle.std.specs.Prelude.{◌≡◌, Bool}
use Rattle.std.proofs.Common.{sym, ◌∙◌, subst, mul-le-mul_right}
use Rattle.std.proofs.Math.Path.{ap}
use mathlib.Core.List.{List}
use Prim.Native.Nat.{ℕ, suc, ◌+◌, ◌*◌, ◌≤◌, ◌<◌}
use native.Mathlib.Omega.{arith}
use Rattle.std.proofs.Math.ListN.{length}
use borrow.Author.Tests.{ne_eqb, le-leb}
use Rattle.spans.specs.Bytes.{part, blank}
use Rattle.spans.specs.Laws.{length_blank, part_put_after}
use Rattle.flash.specs.declared.Sector.{Sector}
use Rattle.flash.specs.Build.{Area, slot0, scratch, Build, Move, Flash, data_sectors}
use Rattle.flash.specs.Operations.{apply, run_all}
use Rattle.trailer.specs.Trailer.{trailer, magic_at, copy_done_at, mark_at, magic_of, mark_bytes, is_good, written}
use Rattle.plan.specs.declared.Course.TheVariants.{Resume}
use Rattle.plan.specs.Lists.{progress, move_ops}
use Rattle.plan.specs.Decision.{continue, step_b, asks, judged, decide}
use Rattle.recovery.specs.Statement.{Sound}
use Rattle.recovery.specs.Windows.{hidden_run, wipe}
use Rattle.recovery.specs.Places.{Geo, mark_unit, length_mark, trailer_data, trailer_mark}
use Rattle.recovery.specs.Reading.{Marked, mark_room, good_read, unset_read, written_from, legal_from}
use Rattle.recovery.specs.Hiding.{hidden_move}
use Rattle.recovery.specs.Settling.{Under, marked_progress}

module _ {g : Build} (geo : Geo g) where
  -- what is wiped among the data shows in no trailer
  pub same_trailer : (a b : Area) {j : Sector} (f f' : Flash) → j.0 < data_sectors g a → wipe g a j f ≡ wipe g a j f'
      → trailer g b f ≡ trailer g b f'
  same_trailer a b {j} f f' h e = sym (past f) ∙ ap (trailer g b) e ∙ past f'
    where
      past : (x : Flash) → trailer g b (wipe g a j x) ≡ trailer g b x
      past x = trailer_data g a b (j.0 * g.sector) (blank g.sector) x
          (omega (arith, length_blank g.sector, mul-le-mul_right {m = suc j.0} g.sector h))

  pub under_wiped : {c : ℕ} (a : Area) {j : Sector} (f f' : Flash) → j.0 < data_sectors g a → wipe g a j f ≡ wipe g a j f'
      → Under g c f' → Under g c f
  under_wiped {c} a f f' h e u =
      let e₀ : trailer g slot0 f ≡ trailer g slot0 f' = same_trailer a slot0 f f' h e in
      record {
        marked = subst (Marked g c) (sym e₀) u.marked;
        magic = ap (λ (t : List ℕ). part t (magic_at g).0 16) e₀ ∙ u.magic;
        idle = ap (λ (t : List ℕ). is_good (magic_of g t)) (same_trailer a scratch f f' h e) ∙ u.idle;
      }

  under_progress : {c : ℕ} (f : Flash) → c < 3 * g.sectors → Under g c f → Under g (suc c) (apply g (progress g c) f)
  unfolding apply trailer
  under_progress {c} f h u = record {
    marked = marked_progress geo f h u.marked;
    magic = ap (λ (t : List ℕ). part t (magic_at g).0 16) (trailer_mark geo slot0 (mark_at g c) (g.value c) f (mark_unit geo c))
        ∙ part_put_after (trailer g slot0 f) (mark_at g c).0 (mark_bytes g (g.value c)) (magic_at g).0 16
        (omega (arith, length_mark geo (g.value c), mark_room geo h))
        ∙ u.magic;
    idle = u.idle;
  }

  pub under_move : {c : ℕ} (m : Move) (f : Flash) → m.to_sector.0 < data_sectors g m.to → c < 3 * g.sectors → Under g c f
      → Under g (suc c) (apply g (progress g c) (run_all g (move_ops g m) f))
  under_move m f t h u =
      let f₁ : Flash = run_all g (move_ops g m) f in
      under_progress f₁ h (under_wiped m.to f₁ f t (hidden_run (hidden_move geo m) f) u)

  -- B finds where to go on
  pub resumes : (check : List ℕ → Bool) → Sound g → {c : ℕ} (f : Flash) → 3 ≤ c → c ≤ 3 + length g.moves → Under g c f
      → decide check g f ≡ Resume c
  unfolding decide asks judged step_b continue
  resumes check sound {c} f lo hi u =
      let t : List ℕ = trailer g slot0 f in
      let small : (k : ℕ) → g.value k < 255 = λ k. omega (arith, sound.small k) in
      let b : c ≤ 3 * g.sectors = omega (arith, sound.places) in
      let m : written g t 0 (3 * g.sectors) ≡ c =
      written_from geo small u.marked b 0 (3 * g.sectors) (omega arith) (omega arith) ∙ omega arith in
      rw (
        u.idle,
        good_read geo t u.magic,
        unset_read geo t (copy_done_at g) u.marked.free.done,
        m,
        legal_from geo small u.marked b 0 (3 * g.sectors) (omega arith),
        ne_eqb c 0 (λ q. omega arith),
        le-leb 3 c lo,
        le-leb c (3 + length g.moves) hi,
      )
