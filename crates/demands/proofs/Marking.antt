-- MARKING AND CONFIRMING, over what the functions promise, from any areas and any geometry: what they write is what document 01 says, byte
-- for byte, with its count; every refusal leaves the areas as before, with count 0, and 8 is none of them.
use Rattle.std.specs.Prelude.{◌≡◌, List, [], ◌∷◌, ◌++◌, Bool, ℕ, ◌+◌, ◌-◌, ◌/◌, length, Ok}
use Rattle.std.proofs.Math.Path.{refl}
use Rattle.std.proofs.Common.{sym, subst, ◌∙◌, arith, le-ltb}
use Rattle.std.proofs.Math.Bool.{true, false}
use Rattle.spans.specs.Choice.{pick, both}
use Rattle.flash.specs.declared.Geometry.{Geometry}
use Rattle.flash.specs.Build.{slot0, slot1, Flash}
use Rattle.flash.specs.Base.{base, build}
use Rattle.flash.specs.Operations.{Op, run_all}
use Rattle.trailer.specs.Trailer.{trailer, ok_at, copy_done_at, magic_of, is_good, is_no_magic, mark_of, is_unset, has_value}
use Rattle.plan.specs.Asked.{flash_of}
use Rattle.plan.specs.Lists.{ok_ops, magic_ops}
use Rattle.plan.specs.Lengths.{one_if, length_ok}
use Rattle.recovery.specs.Cuts.{run_all_lem}
use Rattle.recovery.specs.Places.{Geo}
use Rattle.recovery.specs.Reading.{unset_blank}
use Rattle.recovery.specs.Validity.{of_valid}
use Rattle.recovery.proofs.Fresh.{Fresh, fresh_ok}
use Rattle.recovery.proofs.Bridge.{fresh_steps}
use Rattle.answers.specs.declared.Refusal.{Refusal}
use Rattle.answers.specs.declared.Marked.{Marked}
use Rattle.answers.specs.Numbers.{refusal_number}
use Rattle.marking.specs.Marking.{MarkResult, refused_mark, ending_of, wrote_all, unless_refused, unmarked, mark_unless_marked, marking, confirmable, confirm_if_needed, confirming}
use Rattle.marking.specs.MarkLaws.{length_marking}
use Rattle.marking.specs.Counts.{by_refusals}
use Rattle.demands.specs.Promise.{Marks}
use Rattle.demands.specs.MarkStatement.{ok_put, magic_put, one_of, MarkEnds, writes, refuses}
use Rattle.demands.proofs.MarkLists.{fresh_marking, run_ok, run_marking}

pub whole_areas : {numbers : List ℕ} {count : ℕ} {f whole f' : Flash} {a : Marked} → MarkEnds numbers count f whole a f'
    → a.ending ≡ Ok tt → f' ≡ whole
whole_areas (writes e c h) w = h
whole_areas (refuses r n e c h) w = absurd (let z : ◌≡◌ {A = ℕ} 0 1 = cc in omega arith)

-- ---- a list whose units are erased is written whole

pub fresh_wrote : (g : Geometry) (ops : List Op) (f : Flash) → Fresh (build g) ops f
    → wrote_all g ops f ≡ record { answer = record { ending = Ok tt; count = length ops }; flash = run_all (build g) ops f }
unfolding wrote_all ending_of
fresh_wrote g ops f h =
    let n : ℕ = length ops in
    let e : n - (n - n) ≡ n = omega arith in
    rw (fresh_steps (build g) n ops f h, run_all_lem (build g) n ops f (omega arith), le-ltb n n (omega arith), e)

module _ (numbers : List ℕ) (count : ℕ) (f whole : Flash) where
  Ends : MarkResult → Type 0
  Ends r = MarkEnds numbers count f whole r.answer r.flash

  refused_ends : (r : Refusal) → one_of numbers (refusal_number r) ≡ true → Ends (refused_mark r f)
  unfolding refused_mark Ends
  refused_ends r n = refuses r n refl refl refl

  -- by whether the needs are met
  needed_ends : (r : Refusal) (g : Geometry) (ops : List Op) (needs : Bool) → one_of numbers (refusal_number r) ≡ true → length ops ≡ count
      → run_all (build g) ops f ≡ whole → (needs ≡ true → Fresh (build g) ops f) → Ends (pick needs (wrote_all g ops f) (refused_mark r f))
  unfolding Ends
  needed_ends r g ops true n l w h = rw (fresh_wrote g ops f (h refl)) (writes refl l w)
  needed_ends r g ops false n l w h = refused_ends r n

-- ---- the refusals that come before: 1, 2 and 6

promised_ends : (what : Geometry → Flash → MarkResult) (needs count : ℕ) (f whole : Flash) {g : Geometry} {a : Marked} {f' : Flash}
    (otherwise : MarkResult) → Marks what g f a f' → what g f ≡ unless_refused g f otherwise
    → ((geo : Geo (build g)) → Ends (1 ∷ 2 ∷ 6 ∷ needs ∷ []) count f whole otherwise)
    → MarkEnds (1 ∷ 2 ∷ 6 ∷ needs ∷ []) count f whole a f'
unfolding Ends one_of
promised_ends what needs count f whole {g} otherwise q e h =
    let numbers : List ℕ = 1 ∷ 2 ∷ 6 ∷ needs ∷ [] in
    subst (Ends numbers count f whole) (sym (q.promised ∙ e))
    (by_refusals (Ends numbers count f whole) g f otherwise (refused_ends numbers count f whole Refusal.Geometry refl)
    (refused_ends numbers count f whole Refusal.Damage refl) (refused_ends numbers count f whole Refusal.UnderWay refl)
    (λ v s. h (of_valid (build g) f v).geo))

-- ---- marking: 16/w operations for test, one more for permanent; slot 1 alone changes, in it image ok (if permanent) and magic

-- "It needs slot 1's image ok and magic Unset": so the units that it writes are erased
pub unmarked_fresh : (p : Bool) (g : Geometry) → Geo (build g) → (f : Flash) → unmarked g f ≡ true
    → Fresh (build g) (ok_ops (build g) slot1 p ++ magic_ops (build g) slot1) f
unfolding unmarked
unmarked_fresh p g geo f u =
    let t : List ℕ = trailer (build g) slot1 f in
    let b = both (is_unset (mark_of (build g) t (ok_at (build g)))) (is_no_magic (magic_of (build g) t)) u in
    fresh_marking geo slot1 p f b.0 b.1

-- "Marking: 1, 2, 6, 5."
pub marking_ends : (p : Bool) {g : Geometry} {f f' : Flash} {a : Marked} → Marks (marking p) g f a f'
    → MarkEnds (1 ∷ 2 ∷ 6 ∷ 5 ∷ []) (16 / g.unit + one_if p) f
    (flash_of f.in0 (magic_put (build g) slot1 (ok_put (build g) slot1 p f.in1)) f.in2) a f'
unfolding marking mark_unless_marked one_of base
marking_ends p {g} {f} q =
    let ops : List Op = ok_ops (build g) slot1 p ++ magic_ops (build g) slot1 in
    let whole : Flash = flash_of f.in0 (magic_put (build g) slot1 (ok_put (build g) slot1 p f.in1)) f.in2 in
    let count : ℕ = 16 / g.unit + one_if p in
    promised_ends (marking p) 5 count f whole (mark_unless_marked p g f) q refl (λ geo.
    needed_ends (1 ∷ 2 ∷ 6 ∷ 5 ∷ []) count f whole Refusal.Marks g ops (unmarked g f) refl (omega (arith, length_marking g p))
    (run_marking geo slot1 p f)
    (unmarked_fresh p g geo f))

-- ---- confirming: one operation; slot 0 alone changes, in it image ok

pub confirming_needs : (g : Geometry) (f : Flash) → confirmable g f ≡ true → (is_good (magic_of (build g) (trailer (build g) slot0 f)) ≡ true)
    × ((has_value 1 (mark_of (build g) (trailer (build g) slot0 f) (copy_done_at (build g))) ≡ true)
    × (is_unset (mark_of (build g) (trailer (build g) slot0 f) (ok_at (build g))) ≡ true))
unfolding confirmable
confirming_needs g f c =
    let t : List ℕ = trailer (build g) slot0 f in
    let b = both (is_good (magic_of (build g) t)) _ c in
    (b.0, both (has_value 1 (mark_of (build g) t (copy_done_at (build g)))) _ b.1)

pub confirmable_fresh : (g : Geometry) → Geo (build g) → (f : Flash) → confirmable g f ≡ true
    → Fresh (build g) (ok_ops (build g) slot0 true) f
confirmable_fresh g geo f c =
    fresh_ok geo slot0 true f (λ e. unset_blank (build g) (trailer (build g) slot0 f) (ok_at (build g)) (confirming_needs g f c).1.1)

-- "Confirming: 1, 2, 6, 7."
pub confirming_ends : {g : Geometry} {f f' : Flash} {a : Marked} → Marks confirming g f a f'
    → MarkEnds (1 ∷ 2 ∷ 6 ∷ 7 ∷ []) 1 f (flash_of (ok_put (build g) slot0 true f.in0) f.in1 f.in2) a f'
unfolding confirming confirm_if_needed one_of
confirming_ends {g} {f} q =
    let whole : Flash = flash_of (ok_put (build g) slot0 true f.in0) f.in1 f.in2 in
    promised_ends confirming 7 1 f whole (confirm_if_needed g f) q refl (λ geo.
    needed_ends (1 ∷ 2 ∷ 6 ∷ 7 ∷ []) 1 f whole Refusal.Needs g (ok_ops (build g) slot0 true) (confirmable g f) refl
    (length_ok (build g) slot0 true) (run_ok geo slot0 true f)
    (confirmable_fresh g geo f))
