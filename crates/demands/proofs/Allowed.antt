-- Marking and confirming write exactly where document 01 allows it: geometry and lengths are right, nothing is under way or damaged, and
-- the needs are met. However they end, only slot 1's trailer sector (marking), only slot 0's (confirming) is not as before.
use Rattle.std.specs.Prelude.{◌≡◌, refl, List, [], ◌∷◌, ◌++◌, Bool, true, false, ℕ, Ok}
use Rattle.std.proofs.Common.{sym, ap, ◌∙◌, arith}
use Rattle.spans.specs.Choice.{pick}
use Rattle.flash.specs.declared.Geometry.{Geometry}
use Rattle.flash.specs.Build.{slot0, slot1, Build, Flash, valid}
use Rattle.flash.specs.Base.{build}
use Rattle.flash.specs.Operations.{Op}
use Rattle.plan.specs.Asked.{asked_by}
use Rattle.plan.specs.Lists.{ok_ops, magic_ops}
use Rattle.recovery.specs.Places.{Geo}
use Rattle.recovery.specs.Named.{Place, Only, trailer_of}
use Rattle.recovery.specs.Statement.{sector_of}
use Rattle.recovery.specs.Validity.{of_valid}
use Rattle.recovery.proofs.Fresh.{Fresh}
use Rattle.answers.specs.declared.Refusal.{Refusal}
use Rattle.answers.specs.declared.Marked.{Marked}
use Rattle.marking.specs.Marking.{MarkResult, refused_mark, wrote_all, unless_under_way, unless_refused, unmarked, mark_unless_marked, marking, confirmable, confirm_if_needed, confirming}
use Rattle.marking.specs.Standing.{standing_of}
use Rattle.marking.specs.MarkLaws.{stands_free}
use Rattle.marking.specs.Counts.{by_refusals}
use Rattle.demands.specs.Promise.{Marks}
use Rattle.demands.specs.MarkStatement.{MarkEnds, writes, refuses, Allowed}
use Rattle.demands.proofs.MarkLists.{run_ok, run_marking, ok_only, marks_only}
use Rattle.demands.proofs.Marking.{fresh_wrote, unmarked_fresh, marking_ends, confirmable_fresh, confirming_ends}

written_allowed : (g : Geometry) (f : Flash) (needs : Bool) (ops : List Op) (r : Refusal)
    → (unless_refused g f (pick needs (wrote_all g ops f) (refused_mark r f))).answer.ending ≡ Ok tt → Allowed g f needs
unfolding refused_mark
written_allowed g f needs ops r =
    by_refusals (λ m. m.answer.ending ≡ Ok tt → Allowed g f needs) g f (pick needs (wrote_all g ops f) (refused_mark r f))
    (λ h. absurd (let z : ◌≡◌ {A = ℕ} 0 1 = cc in omega arith)) (λ h. absurd (let z : ◌≡◌ {A = ℕ} 0 1 = cc in omega arith))
    (λ h. absurd (let z : ◌≡◌ {A = ℕ} 0 1 = cc in omega arith)) (λ v s. go needs refl v s)
  where
    go : (b : Bool) → needs ≡ b → valid (build g) f ≡ true → standing_of (asked_by g f) ≡ Ok tt
        → (pick b (wrote_all g ops f) (refused_mark r f)).answer.ending ≡ Ok tt → Allowed g f needs
    go true e v s h = record { fits = v; free = s; met = e }
    go false e v s h = absurd (let z : ◌≡◌ {A = ℕ} 0 1 = cc in omega arith)

pub marking_allowed : (p : Bool) {g : Geometry} {f f' : Flash} {a : Marked} → Marks (marking p) g f a f' → a.ending ≡ Ok tt
    → Allowed g f (unmarked g f)
unfolding marking mark_unless_marked
marking_allowed p {g} {f} q h =
    written_allowed g f (unmarked g f) (ok_ops (build g) slot1 p ++ magic_ops (build g) slot1) Refusal.Marks
    (ap (λ (r : MarkResult). r.answer.ending) (sym q.promised) ∙ h)

pub confirming_allowed : {g : Geometry} {f f' : Flash} {a : Marked} → Marks confirming g f a f' → a.ending ≡ Ok tt
    → Allowed g f (confirmable g f)
unfolding confirming confirm_if_needed
confirming_allowed {g} {f} q h =
    written_allowed g f (confirmable g f) (ok_ops (build g) slot0 true) Refusal.Needs
    (ap (λ (r : MarkResult). r.answer.ending) (sym q.promised) ∙ h)

-- ---- and nowhere is it refused that is so

allowed_written : (g : Geometry) (f : Flash) (needs : Bool) (ops : List Op) (r : Refusal) → Allowed g f needs → Fresh (build g) ops f
    → (unless_refused g f (pick needs (wrote_all g ops f) (refused_mark r f))).answer.ending ≡ Ok tt
unfolding unless_refused
allowed_written g f needs ops r ok fresh =
    let otherwise : MarkResult = pick needs (wrote_all g ops f) (refused_mark r f) in
    ap (λ (m : MarkResult). m.answer.ending)
    (ap (λ (b : Bool). pick b (unless_under_way (asked_by g f) f otherwise) (refused_mark Refusal.Geometry f)) ok.fits
    ∙ sym (stands_free (asked_by g f) f otherwise ok.free)
    ∙ ap (λ (b : Bool). pick b (wrote_all g ops f) (refused_mark r f)) ok.met ∙ fresh_wrote g ops f fresh)

pub allowed_marking : (p : Bool) {g : Geometry} {f f' : Flash} {a : Marked} → Marks (marking p) g f a f' → Allowed g f (unmarked g f)
    → a.ending ≡ Ok tt
unfolding marking mark_unless_marked
allowed_marking p {g} {f} q ok =
    ap (λ (r : MarkResult). r.answer.ending) q.promised
    ∙ allowed_written g f (unmarked g f) (ok_ops (build g) slot1 p ++ magic_ops (build g) slot1) Refusal.Marks ok
    (unmarked_fresh p g (of_valid (build g) f ok.fits).geo f ok.met)

pub allowed_confirming : {g : Geometry} {f f' : Flash} {a : Marked} → Marks confirming g f a f' → Allowed g f (confirmable g f)
    → a.ending ≡ Ok tt
unfolding confirming confirm_if_needed
allowed_confirming {g} {f} q ok =
    ap (λ (r : MarkResult). r.answer.ending) q.promised
    ∙ allowed_written g f (confirmable g f) (ok_ops (build g) slot0 true) Refusal.Needs ok
    (confirmable_fresh g (of_valid (build g) f ok.fits).geo f ok.met)

-- ---- only slot 1's trailer sector, only slot 0's, is not as before, however it ends

ends_only : {numbers : List ℕ} {count : ℕ} {f whole f' : Flash} {a : Marked} (g : Build) (places : List Place)
    → MarkEnds numbers count f whole a f' → (a.ending ≡ Ok tt → Only g places f whole) → Only g places f f'
ends_only g places (writes e c h) o b k n = ap (λ (x : Flash). sector_of g x b k) h ∙ o e b k n
ends_only g places (refuses r m e c h) o b k n = ap (λ (x : Flash). sector_of g x b k) h

pub marking_only : (p : Bool) {g : Geometry} {f f' : Flash} {a : Marked} → Marks (marking p) g f a f'
    → Only (build g) (trailer_of (build g) slot1 ∷ []) f f'
marking_only p {g} {f} q =
    ends_only (build g) (trailer_of (build g) slot1 ∷ []) (marking_ends p q) (λ w.
    let geo : Geo (build g) = (of_valid (build g) f (marking_allowed p q w).fits).geo in
    rw (← run_marking geo slot1 p f) (marks_only geo slot1 p f))

pub confirming_only : {g : Geometry} {f f' : Flash} {a : Marked} → Marks confirming g f a f'
    → Only (build g) (trailer_of (build g) slot0 ∷ []) f f'
confirming_only {g} {f} q =
    ends_only (build g) (trailer_of (build g) slot0 ∷ []) (confirming_ends q) (λ w.
    let geo : Geo (build g) = (of_valid (build g) f (confirming_allowed q w).fits).geo in
    rw (← run_ok geo slot0 true f) (ok_only geo slot0 true f))
