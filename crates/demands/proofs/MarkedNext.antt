-- After marking, the next power-up decides for test or permanent: it reads in slot 1's trailer what marking wrote there.
-- ---- where no exchange is under way, C decides, whatever slot 1 says
use Rattle.std.specs.Prelude.{◌≡◌, refl, List, Bool, true, false, ◌&&◌, not, ℕ, ◌+◌, ◌*◌, length, take, eqb, leb, Ok}
use Rattle.std.proofs.Common.{sym, ap, ap₂, ◌∙◌, arith}
use Rattle.spans.specs.Bytes.{put}
use Rattle.spans.specs.Choice.{pick, both}
use Rattle.spans.specs.Laws.{length_put, take_put_before}
use Rattle.flash.specs.Geometry.{data_bytes}
use Rattle.flash.specs.declared.Geometry.{Geometry}
use Rattle.flash.specs.Build.{Area, slot0, slot1, scratch, Build, Flash, area}
use Rattle.flash.specs.Base.{base, build}
use Rattle.flash.specs.Operations.{run_all}
use Rattle.trailer.specs.Trailer.{trailer, magic_at, ok_at, copy_done_at, magic_bytes, magic_of, is_good, is_no_magic, mark_of, mark_bytes, is_unset, has_value, written, legal}
use Rattle.causes.specs.Check.{accepted}
use Rattle.plan.specs.declared.Course.{Course}
use Rattle.plan.specs.declared.Course.TheVariants.{Damage, Resume}
use Rattle.plan.specs.Lists.{place_in, ok_ops, magic_ops}
use Rattle.plan.specs.Asked.{flash_of, asked_by}
use Rattle.plan.specs.AskedBefore.{state_i, state_ii, by_a}
use Rattle.plan.specs.Decision.{step_a, continue, step_b, state_c, asks, judged, decide}
use Rattle.plan.specs.DecisionLaws.{accepted_course, decide_checked}
use Rattle.recovery.specs.Cuts.{run_all_append}
use Rattle.recovery.specs.Places.{Geo, trailer_magic}
use Rattle.recovery.specs.Reading.{unset_blank, unset_read}
use Rattle.recovery.specs.Statement.{Due, Exchange, by_test, by_permanent}
use Rattle.recovery.specs.Validity.{Valid, of_valid, valid_same}
use Rattle.recovery.specs.Begin.{with_ok, trailer_ok, marked_good, marked_01, marked_unset}
use Rattle.answers.specs.declared.Marked.{Marked}
use Rattle.loader.specs.PowerUp.{data_of}
use Rattle.marking.specs.Marking.{unmarked, marking}
use Rattle.marking.specs.Standing.{standing_of}
use Rattle.demands.specs.Promise.{Marks}
use Rattle.demands.specs.MarkStatement.{ok_put, magic_put, Allowed, marked_for}
use Rattle.demands.proofs.MarkLists.{run_marking}
use Rattle.demands.proofs.Marking.{whole_areas, marking_ends}
use Rattle.demands.proofs.Allowed.{marking_allowed}

not_free_a : (g : Build) (t2 : List ℕ) → standing_of (step_a g t2) ≡ Ok tt → ⊥
unfolding standing_of
not_free_a g t2 =
    by_a (λ c. standing_of c ≡ Ok tt → ⊥) (λ p h. let z : ◌≡◌ {A = ℕ} 0 1 = cc in omega arith)
    (λ h. let z : ◌≡◌ {A = ℕ} 0 1 = cc in omega arith) g t2

pub free_scratch : (g : Build) (t0 t1 t2 : List ℕ) → standing_of (asks g t0 t1 t2) ≡ Ok tt → is_good (magic_of g t2) ≡ false
unfolding asks
free_scratch g t0 t1 t2 = go (is_good (magic_of g t2))
  where
    go : (a : Bool) → standing_of (pick a (step_a g t2) (step_b g t0 (state_c g t0 t1))) ≡ Ok tt → a ≡ false
    go true h = absurd (not_free_a g t2 h)
    go false h = refl

free_c : (g : Build) (t0 t1 t1' t2 : List ℕ) → standing_of (asks g t0 t1 t2) ≡ Ok tt → asks g t0 t1' t2 ≡ state_c g t0 t1'
unfolding asks step_b continue standing_of
free_c g t0 t1 t1' t2 =
    go (is_good (magic_of g t2)) (is_good (magic_of g t0) && is_unset (mark_of g t0 (copy_done_at g)))
    (legal g t0 c 0 (3 * g.sectors)) (eqb c 0) (leb 3 c && leb c (3 + length g.moves))
  where
    c : ℕ
    c = written g t0 0 (3 * g.sectors)

    chosen : Bool → Bool → Bool → Bool → Bool → Course → Course
    chosen a b l z r other = pick a (step_a g t2) (pick b (pick (not l) Damage (pick z other (pick r (Resume c) Damage))) other)

    go : (a b l z r : Bool) → standing_of (chosen a b l z r (state_c g t0 t1)) ≡ Ok tt → chosen a b l z r (state_c g t0 t1')
        ≡ state_c g t0 t1'
    go true b l z r h = absurd (not_free_a g t2 h)
    go false false l z r h = refl
    go false true false z r h = absurd (let w : ◌≡◌ {A = ℕ} 0 1 = cc in omega arith)
    go false true true true r h = refl
    go false true true false true h = absurd (let w : ◌≡◌ {A = ℕ} 0 1 = cc in omega arith)
    go false true true false false h = absurd (let w : ◌≡◌ {A = ℕ} 0 1 = cc in omega arith)

-- ---- after marking: test, or permanent

-- slot 1's trailer sector, where it was unmarked, has Good magic and the image ok that was chosen
marked_state : {g : Build} → Geo g → (t0 t1 : List ℕ) → length t1 ≡ g.sector → is_unset (mark_of g t1 (ok_at g)) ≡ true → (p : Bool)
    → state_c g t0 (put (with_ok g p t1) (magic_at g).0 magic_bytes) ≡ marked_for p
unfolding is_unset has_value
marked_state {g} geo t0 t1 s u true =
    let t : List ℕ = put (with_ok g true t1) (magic_at g).0 magic_bytes in
    state_ii g t0 t t (marked_good geo t1 s true) (rw (marked_01 geo t1 s)) (rw (marked_01 geo t1 s))
marked_state {g} geo t0 t1 s u false =
    let t : List ℕ = put (with_ok g false t1) (magic_at g).0 magic_bytes in
    state_i g t0 t t (marked_good geo t1 s false) (unset_read geo t (ok_at g) (marked_unset geo t1 s ∙ unset_blank g t1 (ok_at g) u))

trailer_marked : {g : Build} → Geo g → (p : Bool) (f : Flash)
    → trailer g slot1 (flash_of f.in0 (magic_put g slot1 (ok_put g slot1 p f.in1)) f.in2)
    ≡ put (with_ok g p (trailer g slot1 f)) (magic_at g).0 magic_bytes
trailer_marked {g} geo p f =
    ap (trailer g slot1) (sym (run_marking geo slot1 p f) ∙ run_all_append g (ok_ops g slot1 p) (magic_ops g slot1) f)
    ∙ trailer_magic geo slot1 (run_all g (ok_ops g slot1 p) f)
    ∙ ap (λ (t : List ℕ). put t (magic_at g).0 magic_bytes) (trailer_ok geo slot1 p f)

pub marked_next : (p : Bool) {g : Geometry} {f f' : Flash} {a : Marked} → Marks (marking p) g f a f' → a.ending ≡ Ok tt
    → asked_by g f' ≡ marked_for p
unfolding unmarked trailer
marked_next p {g} {f} q w =
    let t0 : List ℕ = trailer (build g) slot0 f in
    let t1 : List ℕ = trailer (build g) slot1 f in
    let t2 : List ℕ = trailer (build g) scratch f in
    let ok : Allowed g f (unmarked g f) = marking_allowed p q w in
    let v : Valid (build g) f = of_valid (build g) f ok.fits in
    let u = both (is_unset (mark_of (build g) t1 (ok_at (build g)))) (is_no_magic (magic_of (build g) t1)) ok.met in
    ap (asked_by g) (whole_areas (marking_ends p q) w)
    ∙ ap (λ (t : List ℕ). asks (build g) t0 t t2) (trailer_marked v.geo p f)
    ∙ free_c (build g) t0 t1 (put (with_ok (build g) p t1) (magic_at (build g)).0 magic_bytes) t2 ok.free
    ∙ marked_state v.geo t0 t1 (v.sized slot1) u.0 p

-- slot 1 is as long as it was, and so are its data
length_marked : (g : Build) (p : Bool) (xs : List ℕ) → length (magic_put g slot1 (ok_put g slot1 p xs)) ≡ length xs
unfolding magic_put ok_put
length_marked g true xs =
    length_put (put xs (place_in g slot1 (ok_at g)).0 (mark_bytes g 1)) (place_in g slot1 (magic_at g)).0 magic_bytes
    ∙ length_put xs (place_in g slot1 (ok_at g)).0 (mark_bytes g 1)
length_marked g false xs = length_put xs (place_in g slot1 (magic_at g)).0 magic_bytes

data_marked : (g : Geometry) (p : Bool) (xs : List ℕ) → data_of g (magic_put (build g) slot1 (ok_put (build g) slot1 p xs)) ≡ data_of g xs
unfolding magic_put ok_put data_of base
data_marked g p xs =
    take_put_before (ok_put (build g) slot1 p xs) (data_bytes g).0 (place_in (build g) slot1 (magic_at (build g))).0 magic_bytes
    (omega arith) ∙ before_ok p
  where
    before_ok : (p : Bool) → take (data_bytes g).0 (ok_put (build g) slot1 p xs) ≡ take (data_bytes g).0 xs
    before_ok true =
        take_put_before xs (data_bytes g).0 (place_in (build g) slot1 (ok_at (build g))).0 (mark_bytes (build g) 1) (omega arith)
    before_ok false = refl

-- so an exchange is due if the image is accepted, and demand 3 speaks of it
pub marked_due : (p : Bool) {g : Geometry} {f f' : Flash} {a : Marked} → Marks (marking p) g f a f' → a.ending ≡ Ok tt
    → accepted (data_of g f.in1) ≡ true → Due accepted (build g) f' (marked_for p) p
unfolding data_of
marked_due p {g} {f} {f'} q w y = record {
  fits = valid_same (build g) f f' lengths ∙ (marking_allowed p q w).fits;
  which = which p;
  decided = decided;
}
  where
    e : f' ≡ flash_of f.in0 (magic_put (build g) slot1 (ok_put (build g) slot1 p f.in1)) f.in2
    e = whole_areas (marking_ends p q) w

    lengths : (a : Area) → length (area a f') ≡ length (area a f)
    lengths slot0 = ap (λ (x : Flash). length x.in0) e
    lengths slot1 = ap (λ (x : Flash). length x.in1) e ∙ length_marked (build g) p f.in1
    lengths scratch = ap (λ (x : Flash). length x.in2) e

    which : (p : Bool) → Exchange (marked_for p) p
    which true = by_permanent
    which false = by_test

    decided : decide accepted (build g) f' ≡ marked_for p
    decided =
        decide_checked accepted g f'
        ∙ ap₂ judged (ap (λ (x : Flash). accepted (data_of g x.in1)) e ∙ ap accepted (data_marked g p f.in1) ∙ y) (marked_next p q w)
        ∙ accepted_course (marked_for p)
