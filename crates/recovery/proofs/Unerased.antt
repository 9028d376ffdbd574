-- No write of a power-up meets a unit that is not erased, from any areas whatever: the lists by their course.
-- ---- what a decision to resume rests on
use Rattle.std.proofs.Math.Path.{◌≡◌, refl, subst}
use Rattle.std.specs.Prelude.{List, [], ◌∷◌, ◌++◌, Bool, ◌&&◌, not, take, drop, eqb, ltb}
use Rattle.std.proofs.Math.Bool.{true, false}
use Prim.Native.Nat.{ℕ, zero, suc, ◌+◌, ◌*◌, ◌-◌, ◌≤◌, ◌<◌}
use Rattle.std.proofs.Common.{arith, length-drop}
use Rattle.std.proofs.Math.ListN.{length}
use Rattle.std.proofs.Math.Dec.{leb}
use borrow.Author.Tests.{ltb-true, ltb-false, le-ltb, leb-true}
use Rattle.spans.specs.Bytes.{part, blank}
use Rattle.spans.specs.Choice.{pick, both}
use Rattle.flash.specs.Geometry.{sector_no}
use Rattle.flash.specs.Build.{Area, slot0, slot1, scratch, Build, Flash, data_sectors, valid, lent_bytes}
use Rattle.flash.specs.Operations.{erase, apply, run_all}
use Rattle.trailer.specs.declared.Mark.{Mark}
use Rattle.trailer.specs.Trailer.{trailer, ok_at, copy_done_at, mark_at, magic_of, mark_of, is_good, is_no_magic, is_unset, has_value, written, legal}
use Rattle.plan.specs.declared.Course.{Course}
use Rattle.plan.specs.declared.Course.TheVariants.{Damage, FromLineThree, Resume, Test, Permanent, Revert, Clear, Nothing}
use Rattle.plan.specs.Lists.{erase_trailer, ok_ops, data_ops, erases, clear_out}
use Rattle.plan.specs.AskedBefore.{by_a}
use Rattle.plan.specs.Decision.{step_a, continue, step_b, state_c, asks, judged, decide, list_of, ok_unset, in_force}
use Rattle.recovery.specs.All.{all_drop}
use Rattle.recovery.specs.Places.{Geo, Sized}
use Rattle.recovery.specs.Reading.{unset_blank}
use Rattle.recovery.specs.Statement.{Sound}
use Rattle.recovery.specs.Validity.{of_valid}
use Rattle.recovery.proofs.Fresh.{end, erasing, fresh_rest, fresh_exchange}
use Rattle.recovery.proofs.Fresh.{Fresh, fresh_append, fresh_ok, fresh_data}

pub record Resumable (g : Build) (t : List ℕ) (c : ℕ) : Type 0 where
  pub low : 3 ≤ c
  pub high : c ≤ 3 + length g.moves
  pub run : legal g t c 0 (3 * g.sectors) ≡ true
  pub unfinished : is_unset (mark_of g t (copy_done_at g)) ≡ true

-- only B resumes
resumed_judged : (accepted : Bool) (course : Course) {c : ℕ} → judged accepted course ≡ Resume c → course ≡ Resume c
unfolding judged
resumed_judged accepted Damage h = h
resumed_judged accepted (FromLineThree p) h = h
resumed_judged accepted (Resume c) h = h
resumed_judged true Test h = h
resumed_judged false Test h = absurd (let z : ◌≡◌ {A = ℕ} 0 1 = cc in omega arith)
resumed_judged true Permanent h = h
resumed_judged false Permanent h = absurd (let z : ◌≡◌ {A = ℕ} 0 1 = cc in omega arith)
resumed_judged true Revert h = h
resumed_judged false Revert h = absurd (let z : ◌≡◌ {A = ℕ} 0 1 = cc in omega arith)
resumed_judged accepted Clear h = h
resumed_judged accepted Nothing h = h

not_by_a : (g : Build) (t : List ℕ) {c : ℕ} → step_a g t ≡ Resume c → ⊥
not_by_a g t {c} =
    by_a (λ d. d ≡ Resume c → ⊥) (λ p h. let z : ◌≡◌ {A = ℕ} 0 1 = cc in omega arith) (λ h. let z : ◌≡◌ {A = ℕ} 0 1 = cc in omega arith) g t

not_by_c : (g : Build) (t0 t1 : List ℕ) {c : ℕ} → state_c g t0 t1 ≡ Resume c → ⊥
unfolding state_c
not_by_c g t0 t1 {c} =
    let ok1 : Mark = mark_of g t1 (ok_at g) in
    go (is_good (magic_of g t1) && is_unset ok1) (is_good (magic_of g t1) && has_value 1 ok1)
    (is_good (magic_of g t0) && (is_unset (mark_of g t0 (ok_at g)) && (has_value 1 (mark_of g t0 (copy_done_at g)) && is_no_magic (magic_of g t1))))
  where
    go : (a b d : Bool) → pick a Test (pick b Permanent (pick d Revert Nothing)) ≡ Resume c → ⊥
    go true b d h = let z : ◌≡◌ {A = ℕ} 0 1 = cc in omega arith
    go false true d h = let z : ◌≡◌ {A = ℕ} 0 1 = cc in omega arith
    go false false true h = let z : ◌≡◌ {A = ℕ} 0 1 = cc in omega arith
    go false false false h = let z : ◌≡◌ {A = ℕ} 0 1 = cc in omega arith

module _ (g : Build) (t0 : List ℕ) (other : Course) {c : ℕ} (never : other ≡ Resume c → ⊥) where
  by_marks : (k : ℕ) → is_unset (mark_of g t0 (copy_done_at g)) ≡ true → continue g t0 k other ≡ Resume c → Resumable g t0 c
  unfolding continue
  by_marks k u = go (legal g t0 k 0 (3 * g.sectors)) (eqb k 0) (leb 3 k) (leb k (3 + length g.moves)) refl refl refl
    where
      go : (l e lo hi : Bool) → legal g t0 k 0 (3 * g.sectors) ≡ l → leb 3 k ≡ lo → leb k (3 + length g.moves) ≡ hi
          → pick (not l) Damage (pick e other (pick (lo && hi) (Resume k) Damage)) ≡ Resume c → Resumable g t0 c
      go false e lo hi pl plo phi h = absurd (let z : ◌≡◌ {A = ℕ} 0 1 = cc in omega arith)
      go true true lo hi pl plo phi h = absurd (never h)
      go true false true true pl plo phi h =
          let same : k ≡ c = cc in
          let high : k ≤ 3 + length g.moves = leb-true k (3 + length g.moves) phi in
          subst (Resumable g t0) same (record { low = leb-true 3 k plo; high = high; run = pl; unfinished = u })
      go true false true false pl plo phi h = absurd (let z : ◌≡◌ {A = ℕ} 0 1 = cc in omega arith)
      go true false false hi pl plo phi h = absurd (let z : ◌≡◌ {A = ℕ} 0 1 = cc in omega arith)

  by_b : step_b g t0 other ≡ Resume c → Resumable g t0 c
  unfolding step_b
  by_b = go (is_good (magic_of g t0)) (is_unset (mark_of g t0 (copy_done_at g))) refl
    where
      k : ℕ
      k = written g t0 0 (3 * g.sectors)

      go : (a b : Bool) → is_unset (mark_of g t0 (copy_done_at g)) ≡ b → pick (a && b) (continue g t0 k other) other ≡ Resume c
          → Resumable g t0 c
      go true true e h = by_marks k e h
      go true false e h = absurd (never h)
      go false b e h = absurd (never h)

pub resume_means : (check : List ℕ → Bool) (g : Build) (f : Flash) {c : ℕ} → decide check g f ≡ Resume c
    → Resumable g (trailer g slot0 f) c
unfolding decide asks
resume_means check g f {c} h =
    go (is_good (magic_of g t2)) (resumed_judged (check (take (lent_bytes g).0 f.in1)) (asks g t0 t1 t2) h)
  where
    t0 : List ℕ
    t0 = trailer g slot0 f

    t1 : List ℕ
    t1 = trailer g slot1 f

    t2 : List ℕ
    t2 = trailer g scratch f

    go : (a : Bool) → pick a (step_a g t2) (step_b g t0 (state_c g t0 t1)) ≡ Resume c → Resumable g t0 c
    go true e = absurd (not_by_a g t2 e)
    go false e = by_b g t0 (state_c g t0 t1) (not_by_c g t0 t1) e

-- marks that are to come are erased
legal_free : (g : Build) (t : List ℕ) (c k r : ℕ) → legal g t c k r ≡ true → (i : ℕ) → c ≤ i → k ≤ i → i < k + r
    → part t (mark_at g i).0 g.unit ≡ blank g.unit
unfolding legal
legal_free g t c k zero h i a b l = absurd (omega arith)
legal_free g t c k (suc r) h i a b l =
    let hs = both (pick (ltb k c) (has_value (g.value k) mark) (is_unset mark)) (legal g t c (suc k) r) h in
    go (legal_free g t c (suc k) r hs.1 i a) hs.0 (ltb k i) refl
  where
    mark : Mark
    mark = mark_of g t (mark_at g k)

    go : (suc k ≤ i → i < suc k + r → part t (mark_at g i).0 g.unit ≡ blank g.unit)
        → pick (ltb k c) (has_value (g.value k) mark) (is_unset mark) ≡ true
        → (b : Bool) → ltb k i ≡ b → part t (mark_at g i).0 g.unit ≡ blank g.unit
    go ih p true e = ih (ltb-true k i e) (omega arith)
    go ih p false e =
        let q : k ≡ i = omega (arith, ltb-false k i e) in
        let n : ltb k c ≡ false = le-ltb k c (omega arith) in
        rw (← q) (unset_blank g t (mark_at g k) (rw n at p))

-- ---- the clear-out

fresh_erases : (g : Build) (a : Area) (i k : ℕ) (f : Flash) → Fresh g (erases a i k) f
unfolding erases
fresh_erases g a i zero f = end
fresh_erases g a i (suc k) f = erasing (fresh_erases g a (suc i) k (apply g (erase a (sector_no i)) f))

erases_slot1 : (g : Build) (i k : ℕ) (f : Flash) → trailer g slot0 (run_all g (erases slot1 i k) f) ≡ trailer g slot0 f
unfolding erases run_all apply trailer
erases_slot1 g i zero f = refl
erases_slot1 g i (suc k) f = erases_slot1 g (suc i) k (apply g (erase slot1 (sector_no i)) f)

fresh_clear_out : {g : Build} → Geo g → (f : Flash) → Fresh g (clear_out g (ok_unset g f)) f
unfolding clear_out ok_unset
fresh_clear_out {g} geo f =
    let m : ℕ = data_sectors g slot1 in
    let p : Bool = ok_unset g f in
    let f₁ : Flash = run_all g (erases slot1 0 m) f in
    fresh_append (erases slot1 0 m) (ok_ops g slot0 p ++ (erase_trailer g slot1 ∷ [])) (fresh_erases g slot1 0 m f)
    (fresh_append (ok_ops g slot0 p) (erase_trailer g slot1 ∷ [])
    (fresh_ok geo slot0 p f₁ (λ q. rw (erases_slot1 g 0 m f) (unset_blank g (trailer g slot0 f) (ok_at g) q))) (erasing end))

-- ---- the list in force

module _ {g : Build} (geo : Geo g) (sound : Sound g) (f : Flash) (z : (a : Area) → Sized g a f) where
  fresh_resumed : (c : ℕ) → Resumable g (trailer g slot0 f) c → Fresh g (data_ops g c (drop (c - 3) g.moves)) f
  fresh_resumed c r =
      let t : List ℕ = trailer g slot0 f in
      let low : 3 ≤ c = r.low in
      let high : c ≤ 3 + length g.moves = r.high in
      fresh_data geo (drop (c - 3) g.moves) c f (all_drop (c - 3) sound.proper)
      (simp length-drop (omega (arith, sound.places))) z
      (record {
        done = unset_blank g t (copy_done_at g) r.unfinished;
        after = λ k a b. legal_free g t c 0 (3 * g.sectors) r.run k a (omega arith) (omega arith);
      })

  fresh_course : (course : Course) → ((c : ℕ) → course ≡ Resume c → Resumable g (trailer g slot0 f) c)
      → Fresh g (list_of g (ok_unset g f) course) f
  unfolding list_of
  fresh_course Damage h = end
  fresh_course (FromLineThree p) h = fresh_rest geo sound p f z
  fresh_course (Resume c) h = fresh_resumed c (h c refl)
  fresh_course Test h = fresh_exchange geo sound false f z
  fresh_course Permanent h = fresh_exchange geo sound true f z
  fresh_course Revert h = fresh_exchange geo sound true f z
  fresh_course Clear h = fresh_clear_out geo f
  fresh_course Nothing h = end

-- from any areas whatever
pub never_unerased : (check : List ℕ → Bool) (g : Build) → Sound g → (f : Flash) → Fresh g (in_force check g f) f
unfolding in_force
never_unerased check g sound f = go (valid g f) refl
  where
    go : (b : Bool) → valid g f ≡ b → Fresh g (pick b (list_of g (ok_unset g f) (decide check g f)) []) f
    go true e = fresh_course (of_valid g f e).geo sound f (of_valid g f e).sized (decide check g f) (λ c. resume_means check g f)
    go false e = end
