-- After confirming, the next power-up decides as before, but that a revert is none: it reads in slot 0's trailer what confirming wrote there.
-- ---- after confirming: what was a revert is none, and all else is as before
use Rattle.std.specs.Prelude.{◌≡◌, List, Bool, ◌&&◌, ℕ, length, take, Ok}
use Rattle.std.proofs.Math.Path.{refl}
use Rattle.std.proofs.Common.{sym, ap, ◌∙◌, arith}
use Rattle.std.proofs.Math.Bool.{true, false}
use Rattle.std.proofs.lemmas.Bool.{false≢true}
use Rattle.spans.specs.Choice.{pick}
use Rattle.spans.specs.Laws.{part_put, part_put_before}
use Rattle.flash.specs.declared.Geometry.{Geometry}
use Rattle.flash.specs.Build.{slot0, slot1, scratch, Build, Flash, lent_bytes}
use Rattle.flash.specs.Base.{build}
use Rattle.trailer.specs.declared.Mark.{Mark}
use Rattle.trailer.specs.Trailer.{trailer, ok_at, copy_done_at, magic_of, is_good, is_no_magic, mark_of, mark_bytes, is_unset, has_value}
use Rattle.plan.specs.declared.Course.{Course}
use Rattle.plan.specs.declared.Course.TheVariants.{Damage, FromLineThree, Resume, Test, Permanent, Revert, Clear, Nothing}
use Rattle.plan.specs.Asked.{asked_by}
use Rattle.plan.specs.AskedBefore.{not_b}
use Rattle.plan.specs.Decision.{state_c, asks, judged, decide}
use Rattle.recovery.specs.Places.{Geo, unit_small, length_mark}
use Rattle.recovery.specs.Reading.{value_read}
use Rattle.recovery.specs.Validity.{Valid, of_valid}
use Rattle.recovery.specs.Begin.{with_ok, trailer_ok}
use Rattle.answers.specs.declared.Marked.{Marked}
use Rattle.marking.specs.Marking.{confirmable, confirming}
use Rattle.demands.specs.Promise.{Marks}
use Rattle.demands.specs.MarkStatement.{Allowed, unreverted}
use Rattle.demands.proofs.MarkLists.{run_ok}
use Rattle.demands.proofs.Marking.{whole_areas, confirming_needs, confirming_ends}
use Rattle.demands.proofs.Allowed.{confirming_allowed}
use Rattle.demands.proofs.MarkedNext.{free_scratch}

-- copy done 01: the marks are not read
done_not_b : (g : Build) (t0 : List ℕ) → has_value 1 (mark_of g t0 (copy_done_at g)) ≡ true
    → (is_good (magic_of g t0) && is_unset (mark_of g t0 (copy_done_at g))) ≡ false
unfolding has_value is_unset
done_not_b g t0 = go (is_good (magic_of g t0)) (mark_of g t0 (copy_done_at g))
  where
    go : (a : Bool) (m : Mark) → has_value 1 m ≡ true → (a && is_unset m) ≡ false
    go a Mark.Unset h = absurd (false≢true h)
    go true (Mark.Value v) h = refl
    go false (Mark.Value v) h = refl
    go a Mark.Bad h = absurd (false≢true h)

module _ {g : Build} (geo : Geo g) (t0 t1 : List ℕ) where
  done_as_before : mark_of g (with_ok g true t0) (copy_done_at g) ≡ mark_of g t0 (copy_done_at g)
  unfolding with_ok mark_of
  done_as_before = rw (part_put_before t0 (ok_at g).0 (mark_bytes g 1) (copy_done_at g).0 g.unit (omega (arith, unit_small geo, geo.room)))

  confirmed_state : length t0 ≡ g.sector → state_c g (with_ok g true t0) t1 ≡ unreverted (state_c g t0 t1)
  unfolding with_ok state_c is_unset
  confirmed_state s =
      rw (value_read geo (with_ok g true t0) (ok_at g) 1 (omega arith)
      (part_put t0 (ok_at g).0 (mark_bytes g 1) g.unit (length_mark geo 1) (omega (arith, unit_small geo, geo.room))))
      (go (is_good (magic_of g t1) && is_unset (mark_of g t1 (ok_at g))) (is_good (magic_of g t1) && has_value 1 (mark_of g t1 (ok_at g)))
      (is_good (magic_of g (with_ok g true t0)))
      (is_good (magic_of g t0) && (is_unset (mark_of g t0 (ok_at g)) && (has_value 1 (mark_of g t0 (copy_done_at g)) && is_no_magic (magic_of g t1)))))
    where
      go : (a b c d : Bool) → pick a Test (pick b Permanent (pick (c && false) Revert Nothing))
          ≡ unreverted (pick a Test (pick b Permanent (pick d Revert Nothing)))
      go true b c d = refl
      go false true c d = refl
      go false false true true = refl
      go false false true false = refl
      go false false false true = refl
      go false false false false = refl

  -- with copy done 01 and nothing under way under A, C decides, before and after
  confirmed_asks : (t2 : List ℕ) → length t0 ≡ g.sector → is_good (magic_of g t2) ≡ false → has_value 1 (mark_of g t0 (copy_done_at g)) ≡ true
      → asks g (with_ok g true t0) t1 t2 ≡ unreverted (asks g t0 t1 t2)
  confirmed_asks t2 s quiet done =
      not_b g (with_ok g true t0) t1 t2 quiet (done_not_b g (with_ok g true t0) (ap (has_value 1) done_as_before ∙ done))
      ∙ confirmed_state s ∙ sym (ap unreverted (not_b g t0 t1 t2 quiet (done_not_b g t0 done)))

pub confirmed_next : {g : Geometry} {f f' : Flash} {a : Marked} → Marks confirming g f a f' → a.ending ≡ Ok tt
    → asked_by g f' ≡ unreverted (asked_by g f)
unfolding trailer
confirmed_next {g} {f} q w =
    let t0 : List ℕ = trailer (build g) slot0 f in
    let t1 : List ℕ = trailer (build g) slot1 f in
    let t2 : List ℕ = trailer (build g) scratch f in
    let ok : Allowed g f (confirmable g f) = confirming_allowed q w in
    let v : Valid (build g) f = of_valid (build g) f ok.fits in
    ap (asked_by g) (whole_areas (confirming_ends q) w)
    ∙ ap (λ (t : List ℕ). asks (build g) t t1 t2)
    (ap (trailer (build g) slot0) (sym (run_ok v.geo slot0 true f)) ∙ trailer_ok v.geo slot0 true f)
    ∙ confirmed_asks v.geo t0 t1 t2 (v.sized slot0) (free_scratch (build g) t0 t1 t2 ok.free) (confirming_needs g f ok.met).1.0

-- so no power-up reverts what was confirmed, whatever its check says
pub confirmed_stays : (check : List ℕ → Bool) {g : Geometry} {f f' : Flash} {a : Marked} → Marks confirming g f a f'
    → a.ending ≡ Ok tt → decide check (build g) f' ≡ Revert → ⊥
unfolding decide judged
confirmed_stays check {g} {f} {f'} q w h =
    go (check (take (lent_bytes (build g)).0 f'.in1)) (asked_by g f)
    (ap (judged (check (take (lent_bytes (build g)).0 f'.in1))) (sym (confirmed_next q w)) ∙ h)
  where
    go : (b : Bool) (c : Course) → judged b (unreverted c) ≡ Revert → ⊥
    go b Damage h = let z : ◌≡◌ {A = ℕ} 0 1 = cc in omega arith
    go b (FromLineThree p) h = let z : ◌≡◌ {A = ℕ} 0 1 = cc in omega arith
    go b (Resume c) h = let z : ◌≡◌ {A = ℕ} 0 1 = cc in omega arith
    go true Test h = let z : ◌≡◌ {A = ℕ} 0 1 = cc in omega arith
    go false Test h = let z : ◌≡◌ {A = ℕ} 0 1 = cc in omega arith
    go true Permanent h = let z : ◌≡◌ {A = ℕ} 0 1 = cc in omega arith
    go false Permanent h = let z : ◌≡◌ {A = ℕ} 0 1 = cc in omega arith
    go b Revert h = let z : ◌≡◌ {A = ℕ} 0 1 = cc in omega arith
    go b Clear h = let z : ◌≡◌ {A = ℕ} 0 1 = cc in omega arith
    go b Nothing h = let z : ◌≡◌ {A = ℕ} 0 1 = cc in omega arith
