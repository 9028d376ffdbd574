-- D and the causes, over what the functions promise: refusal 3 is cause 1 or 2 of slot 0 as it then is, refusal 4 comes with cause 3, 4 or
-- 5, and either comes exactly where it is due.
use Rattle.std.proofs.Math.Path.{◌≡◌, refl, ap, subst}
use Rattle.std.proofs.Common.{sym, ◌∙◌}
use Rattle.std.specs.Prelude.{List, Bool, ℕ, ◌≤◌, length, take, ltb, Ok, Err}
use Rattle.std.proofs.Math.Bool.{true, false}
use Rattle.std.proofs.lemmas.Bool.{false≢true}
use native.Mathlib.Omega.{arith}
use Rattle.spans.specs.Bytes.{part, same}
use Rattle.spans.specs.Choice.{pick}
use Rattle.fips.specs.Fips.{sha256}
use Rattle.flash.specs.declared.Geometry.{Geometry}
use Rattle.flash.specs.Build.{Flash, valid}
use Rattle.flash.specs.Base.{build}
use Rattle.flash.specs.Operations.{run}
use Rattle.causes.specs.declared.Cause.{Cause}
use Rattle.causes.specs.declared.Cause.TheVariants.{HeaderMagic, HeaderSizes, RecordsArea, DigestRecord, DigestDiffers}
use Rattle.causes.specs.Header.{header_size, covered_size, records_area}
use Rattle.causes.specs.Check.{Header, Layout, Verdict, number_of, head, structure, digest_at, check, accepted}
use Rattle.causes.specs.StructureLaws.{Heads, heads, Comes, comes, structure_bad}
use Rattle.plan.specs.Decision.{decide, in_force}
use Rattle.answers.specs.declared.Answer.{Answer}
use Rattle.answers.specs.declared.Refusal.{Refusal}
use Rattle.answers.specs.declared.Outcome.{Outcome}
use Rattle.loader.specs.PowerUp.{Result, judged_start, started, data_of, boot_of, refused, is_damage, full_start}
use Rattle.loader.specs.Results.{damaged}
use Rattle.demands.specs.Promise.{Start}
use Rattle.demands.specs.Statement.{as_listed, MeetsLow, MeetsHigh, ToD}
use Rattle.demands.proofs.AsListed.{as_listed_lem}

-- What D comes to, for slot 0's data bytes: "3 | slot 0, at D, would meet cause 1 or 2", "4 | full start, checking chosen: cause 3, 4 or 5 in
-- slot 0; the cause is given"; else "the answer is its header size as an offset".
pub data AtD (checked : Bool) (xs : List ℕ) : Outcome → Type 0 where
  meets_1_or_2 : (c : Cause) → check xs ≡ Err c → number_of c ≤ 2 → AtD checked xs (Outcome.Refused Refusal.Header)
  meets_3_to_5 : (c : Cause) → check xs ≡ Err c → 3 ≤ number_of c → checked ≡ true → AtD checked xs
      (Outcome.Refused (Refusal.Image c))
  not_checked : (c : Cause) → check xs ≡ Err c → 3 ≤ number_of c → checked ≡ false → AtD checked xs (Outcome.Boot (header_size xs))
  accepts : check xs ≡ Ok tt → AtD checked xs (Outcome.Boot (header_size xs))

numbers : (c : Cause) → (1 ≤ number_of c) × (number_of c ≤ 5)
unfolding number_of
numbers HeaderMagic = (omega arith, omega arith)
numbers HeaderSizes = (omega arith, omega arith)
numbers RecordsArea = (omega arith, omega arith)
numbers DigestRecord = (omega arith, omega arith)
numbers DigestDiffers = (omega arith, omega arith)

-- ---- the header's causes are 1 and 2, those behind it 3 to 5

module _ (xs : List ℕ) where
  low : (c : Cause) → Heads xs (Err c) → number_of c ≤ 2
  unfolding number_of
  low HeaderSizes (Heads.fewer h) = omega arith
  low HeaderMagic (Heads.no_magic l n) = omega arith
  low HeaderSizes (Heads.small_header l m h) = omega arith
  low HeaderSizes (Heads.sum_above l m h) = omega arith
  low RecordsArea w = elim w [ ]
  low DigestRecord w = elim w [ ]
  low DigestDiffers w = elim w [ ]

  high : (l : Layout) → Comes xs (records_area xs) (covered_size xs) l → (c : Cause) → digest_at l xs ≡ Err c → 3 ≤ number_of c
  unfolding number_of digest_at
  high (Err RecordsArea) (Comes.not_filled n) c e = let k : RecordsArea ≡ c = cc in subst (λ (x : Cause). 3 ≤ number_of x) k (omega arith)
  high (Err DigestRecord) (Comes.not_one rs f n) c e =
      let k : DigestRecord ≡ c = cc in subst (λ (x : Cause). 3 ≤ number_of x) k (omega arith)
  high (Ok k) (Comes.sound rs f d o s) c e = go (same (part xs k.digest 32) (sha256 (take k.covered xs))) e
    where
      go : (t : Bool) → ◌≡◌ {A = Verdict} (pick t (Ok tt) (Err DigestDiffers)) (Err c) → 3 ≤ number_of c
      go true e = let z : ◌≡◌ {A = ℕ} 0 1 = cc in absurd (omega arith)
      go false e = let k : DigestDiffers ≡ c = cc in subst (λ (x : Cause). 3 ≤ number_of x) k (omega arith)
  high (Err HeaderMagic) w c e = elim w [ ]
  high (Err HeaderSizes) w c e = elim w [ ]
  high (Err DigestDiffers) w c e = elim w [ ]

  good : (checked : Bool) (v : Verdict) → check xs ≡ v → ((c : Cause) → check xs ≡ Err c → 3 ≤ number_of c)
      → AtD checked xs (pick checked (judged_start (header_size xs) v) (Outcome.Boot (header_size xs)))
  unfolding judged_start
  good true (Ok tt) e h = accepts e
  good false (Ok tt) e h = accepts e
  good true (Err c) e h = meets_3_to_5 c e (h c e) refl
  good false (Err c) e h = not_checked c e (h c e) refl

  pub at_d : (checked : Bool) → AtD checked xs (started checked (head xs) (check xs))
  unfolding started check digest_at
  at_d checked = by (head xs) refl (heads xs)
    where
      by : (h : Header) → head xs ≡ h → Heads xs h → AtD checked xs (started checked h (check xs))
      by (Err c) e w = meets_1_or_2 c (ap (λ (l : Layout). digest_at l xs) (structure_bad xs c e)) (low c w)
      by (Ok t) e (Heads.good s) =
          subst (λ (n : ℕ). AtD checked xs (pick checked (judged_start n (check xs)) (Outcome.Boot n))) (sym s.header_is)
          (good checked (check xs) refl (high (structure xs) (comes xs s.good)))

-- ---- D comes to one thing

module _ {checked : Bool} {xs : List ℕ} where
  three : {o : Outcome} → AtD checked xs o → (c : Cause) → check xs ≡ Err c → number_of c ≤ 2 → o ≡ Outcome.Refused Refusal.Header
  three (meets_1_or_2 d e l) c k m = refl
  three (meets_3_to_5 d e l t) c k m = let same : d ≡ c = cc in absurd (omega (arith, ap number_of same))
  three (not_checked d e l t) c k m = let same : d ≡ c = cc in absurd (omega (arith, ap number_of same))
  three (accepts e) c k m = let z : ◌≡◌ {A = ℕ} 0 1 = cc in absurd (omega arith)

  four : {o : Outcome} → AtD checked xs o → (c : Cause) → check xs ≡ Err c → 3 ≤ number_of c → checked ≡ true
      → o ≡ Outcome.Refused (Refusal.Image c)
  four (meets_1_or_2 d e l) c k m t = let same : d ≡ c = cc in absurd (omega (arith, ap number_of same))
  four (meets_3_to_5 d e l u) c k m t = let same : d ≡ c = cc in ap (λ (x : Cause). Outcome.Refused (Refusal.Image x)) same
  four (not_checked d e l u) c k m t = absurd (false≢true (sym u ∙ t))
  four (accepts e) c k m t = let z : ◌≡◌ {A = ℕ} 0 1 = cc in absurd (omega arith)

  pub boots : {o : Outcome} → AtD checked xs o → check xs ≡ Ok tt → o ≡ Outcome.Boot (header_size xs)
  boots (meets_1_or_2 d e l) k = let z : ◌≡◌ {A = ℕ} 0 1 = cc in absurd (omega arith)
  boots (meets_3_to_5 d e l t) k = let z : ◌≡◌ {A = ℕ} 0 1 = cc in absurd (omega arith)
  boots (not_checked d e l t) k = refl
  boots (accepts e) k = refl

  -- a refusal by its cause
  by_3 : {o : Outcome} → AtD checked xs o → o ≡ Outcome.Refused Refusal.Header → MeetsLow xs
  by_3 (meets_1_or_2 c e l) k = record { cause = c; met = e; least = (numbers c).0; most = omega (arith, l) }
  by_3 (meets_3_to_5 c e l t) k = let z : ◌≡◌ {A = ℕ} 0 1 = cc in absurd (omega arith)
  by_3 (not_checked c e l t) k = let z : ◌≡◌ {A = ℕ} 0 1 = cc in absurd (omega arith)
  by_3 (accepts e) k = let z : ◌≡◌ {A = ℕ} 0 1 = cc in absurd (omega arith)

  by_4 : {o : Outcome} → AtD checked xs o → (c : Cause) → o ≡ Outcome.Refused (Refusal.Image c) → MeetsHigh checked xs c
  by_4 (meets_1_or_2 d e l) c k = let z : ◌≡◌ {A = ℕ} 0 1 = cc in absurd (omega arith)
  by_4 (meets_3_to_5 d e l t) c k =
      let same : d ≡ c = cc in
      record { chosen = t; met = e ∙ ap Err same; least = omega (arith, ap number_of same); most = (numbers c).1 }
  by_4 (not_checked d e l t) c k = let z : ◌≡◌ {A = ℕ} 0 1 = cc in absurd (omega arith)
  by_4 (accepts e) c k = let z : ◌≡◌ {A = ℕ} 0 1 = cc in absurd (omega arith)

-- ---- over what the functions promise

refused_at_d : {a : Answer} (r : Refusal) → a.outcome ≡ Outcome.Refused r → (r ≡ Refusal.Geometry → ⊥) → (r ≡ Refusal.Damage → ⊥) → ToD a
refused_at_d r e n m = record {
  taken = λ d. let k : r ≡ Refusal.Geometry = cc in n k;
  undamaged = λ d. let k : r ≡ Refusal.Damage = cc in m k;
  allowed = λ d. let z : ◌≡◌ {A = ℕ} 0 1 = cc in omega arith;
}

module _ {checked : Bool} {g : Geometry} {b : ℕ} {f f' : Flash} {a : Answer} (q : Start checked g b f a f') where
  pub start_at_d : ToD a → AtD checked (data_of g f'.in0) a.outcome
  unfolding full_start refused as_listed boot_of
  start_at_d to = go (valid (build g) f) refl (is_damage (decide accepted (build g) f)) refl
    where
      by_result : (r : Result) → full_start checked g b f ≡ r → (a.outcome ≡ r.answer.outcome) × (f' ≡ r.flash)
      by_result r e = (
        ap (λ (x : Result). x.answer.outcome) (q.promised ∙ e),
        ap (λ (x : Result). x.flash) (q.promised ∙ e),
      )

      went : Flash
      went = run (build g) b (in_force accepted (build g) f) f

      listed : (t : Bool) → a.outcome ≡ pick t Outcome.Stopped (boot_of checked g went) → f' ≡ went → AtD checked (data_of g f'.in0)
          a.outcome
      listed true e k = absurd (to.allowed e)
      listed false e k = rw (e, k) (at_d (data_of g went.in0) checked)

      go : (v : Bool) → valid (build g) f ≡ v → (d : Bool) → is_damage (decide accepted (build g) f) ≡ d
          → AtD checked (data_of g f'.in0) a.outcome
      go false v d h = absurd (to.taken (by_result (refused Refusal.Geometry f) (rw v)).0)
      go true v true h = absurd (to.undamaged (by_result (refused Refusal.Damage f) (rw v (damaged checked g b f
          (decide accepted (build g) f) h))).0)
      go true v false h =
          let r = by_result (as_listed checked g b f (decide accepted (build g) f)) (as_listed_lem checked g b f
          (decide accepted (build g) f) v refl h) in
          listed (ltb b (length (in_force accepted (build g) f))) r.0 r.1

  -- refusal 3 comes with cause 1 or 2, refusal 4 with cause 3, 4 or 5
  pub refusal_3 : a.outcome ≡ Outcome.Refused Refusal.Header → MeetsLow (data_of g f'.in0)
  refusal_3 e =
      let to : ToD a = refused_at_d Refusal.Header e (λ d. let z : ◌≡◌ {A = ℕ} 0 1 = cc in omega arith)
      (λ d. let z : ◌≡◌ {A = ℕ} 0 1 = cc in omega arith) in
      by_3 (start_at_d to) e

  pub refusal_4 : (c : Cause) → a.outcome ≡ Outcome.Refused (Refusal.Image c) → MeetsHigh checked (data_of g f'.in0) c
  refusal_4 c e =
      let to : ToD a = refused_at_d (Refusal.Image c) e (λ d. let z : ◌≡◌ {A = ℕ} 0 1 = cc in omega arith)
      (λ d. let z : ◌≡◌ {A = ℕ} 0 1 = cc in omega arith) in
      by_4 (start_at_d to) c e

  -- and where they are due they come
  pub refusal_3_due : ToD a → (c : Cause) → check (data_of g f'.in0) ≡ Err c → number_of c ≤ 2
      → a.outcome ≡ Outcome.Refused Refusal.Header
  refusal_3_due to = three (start_at_d to)

  pub refusal_4_due : ToD a → (c : Cause) → check (data_of g f'.in0) ≡ Err c → 3 ≤ number_of c → checked ≡ true
      → a.outcome ≡ Outcome.Refused (Refusal.Image c)
  refusal_4_due to = four (start_at_d to)

  -- so that no cause goes with the other refusal
  pub not_4_of_1_or_2 : (c : Cause) → number_of c ≤ 2 → a.outcome ≡ Outcome.Refused (Refusal.Image c) → ⊥
  not_4_of_1_or_2 c l e = omega (arith, (refusal_4 c e).least)

  pub not_3_of_3_to_5 : (c : Cause) → 3 ≤ number_of c → check (data_of g f'.in0) ≡ Err c → a.outcome ≡ Outcome.Refused Refusal.Header
      → ⊥
  not_3_of_3_to_5 c l k e =
      let m = refusal_3 e in
      let same : m.cause ≡ c = cc m.met in
      omega (arith, m.most, ap number_of same)
