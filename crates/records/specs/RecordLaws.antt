-- Laws of what stands at a place of an area of records, and of the area as its records.
use Rattle.std.specs.Prelude.{◌≡◌, refl, List, [], ◌∷◌, ℕ, zero, suc, ◌+◌, ◌-◌, ◌≤◌, ◌<◌, Bool, true, false, ◌⊎◌, ltb, get_or, take, drop}
use Rattle.std.proofs.Common.{ap, ◌∙◌, le_refl, inl, inr, ⊎_elim, length-drop, take_all}
use native.Mathlib.Omega.{arith}
use borrow.Author.Tests.{le-leb, lt-leb, ltb-true, ltb-false, eq-eqb, ne_eqb}
use Rattle.std.proofs.Math.ListN.{length}
use Rattle.spans.specs.Laws.{length_part}
use Rattle.fields.specs.Fields.{field}
use Rattle.records.specs.Records.{Trailing, Split, digests, record_of, record_at, step_at, after, first_then, split_in, records}
use Rattle.records.specs.declared.Step.{Step}
use Rattle.records.specs.declared.Step.TheVariants.{End, Stump, Record}

module _ (xs : List ℕ) (at : ℕ) where
  pub step_end : length xs ≤ at → step_at xs at ≡ End
  unfolding step_at
  step_end h = rw (le-leb _ _ h)

  pub step_short : at < length xs → length xs < at + 4 → step_at xs at ≡ Stump
  unfolding step_at
  step_short h k = rw (lt-leb _ _ h, lt-leb _ _ k)

  pub step_cut : at + 4 ≤ length xs → length xs < at + 4 + field xs (at + 2) 2 → step_at xs at ≡ Stump
  unfolding step_at record_at
  step_cut h k = let p : at < length xs = omega arith in rw (lt-leb _ _ p, le-leb _ _ h, lt-leb _ _ k)

  pub step_record : at + 4 ≤ length xs → at + 4 + field xs (at + 2) 2 ≤ length xs → step_at xs at ≡ Record (get_or xs at 0) (at + 4)
      (field xs (at + 2) 2)
  unfolding step_at record_at
  step_record h k = let p : at < length xs = omega arith in rw (lt-leb _ _ p, le-leb _ _ h, le-leb _ _ k)

-- What a step found says of the area: the bytes of a record lie in it, behind its four.
pub record Whole (xs : List ℕ) (at kind start size : ℕ) : Type 0 where
  pub kind_is : kind ≡ get_or xs at 0
  pub start_is : start ≡ at + 4
  pub size_is : size ≡ field xs (at + 2) 2
  pub within : start + size ≤ length xs

pub data Stands (xs : List ℕ) (at : ℕ) : Step → Type 0 where
  ends : length xs ≤ at → Stands xs at End
  stump : at < length xs → Stands xs at Stump
  whole : {kind start size : ℕ} → Whole xs at kind start size → Stands xs at (Record kind start size)

pub less : (a b : ℕ) → (a < b) ⊎ (b ≤ a)
less a b = by (ltb a b) refl
  where
    by : (t : Bool) → ltb a b ≡ t → (a < b) ⊎ (b ≤ a)
    by true e = inl (ltb-true a b e)
    by false e = inr (ltb-false a b e)

pub stands : (xs : List ℕ) (at : ℕ) → Stands xs at (step_at xs at)
stands xs at = ⊎_elim some (λ h. rw (step_end xs at h) (ends h)) (less at (length xs))
  where
    found : at + 4 ≤ length xs → (at + 4 + field xs (at + 2) 2 ≤ length xs) → Stands xs at (step_at xs at)
    found h k = rw (step_record xs at h k) (whole (record { kind_is = refl; start_is = refl; size_is = refl; within = k }))

    headed : at < length xs → at + 4 ≤ length xs → Stands xs at (step_at xs at)
    headed p h = ⊎_elim (λ k. rw (step_cut xs at h k) (stump p)) (found h) (less (length xs) (at + 4 + field xs (at + 2) 2))

    some : at < length xs → Stands xs at (step_at xs at)
    some p = ⊎_elim (λ k. rw (step_short xs at p k) (stump p)) (headed p) (less (length xs) (at + 4))

pub whole_of : (xs : List ℕ) (at kind start size : ℕ) → step_at xs at ≡ Record kind start size → Whole xs at kind start size
whole_of xs at kind start size e = opened (rw e at (stands xs at))
  where
    opened : Stands xs at (Record kind start size) → Whole xs at kind start size
    opened (whole w) = w

pub stump_of : (xs : List ℕ) (at : ℕ) → step_at xs at ≡ Stump → at < length xs
stump_of xs at e = opened (rw e at (stands xs at))
  where
    opened : Stands xs at Stump → at < length xs
    opened (stump p) = p

-- ---- the area as its records, with no count of what may still come

-- The rest behind a first record may be split with any count that is no less than its length.
later : (f g : ℕ) (xs : List ℕ) → ((ys : List ℕ) → length ys ≤ f → length ys ≤ g → split_in f ys ≡ split_in g ys)
    → (s : Step) → Stands xs 0 s → length xs ≤ suc f → (4 ≤ after s → length (drop (after s) xs) ≤ g)
    → first_then s xs (split_in f (drop (after s) xs)) ≡ first_then s xs (split_in g (drop (after s) xs))
unfolding first_then after
later f g xs ih End w h k = refl
later f g xs ih Stump w h k = refl
later f g xs ih (Record kind start size) (whole w) h k =
    let l : length (drop (start + size) xs) ≤ f = simp length-drop (omega arith) in
    ap (λ (r : Split). first_then (Record kind start size) xs r) (ih (drop (start + size) xs) l (k (omega arith)))

enough : (f g : ℕ) (xs : List ℕ) → length xs ≤ f → length xs ≤ g → split_in f xs ≡ split_in g xs
unfolding split_in first_then step_at
enough zero zero xs h k = refl
enough zero (suc g) [] h k = refl
enough zero (suc g) (x ∷ xs) h k = absurd (omega arith)
enough (suc f) zero [] h k = refl
enough (suc f) zero (x ∷ xs) h k = absurd (omega arith)
enough (suc f) (suc g) xs h k = later f g xs (enough f g) (step_at xs 0) (stands xs 0) h (λ p. simp length-drop (omega arith))

pub records_step : (xs : List ℕ) → records xs ≡ first_then (step_at xs 0) xs (records (drop (after (step_at xs 0)) xs))
unfolding records split_in step_at first_then
records_step [] = refl
records_step (x ∷ xs) =
    let n = length (drop (after (step_at (x ∷ xs) 0)) (x ∷ xs)) in
    later (length xs) n (x ∷ xs) (enough (length xs) n) (step_at (x ∷ xs) 0) (stands (x ∷ xs) 0) (le_refl _) (λ p. le_refl _)

-- ---- the records of type 1

module _ (at : ℕ) (r : Trailing) (rs : List Trailing) (size : ℕ) (sized : length r.bytes ≡ size) where
  pub digests_one : r.kind ≡ 1 → digests at (r ∷ rs) ≡ record { at = at + 4; size = size } ∷ digests (at + (4 + size)) rs
  unfolding digests
  digests_one e = rw (eq-eqb r.kind 1 e, sized)

  pub digests_other : (r.kind ≡ 1 → ⊥) → digests at (r ∷ rs) ≡ digests (at + (4 + size)) rs
  unfolding digests
  digests_other d = rw (ne_eqb r.kind 1 d, sized)

-- the record that a step found: its type and its length are those of the bytes there
pub record_sized : (xs : List ℕ) (kind start size : ℕ) → Whole xs 0 kind start size → length (record_of xs size).bytes ≡ size
unfolding record_of
record_sized xs kind start size w = length_part xs 4 size (omega arith)

-- the rest of an area, as a part of a slice from a place on has it
pub rest_is : (xs : List ℕ) (n : ℕ) → take (length xs - n) (drop n xs) ≡ drop n xs
rest_is xs n = let l : length (drop n xs) ≤ length xs - n = simp length-drop (omega arith) in take_all (length xs - n) (drop n xs) l

pub length_rest : (xs : List ℕ) (n : ℕ) → length (take (length xs - n) (drop n xs)) ≡ length xs - n
length_rest xs n = ap length (rest_is xs n) ∙ length-drop n xs
