-- What a step of the walk comes to.
use Rattle.std.specs.Prelude.{◌≡◌, refl, List, [], ◌∷◌, ℕ, ◌+◌, ◌<◌, length, drop}
use Rattle.std.proofs.Common.{sym, ◌∙◌, arith}
use Rattle.std.proofs.Math.ListN.{get_or}
use Rattle.records.specs.Records.{step_at, after, first_then, record_of, records, digests}
use Rattle.records.specs.RecordLaws.{whole_of, stump_of, records_step, record_sized, digests_one, digests_other}
use Rattle.records.specs.Walk.{Walked, Short, Filled, counted, unless_over, walked}
use Rattle.records.specs.declared.Step.TheVariants.{End, Stump, Record}

over : (xs : List ℕ) (w : Walked) → 0 < length xs → unless_over xs w ≡ Short
unfolding unless_over
over [] w h = absurd (omega arith)
over (x ∷ xs) w h = refl

module _ (xs : List ℕ) (at n place size : ℕ) where
  pub walk_end : step_at xs 0 ≡ End → walked (records xs) at n place size ≡ Filled n place size
  unfolding walked first_then unless_over digests counted
  walk_end e = rw (records_step xs, e)

  pub walk_stump : step_at xs 0 ≡ Stump → walked (records xs) at n place size ≡ Short
  unfolding walked first_then
  walk_stump e = rw (records_step xs, e) (over xs _ (stump_of xs 0 e))

  walk_digest : (start size' : ℕ) → step_at xs 0 ≡ Record 1 start size'
      → walked (records xs) at n place size ≡ walked (records (drop (start + size') xs)) (at + (start + size')) (n + 1) (at + start) size'
  unfolding walked first_then after record_of counted
  walk_digest start size' e =
      let w = whole_of xs 0 1 start size' e in
      let four : start ≡ 4 = w.start_is in
      rw (
        records_step xs,
        e,
        digests_one at (record_of xs size') (records (drop (start + size') xs)).found size'
            (record_sized xs 1 start size' w) (sym w.kind_is),
        four,
      )

  walk_other : (kind start size' : ℕ) → (kind ≡ 1 → ⊥) → step_at xs 0 ≡ Record kind start size'
      → walked (records xs) at n place size ≡ walked (records (drop (start + size') xs)) (at + (start + size')) n place size
  unfolding walked first_then after record_of
  walk_other kind start size' d e =
      let w = whole_of xs 0 kind start size' e in
      let four : start ≡ 4 = w.start_is in
      let other : get_or xs 0 0 ≡ 1 → ⊥ = λ f. d (w.kind_is ∙ f) in
      rw (
        records_step xs,
        e,
        digests_other at (record_of xs size') (records (drop (start + size') xs)).found size'
            (record_sized xs kind start size' w) other,
        four,
      )

-- a step of the walk: the area comes to what the call on its rest does
module _ (xs rest : List ℕ) (at n place size start size' : ℕ) (rest_is : rest ≡ drop (start + size') xs) where
  pub on_digest : step_at xs 0 ≡ Record 1 start size'
      → walked (records xs) at n place size ≡ walked (records rest) (at + (start + size')) (n + 1) (at + start) size'
  on_digest e = rw rest_is (walk_digest xs at n place size start size' e)

  pub on_other : (kind : ℕ) → (kind ≡ 1 → ⊥) → step_at xs 0 ≡ Record kind start size'
      → walked (records xs) at n place size ≡ walked (records rest) (at + (start + size')) n place size
  on_other kind d e = rw rest_is (walk_other xs at n place size kind start size' d e)
