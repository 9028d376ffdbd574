-- What the whole walk over the trailing records comes to.
use Rattle.std.specs.Prelude.{◌≡◌, refl, List, [], ◌∷◌, Bool, true, false, ℕ, ◌+◌, ◌<◌, ◌≤◌, length, eqb, Result, Ok, Err}
use Rattle.std.proofs.Common.{arith, ne_eqb}
use Rattle.spans.specs.Choice.{pick}
use Rattle.records.specs.Records.{Trailing, Split, Place, digests}
use Rattle.records.specs.Walk.{counted, unless_over, walked, place_or_cause}
use Rattle.records.specs.declared.Fault.{Fault}
use Rattle.records.specs.declared.Fault.TheVariants.{NotOneDigest}
use Rattle.causes.specs.Check.{Layout, cause_of_fault, one_digest, filled, layout_of}
use Rattle.causes.specs.declared.Cause.TheVariants.{DigestRecord}

-- the walk's answer, with how many bytes are covered, or as the cause that its fault is
unfoldable pub of_walk : ℕ → Result ℕ Fault → Layout
of_walk covered (Ok place) = Ok (record { covered = covered; digest = place })
of_walk covered (Err fault) = Err (cause_of_fault fault)

several : (covered : ℕ) (ds : List Place) (n place size : ℕ) → 2 ≤ n
    → of_walk covered (place_or_cause (counted ds n place size)) ≡ Err DigestRecord
unfolding counted place_or_cause of_walk cause_of_fault
several covered [] n place size h = let d : n ≡ 1 → ⊥ = λ e. omega arith in rw (ne_eqb n 1 d)
several covered (d ∷ ds) n place size h = several covered ds (n + 1) d.at d.size (omega arith)

-- no digest stands at the very start
data Beyond : List Place → Type 0 where
  none : Beyond []
  more : {p : Place} {ps : List Place} → 4 < p.at → Beyond ps → Beyond (p ∷ ps)

beyond : (at : ℕ) (rs : List Trailing) → 0 < at → Beyond (digests at rs)
unfolding digests
beyond at [] h = Beyond.none
beyond at (r ∷ rs) h = by (eqb r.kind 1) (beyond (at + (4 + length r.bytes)) rs (omega arith))
  where
    by : (t : Bool) → Beyond (digests (at + (4 + length r.bytes)) rs)
        → Beyond (pick t (record { at = at + 4; size = length r.bytes } ∷ digests (at + (4 + length r.bytes)) rs) (digests
        (at + (4 + length r.bytes)) rs))
    by true b = let far : 4 < at + 4 = omega arith in Beyond.more far b
    by false b = b

one : (covered : ℕ) (ds : List Place) → of_walk covered (place_or_cause (counted ds 0 0 0)) ≡ one_digest covered ds
unfolding counted place_or_cause of_walk cause_of_fault one_digest
one covered [] = refl
one covered (d ∷ []) = by (eqb d.size 32)
  where
    by : (t : Bool) → of_walk covered (pick t (Ok d.at) (Err NotOneDigest))
        ≡ pick t (Ok (record { covered = covered; digest = d.at })) (Err DigestRecord)
    by true = refl
    by false = refl
one covered (d ∷ e ∷ ds) = several covered ds 2 e.at e.size (omega arith)

overs : (covered : ℕ) (ds : List Place) (xs : List ℕ)
    → of_walk covered (place_or_cause (unless_over xs (counted ds 0 0 0))) ≡ filled covered ds xs
unfolding place_or_cause of_walk cause_of_fault unless_over filled
overs covered ds [] = one covered ds
overs covered ds (x ∷ xs) = refl

pub layout_walked : (covered : ℕ) (s : Split) → of_walk covered (place_or_cause (walked s covered 0 0 0)) ≡ layout_of covered s
unfolding layout_of walked
layout_walked covered s = overs covered (digests covered s.found) s.over
