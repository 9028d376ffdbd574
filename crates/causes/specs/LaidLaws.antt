-- An area and its records: each area begins with the records that are read in it, and records are read as they were laid.
use Rattle.std.specs.Prelude.{◌≡◌, refl, Bool, true, false, eqb, ℕ, zero, suc, ◌+◌, ◌≤◌, drop}
use Rattle.std.proofs.Common.{sym, ◌∙◌, arith, take-append-drop}
use Rattle.std.proofs.Math.Path.{ap}
use mathlib.Core.List.{List, [], ◌∷◌, ◌++◌, append_assoc}
use Rattle.std.proofs.Math.ListN.{length, length-append}
use Rattle.std.proofs.Math.Seq.{drop-drop, drop-append_seam, drop-append-add, take-append_seam}
use Rattle.spans.specs.Bytes.{part}
use Rattle.fields.specs.Fields.{little, field}
use Rattle.records.specs.Records.{Trailing, Split, Place, step_at, after, record_of, first_then, split_in, records, digests}
use Rattle.records.specs.RecordLaws.{Stands, stands, step_record, records_step, record_sized}
use Rattle.causes.specs.Image.{laid_one, laid, Lengths, of_type}
use Rattle.records.specs.declared.Step.{Step}
use Rattle.records.specs.declared.Step.TheVariants.{End, Stump, Record}

-- the first record, and the rest of the area
first_laid : (xs : List ℕ) (size : ℕ) → 4 + size ≤ length xs → laid_one (record_of xs size) ++ drop (4 + size) xs ≡ xs
unfolding laid_one record_of part
first_laid [] size h = absurd (omega arith)
first_laid (a ∷ []) size h = absurd (omega arith)
first_laid (a ∷ b ∷ []) size h = absurd (omega arith)
first_laid (a ∷ b ∷ c ∷ []) size h = absurd (omega arith)
first_laid (a ∷ b ∷ c ∷ d ∷ xs) size h =
    rw (← drop-drop size 4 (a ∷ b ∷ c ∷ d ∷ xs)) (ap {B = List ℕ} (λ r. a ∷ b ∷ c ∷ d ∷ r) (take-append-drop size xs))

first_told : (xs : List ℕ) (size : ℕ) → 4 + size ≤ length xs → little ((record_of xs size).low ∷ (record_of xs size).high ∷ []) ≡ field xs 2 2
unfolding record_of field part
first_told [] size h = absurd (omega arith)
first_told (a ∷ []) size h = absurd (omega arith)
first_told (a ∷ b ∷ []) size h = absurd (omega arith)
first_told (a ∷ b ∷ c ∷ []) size h = absurd (omega arith)
first_told (a ∷ b ∷ c ∷ d ∷ xs) size h = refl

-- ---- an area begins with the records that are read in it

pub record Begins (xs : List ℕ) (s : Split) : Type 0 where
  pub whole : laid s.found ++ s.over ≡ xs
  pub lengths : Lengths s.found

begins_first : (xs : List ℕ) (rest : Split) (s : Step) → Stands xs 0 s → Begins (drop (after s) xs) rest → Begins xs (first_then s xs rest)
unfolding first_then after laid
begins_first xs rest End (Stands.ends h) b = record { whole = sym (none_left xs h); lengths = Lengths.none }
  where
    none_left : (ys : List ℕ) → length ys ≤ 0 → ys ≡ []
    none_left [] h = refl
    none_left (y ∷ ys) h = absurd (omega arith)
begins_first xs rest Stump w b = record { whole = refl; lengths = Lengths.none }
begins_first xs rest (Record kind start size) (Stands.whole w) b =
    let four : start ≡ 4 = w.start_is in
    let h : 4 + size ≤ length xs = omega arith in
    let joined : laid rest.found ++ rest.over ≡ drop (4 + size) xs = rw four at b.whole in
    record {
      whole = rw (append_assoc, joined) (first_laid xs size h);
      lengths = Lengths.more (first_told xs size h ∙ (sym w.size_is ∙ sym (record_sized xs kind start size w))) b.lengths;
    }

begins_in : (n : ℕ) (xs : List ℕ) → Begins xs (split_in n xs)
unfolding split_in laid
begins_in zero xs = record { whole = refl; lengths = Lengths.none }
begins_in (suc n) xs = begins_first xs _ (step_at xs 0) (stands xs 0) (begins_in n (drop (after (step_at xs 0)) xs))

pub begins : (xs : List ℕ) → Begins xs (records xs)
unfolding records
begins xs = begins_in (length xs) xs

-- ---- records are read as they were laid

module _ (r : Trailing) (ys : List ℕ) (told : little (r.low ∷ r.high ∷ []) ≡ length r.bytes) where
  laid_step : step_at (laid_one r ++ ys) 0 ≡ Record r.kind 4 (length r.bytes)
  unfolding laid_one field part
  laid_step =
      let l = length-append r.bytes ys in
      let size : field (laid_one r ++ ys) 2 2 ≡ length r.bytes = told in
      step_record (laid_one r ++ ys) 0 (omega arith) (omega arith) ∙ ap (λ (n : ℕ). Record r.kind 4 n) size

  laid_of : record_of (laid_one r ++ ys) (length r.bytes) ≡ r
  unfolding record_of laid_one part
  laid_of =
      ap {B = Trailing} (λ (bs : List ℕ). record { kind = r.kind; pad = r.pad; low = r.low; high = r.high; bytes = bs })
      (take-append_seam r.bytes ys)

  laid_rest : drop (4 + length r.bytes) (laid_one r ++ ys) ≡ ys
  unfolding laid_one
  laid_rest = rw (← drop-drop (length r.bytes) 4 (laid_one r ++ ys)) (drop-append_seam r.bytes ys)

pub as_laid : (rs : List Trailing) → Lengths rs → records (laid rs) ≡ record { found = rs; over = [] }
unfolding records split_in laid first_then after
as_laid [] Lengths.none = refl
as_laid (r ∷ rs) (Lengths.more e t) =
    records_step (laid_one r ++ laid rs) ∙ rw (laid_step r (laid rs) e, laid_of r (laid rs) e, laid_rest r (laid rs) e, as_laid rs t)

-- ---- where the records of type 1 stand

-- the bytes of a record stand at a place of xs
pub record Holds (xs : List ℕ) (p : Place) (r : Trailing) : Type 0 where
  pub sized : p.size ≡ length r.bytes
  pub within : p.at + p.size ≤ length xs
  pub bytes_are : part xs p.at p.size ≡ r.bytes

pub data Placed (xs : List ℕ) : List Place → List Trailing → Type 0 where
  none : Placed xs [] []
  more : {p : Place} {ps : List Place} {r : Trailing} {rs : List Trailing} → Holds xs p r → Placed xs ps rs → Placed xs (p ∷ ps) (r ∷ rs)

-- a record behind some bytes
holds : (before : List ℕ) (r : Trailing) (ys : List ℕ)
    → Holds (before ++ (laid_one r ++ ys)) (record { at = length before + 4; size = length r.bytes }) r
unfolding laid_one part
holds before r ys =
    record {
      sized = refl;
      within = omega (arith, length-append before (laid_one r ++ ys), length-append r.bytes ys);
      bytes_are = rw drop-append-add (take-append_seam r.bytes ys);
    }

placed_first : (before : List ℕ) (r : Trailing) (rs : List Trailing) (zs : List ℕ) (at : ℕ) → length before ≡ at
    → (t : Bool) → eqb r.kind 1 ≡ t
    → Placed (before ++ (laid_one r ++ zs)) (digests (at + (4 + length r.bytes)) rs) (of_type 1 rs)
    → Placed (before ++ (laid_one r ++ zs)) (digests at (r ∷ rs)) (of_type 1 (r ∷ rs))
unfolding digests of_type
placed_first before r rs zs at e true k next = rw k (Placed.more (rw e at (holds before r zs)) next)
placed_first before r rs zs at e false k next = rw k next

pub placed : (before : List ℕ) (rs : List Trailing) (ys : List ℕ) (at : ℕ) → length before ≡ at
    → Placed (before ++ (laid rs ++ ys)) (digests at rs) (of_type 1 rs)
unfolding digests of_type laid laid_one
placed before [] ys at e = Placed.none
placed before (r ∷ rs) ys at e =
    let l : length (before ++ laid_one r) ≡ at + (4 + length r.bytes) = length-append before (laid_one r) ∙ omega arith in
    let next = placed (before ++ laid_one r) rs ys (at + (4 + length r.bytes)) l in
    rw (append_assoc (laid_one r) (laid rs) ys)
    (placed_first before r rs (laid rs ++ ys) at e (eqb r.kind 1) refl (rw (append_assoc before (laid_one r) (laid rs ++ ys)) at next))
