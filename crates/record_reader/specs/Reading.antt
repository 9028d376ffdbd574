-- The reader agrees with the definition: reading to the end gives exactly the records of the area.
use Rattle.std.specs.Prelude.{◌≡◌, refl, List, [], ◌∷◌, ℕ, zero, suc, ◌+◌, ◌≤◌, ◌<◌, length, drop}
use Rattle.std.proofs.Common.{sym, ap, ◌∙◌, ⊎_elim, add-zero, le_refl, arith, length-drop, drop_of_length-le, drop-drop, get_or-drop}
use Rattle.spans.specs.Bytes.{part}
use Rattle.fields.specs.Fields.{field}
use Rattle.records.specs.Records.{step_at, after, record_of, first_then, split_in, records}
use Rattle.records.specs.RecordLaws.{Stands, stands, less, step_end, step_short, step_cut, step_record}
use Rattle.records.specs.declared.Step.{Step}
use Rattle.records.specs.declared.Step.TheVariants.{End, Stump, Record}
use Rattle.record_reader.specs.Told.{reading_by, read_on, tell, last_of, reading_of}

-- ---- a place in an area is the start of the rest

unfoldable shifted : ℕ → Step → Step
shifted at End = End
shifted at Stump = Stump
shifted at (Record kind start size) = Record kind (at + start) size

field_drop : (xs : List ℕ) (at place size : ℕ) → field (drop at xs) place size ≡ field xs (at + place) size
unfolding field part
field_drop xs at place size = rw drop-drop

shift : (xs : List ℕ) (at : ℕ) → step_at xs at ≡ shifted at (step_at (drop at xs) 0)
unfolding shifted
shift xs at =
    ⊎_elim some (λ h. step_end xs at h ∙ sym (ap (shifted at) (step_end (drop at xs) 0 (omega (arith, length-drop at xs)))))
    (less at (length xs))
  where
    size : field (drop at xs) 2 2 ≡ field xs (at + 2) 2
    size = field_drop xs at 2 2

    found : at + 4 ≤ length xs → at + 4 + field xs (at + 2) 2 ≤ length xs → step_at xs at ≡ shifted at (step_at (drop at xs) 0)
    found h k =
        step_record xs at h k
        ∙ sym (ap (shifted at) (step_record (drop at xs) 0 (omega (arith, length-drop at xs)) (omega
        (arith, length-drop at xs, size))) ∙ rw (size, get_or-drop at xs 0 0, add-zero) refl)

    headed : at + 4 ≤ length xs → step_at xs at ≡ shifted at (step_at (drop at xs) 0)
    headed h =
        ⊎_elim
        (λ k. step_cut xs at h k ∙ sym (ap (shifted at) (step_cut (drop at xs) 0 (omega (arith, length-drop at xs)) (omega
        (arith, length-drop at xs, size)))))
        (found h) (less (length xs) (at + 4 + field xs (at + 2) 2))

    some : at < length xs → step_at xs at ≡ shifted at (step_at (drop at xs) 0)
    some p =
        ⊎_elim
        (λ k. step_short xs at p k ∙ sym (ap (shifted at) (step_short (drop at xs) 0 (omega (arith, length-drop at xs)) (omega
        (arith, length-drop at xs)))))
        headed (less (length xs) (at + 4))

-- ---- reading on gives the records of the rest

step_told : (xs : List ℕ) (at n : ℕ) (s : Step) → Stands (drop at xs) 0 s → length (drop at xs) ≤ suc n
    → ((to : ℕ) → length (drop to xs) ≤ n → read_on n xs to ≡ reading_of (split_in n (drop to xs)))
    → reading_by (shifted at s) xs (read_on n xs (after (shifted at s))) ≡ reading_of (first_then s (drop at xs) (split_in n (drop
    (after s) (drop at xs))))
unfolding shifted reading_by reading_of first_then after last_of record_of tell part
step_told xs at n End w h ih = refl
step_told xs at n Stump (Stands.stump p) h ih = ap (λ (l : Step). record { told = []; last = l }) (over (drop at xs) p)
  where
    over : (ys : List ℕ) → 0 < length ys → Stump ≡ last_of ys
    over [] p = absurd (omega arith)
    over (y ∷ ys) p = refl
step_told xs at n (Record kind start size) (Stands.whole w) h ih =
    let four : start ≡ 4 = w.start_is in
    let to : at + start + size ≡ at + (start + size) = omega arith in
    let short : length (drop (at + start + size) xs) ≤ n = simp length-drop (omega (arith, length-drop at xs, w.within)) in
    let later : read_on n xs (at + start + size) ≡ reading_of (split_in n (drop (start + size) (drop at xs))) =
    ih (at + start + size) short ∙ ap (λ (l : List ℕ). reading_of (split_in n l)) (ap (λ (m : ℕ). drop m xs) to ∙ sym (drop-drop
    (start + size) at xs)) in
    let bytes : part xs (at + start) size ≡ part (drop at xs) 4 size = rw (four, drop-drop) refl in
    (λ i. record { told = record { kind = w.kind_is i; bytes = bytes i } ∷ (later i).told; last = (later i).last })

read_on_lem : (n : ℕ) (xs : List ℕ) (at : ℕ) → length (drop at xs) ≤ n → read_on n xs at ≡ reading_of (split_in n (drop at xs))
unfolding read_on split_in reading_of last_of
read_on_lem zero xs at h =
    let l : length xs ≤ at = omega (arith, length-drop at xs) in
    rw (step_end xs at l, drop_of_length-le xs l)
read_on_lem (suc n) xs at h = rw (shift xs at) (step_told xs at n (step_at (drop at xs) 0) (stands (drop at xs) 0) h (read_on_lem n xs))

-- Reading to the end gives exactly the records of the definition, with `End` last where they fill the area and `Stump` where they do not.
pub reads_all : (xs : List ℕ) → read_on (length xs) xs 0 ≡ reading_of (records xs)
unfolding records
reads_all xs = read_on_lem (length xs) xs 0 (le_refl (length xs))
