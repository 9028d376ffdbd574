-- What bytes are when their header and their records come to what they come to.
use Rattle.std.proofs.Math.Path.{◌≡◌, refl, sym, ap}
use Rattle.std.proofs.Common.{◌∙◌, ⊎_elim, arith, eqb-true, take-append-drop, drop-drop}
use mathlib.Core.List.{List, [], ◌∷◌, ◌++◌, append-nil}
use Rattle.std.specs.Prelude.{Bool, true, false, ℕ, suc, ◌+◌, ◌≤◌, ◌<◌, eqb, take, drop, Ok, Err}
use Rattle.std.proofs.lemmas.Bool.{eqb-false}
use Rattle.std.proofs.Math.ListN.{length}
use Rattle.std.proofs.Math.Seq.{length-take-le}
use Rattle.spans.specs.Bytes.{part}
use Rattle.spans.specs.Choice.{pick}
use Rattle.causes.specs.Header.{magic_number, header_magic, records_size, header_size, body_size, covered_size, image_size, records_area}
use Rattle.records.specs.Records.{Trailing, Split, Place, records, digests}
use Rattle.causes.specs.Check.{Header, Layout, head, one_digest, filled, layout_of, with_sizes, structure}
use Rattle.causes.specs.Image.{laid, of_type, GoodHeader, Fills, OneDigest}
use Rattle.records.specs.RecordLaws.{less}
use Rattle.causes.specs.LaidLaws.{Begins, begins, as_laid, Placed, placed}
use Rattle.causes.specs.CheckLaws.{sizes_small, sizes_above, sizes_good, head_short, head_other, head_known}
use Rattle.causes.specs.declared.Cause.{Cause}
use Rattle.causes.specs.declared.Cause.TheVariants.{HeaderMagic, HeaderSizes, RecordsArea, DigestRecord}
use Rattle.causes.specs.declared.Sizes as declared
use Rattle.causes.specs.declared.Signed.{Signed}

-- ---- the header

pub record Sizes (xs : List ℕ) (header body size : ℕ) : Type 0 where
  pub good : GoodHeader xs
  pub header_is : header ≡ header_size xs
  pub body_is : body ≡ body_size xs
  pub records_are : size ≡ records_size xs

pub data Heads (xs : List ℕ) : Header → Type 0 where
  fewer : length xs < 32 → Heads xs (Err HeaderSizes)
  no_magic : 32 ≤ length xs → (header_magic xs ≡ magic_number → ⊥) → Heads xs (Err HeaderMagic)
  small_header : 32 ≤ length xs → header_magic xs ≡ magic_number → header_size xs < 32 → Heads xs (Err HeaderSizes)
  sum_above : 32 ≤ length xs → header_magic xs ≡ magic_number → length xs < image_size xs → Heads xs (Err HeaderSizes)
  good : {s : declared.Sizes} → Sizes xs s.header s.body s.records → Heads xs (Ok s)

pub heads : (xs : List ℕ) → Heads xs (head xs)
heads xs = ⊎_elim (λ h. rw (head_short xs h) (Heads.fewer h)) lent (less (length xs) 32)
  where
    fits : 32 ≤ length xs → header_magic xs ≡ magic_number → 32 ≤ header_size xs → image_size xs ≤ length xs → Heads xs (head xs)
    fits l m h k =
        rw (head_known xs l m, sizes_good xs h k)
        (Heads.good (record {
          good = record { lent = l; magic = m; header = h; fits = k };
          header_is = refl;
          body_is = refl;
          records_are = refl;
        }))

    long : 32 ≤ length xs → header_magic xs ≡ magic_number → 32 ≤ header_size xs → Heads xs (head xs)
    long l m h =
        ⊎_elim (λ k. rw (head_known xs l m, sizes_above xs h k) (Heads.sum_above l m k)) (fits l m h) (less (length xs) (image_size xs))

    known : 32 ≤ length xs → header_magic xs ≡ magic_number → Heads xs (head xs)
    known l m =
        ⊎_elim (λ h. rw (head_known xs l m, sizes_small xs h) (Heads.small_header l m h)) (long l m) (less (header_size xs) 32)

    magic : 32 ≤ length xs → (t : Bool) → eqb (header_magic xs) magic_number ≡ t → Heads xs (head xs)
    magic l true e = known l (eqb-true (header_magic xs) magic_number e)
    magic l false e =
        let n = eqb-false (header_magic xs) magic_number e in
        rw (head_other xs l n) (Heads.no_magic l n)

    lent : 32 ≤ length xs → Heads xs (head xs)
    lent l = magic l (eqb (header_magic xs) magic_number) refl

pub sizes_of : (xs : List ℕ) (s : declared.Sizes) → head xs ≡ Ok s → Sizes xs s.header s.body s.records
sizes_of xs s e = opened (rw e at (heads xs))
  where
    opened : Heads xs (Ok s) → Sizes xs s.header s.body s.records
    opened (Heads.good z) = z

-- ---- the records

pub record DigestStands (xs : List ℕ) (at : ℕ) (d : Trailing) : Type 0 where
  pub within : at + 32 ≤ length xs
  pub bytes_are : part xs at 32 ≡ d.bytes

-- for each cause of 3 and 4, and for bytes that pass to the digest
pub data Comes (xs : List ℕ) (area : List ℕ) (covered : ℕ) : Layout → Type 0 where
  not_filled : ((rs : List Trailing) → Fills area rs → ⊥) → Comes xs area covered (Err RecordsArea)
  not_one : (rs : List Trailing) → Fills area rs → ((d : Trailing) → OneDigest rs d → ⊥) → Comes xs area covered (Err DigestRecord)
  sound : {at : ℕ} → (rs : List Trailing) → Fills area rs → (d : Trailing) → OneDigest rs d → DigestStands xs at d → Comes xs area covered
      (Ok (record { covered = covered; digest = at }))

as_many : (xs : List ℕ) (ps : List Place) (ds : List Trailing) → Placed xs ps ds → length ps ≡ length ds
as_many xs [] [] Placed.none = refl
as_many xs [] (d ∷ ds) w = elim w [ ]
as_many xs (p ∷ ps) [] w = elim w [ ]
as_many xs (p ∷ ps) (d ∷ ds) (Placed.more h w) = ap suc (as_many xs ps ds w)

-- the records of type 1 and their places, counted
one_of : (xs area : List ℕ) (covered : ℕ) (rs : List Trailing) → Fills area rs → (ps : List Place) (ds : List Trailing)
    → of_type 1 rs ≡ ds → Placed xs ps ds
    → Comes xs area covered (one_digest covered ps)
unfolding one_digest
one_of xs area covered rs f [] [] e w = Comes.not_one rs f (λ d o. let k = o.only_one in let z : ◌≡◌ {A = ℕ} 0 1 = cc in omega arith)
one_of xs area covered rs f [] (d ∷ ds) e w = absurd (omega (arith, as_many xs [] (d ∷ ds) w))
one_of xs area covered rs f (p ∷ []) [] e w = absurd (omega (arith, as_many xs (p ∷ []) [] w))
one_of xs area covered rs f (p ∷ []) (d ∷ []) e (Placed.more h w) = sized (eqb p.size 32) refl
  where
    sized : (t : Bool) → eqb p.size 32 ≡ t → Comes xs area covered (pick t (Ok (record { covered = covered; digest = p.at })) (Err DigestRecord))
    sized true k =
        let n : p.size ≡ 32 = eqb-true p.size 32 k in
        let l : length d.bytes ≡ 32 = sym h.sized ∙ n in
        Comes.sound {at = p.at} rs f d (record { only_one = e; of_32_bytes = l })
        (record { within = omega (arith, h.within); bytes_are = rw n at h.bytes_are })
    sized false k =
        Comes.not_one rs f
        (λ c o.
        let one = o.only_one in
        let same : c ≡ d = cc in
        let n : p.size ≡ 32 = h.sized ∙ (sym (ap (λ (t : Trailing). length t.bytes) same) ∙ o.of_32_bytes) in
        eqb-false p.size 32 k n)
one_of xs area covered rs f (p ∷ []) (d ∷ c ∷ ds) e w = absurd (omega (arith, as_many xs (p ∷ []) (d ∷ c ∷ ds) w))
one_of xs area covered rs f (p ∷ q ∷ ps) [] e w = absurd (omega (arith, as_many xs (p ∷ q ∷ ps) [] w))
one_of xs area covered rs f (p ∷ q ∷ ps) (d ∷ []) e w = absurd (omega (arith, as_many xs (p ∷ q ∷ ps) (d ∷ []) w))
one_of xs area covered rs f (p ∷ q ∷ ps) (d ∷ c ∷ ds) e w =
    Comes.not_one rs f (λ b o. let k = o.only_one in let z : ◌≡◌ {A = ℕ} 0 1 = cc in omega arith)

-- the area's records, with bytes before it and behind it
module _ (xs area : List ℕ) (covered : ℕ) (before behind : List ℕ) (split : xs ≡ before ++ (area ++ behind))
    (long : length before ≡ covered) where
  comes_over : (s : Split) → records area ≡ s → Begins area s → (over : List ℕ) → s.over ≡ over
      → Comes xs area covered (filled covered (digests covered s.found) over)
  unfolding filled
  comes_over s e b [] o =
      let exactly : area ≡ laid s.found = sym b.whole ∙ rw (o, append-nil) refl in
      let f : Fills area s.found = record { exactly = exactly; lengths = b.lengths } in
      let p : Placed xs (digests covered s.found) (of_type 1 s.found) = rw (split, exactly) (placed before
      s.found behind covered long) in
      one_of xs area covered s.found f (digests covered s.found) (of_type 1 s.found) refl p
  comes_over s e b (y ∷ ys) o =
      Comes.not_filled
      (λ rs f.
      let read : records (laid rs) ≡ record { found = rs; over = [] } = as_laid rs f.lengths in
      let none : s.over ≡ [] = ap (λ (t : Split). t.over) (sym e ∙ ap records f.exactly ∙ read) in
      let z : ◌≡◌ {A = ℕ} 0 1 = cc in
      omega arith)

  pub comes_of : Comes xs area covered (layout_of covered (records area))
  unfolding layout_of
  comes_of = comes_over (records area) refl (begins area) (records area).over refl

-- ---- the whole

-- bytes cut at two places
pub cut : (xs : List ℕ) (at size : ℕ) → xs ≡ take at xs ++ (part xs at size ++ drop (at + size) xs)
unfolding part
cut xs at size =
    sym (ap (λ (t : List ℕ). take at xs ++ t) (ap (λ (t : List ℕ). take size (drop at xs) ++ t) (sym (drop-drop size at xs))
    ∙ take-append-drop size (drop at xs)) ∙ take-append-drop at xs)

pub structure_bad : (xs : List ℕ) (c : Cause) → head xs ≡ Err c → structure xs ≡ Err c
unfolding structure with_sizes
structure_bad xs c e = rw e

pub structure_good : (xs : List ℕ) (s : declared.Sizes) → head xs ≡ Ok s
    → structure xs ≡ layout_of (s.header + s.body) (records (part xs (s.header + s.body) s.records))
unfolding structure with_sizes
structure_good xs s e = rw e

module _ (xs : List ℕ) (g : GoodHeader xs) where
  pub comes : Comes xs (records_area xs) (covered_size xs) (structure xs)
  unfolding records_area covered_size image_size
  comes =
      let e : head xs ≡ Ok (record { header = header_size xs; body = body_size xs; records = records_size xs }) = head_known xs g.lent g.magic ∙ sizes_good xs
      g.header g.fits in
      let l : length (take (covered_size xs) xs) ≡ covered_size xs = length-take-le (covered_size xs) xs (omega (arith, g.fits)) in
      rw (structure_good xs _ e)
      (comes_of xs (records_area xs) (covered_size xs) (take (covered_size xs) xs) (drop (image_size xs) xs) (cut xs (covered_size xs)
      (records_size xs)) l)

-- what the digest covers and where it stands lie in the bytes
pub record Within (xs : List ℕ) (covered at : ℕ) : Type 0 where
  pub least : 32 ≤ covered
  pub covers : covered ≤ length xs
  pub stands : at + 32 ≤ length xs

pub sound_within : (xs : List ℕ) (s : Signed) → structure xs ≡ Ok s → Within xs s.covered s.digest
unfolding image_size covered_size
sound_within xs s e = by (head xs) refl (heads xs)
  where
    opened : (l : Layout) → l ≡ Ok s → GoodHeader xs → Comes xs (records_area xs) (covered_size xs) l
        → Within xs s.covered s.digest
    opened l k g (Comes.not_filled n) = let z : ◌≡◌ {A = ℕ} 0 1 = cc in absurd (omega arith)
    opened l k g (Comes.not_one rs f n) = let z : ◌≡◌ {A = ℕ} 0 1 = cc in absurd (omega arith)
    opened l k g (Comes.sound {at = there} rs f d o stands) =
        let same : ◌≡◌ {A = Signed} (record { covered = covered_size xs; digest = there }) s = cc in
        let a : covered_size xs ≡ s.covered = ap (λ (t : Signed). t.covered) same in
        let b : there ≡ s.digest = ap (λ (t : Signed). t.digest) same in
        record { least = omega (arith, g.header); covers = omega (arith, g.fits); stands = omega (arith, stands.within) }

    by : (h : Header) → head xs ≡ h → Heads xs h → Within xs s.covered s.digest
    by (Err c) k w = let b = structure_bad xs c k in let z : ◌≡◌ {A = ℕ} 0 1 = cc in absurd (omega arith)
    by (Ok t) k (Heads.good z) = opened (structure xs) e z.good (comes xs z.good)
