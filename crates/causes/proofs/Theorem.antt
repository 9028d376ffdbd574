-- The check accepts exactly the images, and gives each cause exactly when it is due: of the answers, one and only one is due,
-- and it is given.
-- ---- the header's fields are those of the bytes that begin with it
use Rattle.std.specs.Prelude.{◌≡◌, Bool, true, false, ℕ, ◌+◌, ◌≤◌, Ok, Err}
use Rattle.std.proofs.Math.Path.{refl, sym, ap}
use Rattle.std.proofs.Common.{◌∙◌, ⊎_elim, arith, length-append, length-drop, drop_at, take_at}
use mathlib.Core.List.{List, [], ◌∷◌, ◌++◌, append_assoc}
use Rattle.std.proofs.Math.ListN.{length, take, drop, take-append-drop}
use Rattle.std.proofs.lemmas.List.{drop-append-le, take-append-le}
use Rattle.std.proofs.Math.Seq.{length-take-le, take-add}
use Rattle.spans.specs.Bytes.{part, same}
use Rattle.spans.specs.Choice.{pick}
use Rattle.spans.specs.Laws.{length_part, same_refl, same_eq}
use Rattle.fips.specs.Fips.{sha256}
use Rattle.fields.specs.Fields.{field}
use Rattle.causes.specs.Header.{header_magic, records_size, header_size, body_size, covered_size, image_size, records_area}
use Rattle.records.specs.Records.{Trailing, Split, records}
use Rattle.causes.specs.Check.{Verdict, Header, Layout, head, structure, digest_at, check}
use Rattle.causes.specs.Image.{laid, of_type, Image, GoodHeader, Fills, OneDigest, When}
use Rattle.causes.specs.LaidLaws.{as_laid}
use Rattle.records.specs.RecordLaws.{less}
use Rattle.causes.specs.CheckLaws.{sizes_small, sizes_above, head_short, head_other, head_known, digest_same, digest_other}
use Rattle.causes.specs.StructureLaws.{Heads, heads, Comes, DigestStands, comes, cut, structure_bad}
use Rattle.causes.specs.declared.Cause.{Cause}
use Rattle.causes.specs.declared.Cause.TheVariants.{HeaderMagic, HeaderSizes, RecordsArea, DigestRecord, DigestDiffers}
use Rattle.causes.specs.declared.Signed.{Signed}

field_before : (ys zs : List ℕ) (at size : ℕ) → at + size ≤ length ys → field (ys ++ zs) at size ≡ field ys at size
unfolding field part
field_before ys zs at size h =
    let l : size ≤ length (drop at ys) = simp length-drop (omega arith) in
    rw (drop-append-le at ys zs (omega arith), take-append-le size (drop at ys) zs l)

record SameFields (xs ys : List ℕ) : Type 0 where
  magics : header_magic xs ≡ header_magic ys
  header_sizes : header_size xs ≡ header_size ys
  body_sizes : body_size xs ≡ body_size ys
  records_sizes : records_size xs ≡ records_size ys

same_fields : (ys zs : List ℕ) → 32 ≤ length ys → SameFields (ys ++ zs) ys
unfolding header_magic header_size body_size records_size
same_fields ys zs h =
    record {
      magics = field_before ys zs 0 4 (omega arith);
      header_sizes = field_before ys zs 8 2 (omega arith);
      body_sizes = field_before ys zs 12 4 (omega arith);
      records_sizes = field_before ys zs 4 2 (omega arith);
    }

-- ---- records fill an area in one way

one_filling : (area : List ℕ) (rs qs : List Trailing) → Fills area rs → Fills area qs → rs ≡ qs
one_filling area rs qs f g =
    ap (λ (s : Split). s.found) (sym (as_laid rs f.lengths) ∙ (ap records (sym f.exactly ∙ g.exactly) ∙ as_laid qs g.lengths))

-- ---- the answer that is given is due

check_of : (xs : List ℕ) (l : Layout) → structure xs ≡ l → check xs ≡ digest_at l xs
unfolding check
check_of xs l e = ap (λ (k : Layout). digest_at k xs) e

check_bad : (xs : List ℕ) (c : Cause) → head xs ≡ Err c → check xs ≡ Err c
unfolding digest_at
check_bad xs c e = check_of xs (Err c) (structure_bad xs c e)

-- bytes that pass everything are an image
module _ (xs : List ℕ) (g : GoodHeader xs) (rs : List Trailing) (f : Fills (records_area xs) rs) (d : Trailing) (o : OneDigest rs d) where
  is_image : d.bytes ≡ sha256 (take (covered_size xs) xs) → Image xs
  unfolding records_area covered_size image_size part
  is_image e =
      let header = take (header_size xs) xs in
      let long : length header ≡ header_size xs = length-take-le (header_size xs) xs (omega (arith, g.fits)) in
      let k : SameFields (header ++ drop (header_size xs) xs) header = same_fields header (drop (header_size xs) xs) (omega
      (arith, g.header)) in
      let all : header ++ drop (header_size xs) xs ≡ xs = take-append-drop (header_size xs) xs in
      let fields : SameFields xs header = rw all at k in
      let covers : take (covered_size xs) xs ≡ header ++ part xs (header_size xs) (body_size xs) = take-add (header_size xs) (body_size xs) xs in
      let filled : part xs (covered_size xs) (records_size xs) ≡ laid rs = f.exactly in
      record {
        header = header;
        body = part xs (header_size xs) (body_size xs);
        trailing = rs;
        rest = drop (image_size xs) xs;
        layout = cut xs (covered_size xs) (records_size xs) ∙ rw (filled, covers, append_assoc) refl;
        long = omega (arith, g.header);
        magic = sym fields.magics ∙ g.magic;
        header_size_lem = sym fields.header_sizes ∙ sym long;
        body_size_lem = sym fields.body_sizes ∙ sym (length_part xs (header_size xs) (body_size xs) (omega (arith, g.fits)));
        records_size_lem =
            sym fields.records_sizes ∙ (sym (length_part xs (covered_size xs) (records_size xs) g.fits) ∙ ap length filled);
        lengths = f.lengths;
        digest = d;
        only_one = o.only_one;
        of_32_bytes = o.of_32_bytes;
        right = e ∙ ap sha256 covers;
      }

module _ (xs : List ℕ) where
  bad : (c : Cause) → Heads xs (Err c) → When xs (Err c)
  bad HeaderSizes (Heads.fewer h) = When.fewer h
  bad HeaderMagic (Heads.no_magic l n) = When.no_magic l n
  bad HeaderSizes (Heads.small_header l m h) = When.small_header l m h
  bad HeaderSizes (Heads.sum_above l m h) = When.sum_above l m h
  bad RecordsArea w = elim w [ ]
  bad DigestRecord w = elim w [ ]
  bad DigestDiffers w = elim w [ ]

  module _ (g : GoodHeader xs) where
    digest_of : (k : Signed) → k.covered ≡ covered_size xs → (rs : List Trailing) → Fills (records_area xs) rs →
        (d : Trailing) → OneDigest rs d → DigestStands xs k.digest d
        → (t : Bool) → same (part xs k.digest 32) (sha256 (take k.covered xs)) ≡ t → When xs (digest_at (Ok k) xs)
    digest_of k c rs f d o s true e =
        let right : d.bytes ≡ sha256 (take (covered_size xs) xs) = sym s.bytes_are ∙ (same_eq _ _ e ∙ ap (λ (n : ℕ). sha256
        (take n xs)) c) in
        rw (digest_same xs k e) (When.image (is_image xs g rs f d o right))
    digest_of k c rs f d o s false e =
        rw (digest_other xs k e)
        (When.differs g rs f d o
        (λ right.
        let made : part xs k.digest 32 ≡ sha256 (take k.covered xs) = s.bytes_are ∙ (right ∙ ap (λ (n : ℕ). sha256 (take n xs)) (sym c)) in
        let t : same (part xs k.digest 32) (sha256 (take k.covered xs)) ≡ true = ap (λ (l : List ℕ). same l (sha256 (take k.covered xs))) made
        ∙ same_refl _ in
        let z : ◌≡◌ {A = ℕ} 0 1 = cc in
        omega arith))

    passed : (l : Layout) → Comes xs (records_area xs) (covered_size xs) l → When xs (digest_at l xs)
    unfolding digest_at
    passed (Err RecordsArea) (Comes.not_filled n) = When.not_filled g n
    passed (Err DigestRecord) (Comes.not_one rs f n) = When.not_one g rs f n
    passed (Ok k) (Comes.sound rs f d o s) = digest_of k refl rs f d o s (same (part xs k.digest 32) (sha256 (take k.covered xs))) refl
    passed (Err HeaderMagic) w = elim w [ ]
    passed (Err HeaderSizes) w = elim w [ ]
    passed (Err DigestDiffers) w = elim w [ ]

  -- The check's answer is due.
  pub given : When xs (check xs)
  unfolding check
  given = by (head xs) refl (heads xs)
    where
      by : (h : Header) → head xs ≡ h → Heads xs h → When xs (check xs)
      by (Err c) e w = rw (check_bad xs c e) (bad c w)
      by (Ok t) e (Heads.good s) = passed s.good (structure xs) (comes xs s.good)

-- ---- what is due is given

-- the answer, once the digests are compared
abbrev by_digest : Bool → Verdict
by_digest same = pick same (Ok tt) (Err DigestDiffers)

module _ (xs : List ℕ) (g : GoodHeader xs) (rs : List Trailing) (f : Fills (records_area xs) rs) where
  given_digest : (d : Trailing) → OneDigest rs d → check xs ≡ by_digest (same d.bytes (sha256 (take (covered_size xs) xs)))
  unfolding digest_at
  given_digest d o = by (structure xs) refl (comes xs g)
    where
      by : (l : Layout) → structure xs ≡ l → Comes xs (records_area xs) (covered_size xs) l
          → check xs ≡ by_digest (same d.bytes (sha256 (take (covered_size xs) xs)))
      by (Err RecordsArea) e (Comes.not_filled n) = absurd (n rs f)
      by (Err DigestRecord) e (Comes.not_one qs q n) = absurd (n d (rw (one_filling (records_area xs) qs rs q f) o))
      by (Ok k) e (Comes.sound qs q c p s) =
          let one : of_type 1 rs ≡ c ∷ [] = rw (one_filling (records_area xs) qs rs q f) at p.only_one in
          let two = o.only_one in
          let same_digest : c ≡ d = cc in
          let stands : part xs k.digest 32 ≡ d.bytes = s.bytes_are ∙ ap (λ (t : Trailing). t.bytes) same_digest in
          check_of xs (Ok k) e ∙ rw stands
      by (Err HeaderMagic) e w = elim w [ ]
      by (Err HeaderSizes) e w = elim w [ ]
      by (Err DigestDiffers) e w = elim w [ ]

  given_not_one : ((d : Trailing) → OneDigest rs d → ⊥) → check xs ≡ Err DigestRecord
  unfolding digest_at
  given_not_one n = by (structure xs) refl (comes xs g)
    where
      by : (l : Layout) → structure xs ≡ l → Comes xs (records_area xs) (covered_size xs) l → check xs ≡ Err DigestRecord
      by (Err RecordsArea) e (Comes.not_filled m) = absurd (m rs f)
      by (Err DigestRecord) e (Comes.not_one qs q m) = check_of xs (Err DigestRecord) e
      by (Ok k) e (Comes.sound qs q c p s) = absurd (n c (rw (one_filling (records_area xs) qs rs q f) at p))
      by (Err HeaderMagic) e w = elim w [ ]
      by (Err HeaderSizes) e w = elim w [ ]
      by (Err DigestDiffers) e w = elim w [ ]

given_not_filled : (xs : List ℕ) → GoodHeader xs → ((rs : List Trailing) → Fills (records_area xs) rs → ⊥) → check xs ≡ Err RecordsArea
unfolding digest_at
given_not_filled xs g n = by (structure xs) refl (comes xs g)
  where
    by : (l : Layout) → structure xs ≡ l → Comes xs (records_area xs) (covered_size xs) l → check xs ≡ Err RecordsArea
    by (Err RecordsArea) e (Comes.not_filled m) = check_of xs (Err RecordsArea) e
    by (Err DigestRecord) e (Comes.not_one qs q m) = absurd (n qs q)
    by (Ok k) e (Comes.sound qs q c p s) = absurd (n qs q)
    by (Err HeaderMagic) e w = elim w [ ]
    by (Err HeaderSizes) e w = elim w [ ]
    by (Err DigestDiffers) e w = elim w [ ]

part_between : (ys zs ws : List ℕ) (at size : ℕ) → length ys ≡ at → length zs ≡ size → part (ys ++ (zs ++ ws)) at size ≡ zs
unfolding part
part_between ys zs ws at size a b = rw (drop_at ys (zs ++ ws) at a) (take_at zs ws size b)

-- what an image's bytes say
record Says (xs : List ℕ) (i : Image xs) : Type 0 where
  good : GoodHeader xs
  fills : Fills (records_area xs) i.trailing
  covers : take (covered_size xs) xs ≡ i.header ++ i.body

says : (xs : List ℕ) (i : Image xs) → Says xs i
unfolding records_area covered_size image_size
says xs i =
    let front = i.header ++ i.body in
    let behind = laid i.trailing ++ i.rest in
    let whole : xs ≡ front ++ behind = i.layout ∙ sym (append_assoc i.header i.body behind) in
    let k : SameFields xs i.header = rw (sym i.layout) at (same_fields i.header (i.body ++ behind) i.long) in
    let h : header_size xs ≡ length i.header = k.header_sizes ∙ i.header_size_lem in
    let b : body_size xs ≡ length i.body = k.body_sizes ∙ i.body_size_lem in
    let r : records_size xs ≡ length (laid i.trailing) = k.records_sizes ∙ i.records_size_lem in
    let l = length-append i.header i.body in
    let m = length-append front behind in
    let n = length-append (laid i.trailing) i.rest in
    let all : length xs ≡ length (front ++ behind) = ap length whole in
    let c : length front ≡ header_size xs + body_size xs = omega arith in
    record {
      good = record { lent = omega (arith, i.long); magic = k.magics ∙ i.magic; header = omega (arith, i.long); fits = omega arith };
      fills =
          record {
            exactly =
                ap (λ (l : List ℕ). part l (header_size xs + body_size xs) (records_size xs)) whole
                ∙ part_between front (laid i.trailing) i.rest (header_size xs + body_size xs) (records_size xs) c (sym r);
            lengths = i.lengths;
          };
      covers = ap (take (header_size xs + body_size xs)) whole ∙ take_at front behind (header_size xs + body_size xs) c;
    }

digest_is : (a b : List ℕ) → a ≡ b → by_digest (same a b) ≡ Ok tt
digest_is a b e = rw (e, same_refl b)

digest_not : (a b : List ℕ) → (a ≡ b → ⊥) → (t : Bool) → same a b ≡ t → by_digest t ≡ Err DigestDiffers
digest_not a b n true e = absurd (n (same_eq a b e))
digest_not a b n false e = refl

-- An answer that is due is the check's.
pub only : (xs : List ℕ) (v : Verdict) → When xs v → check xs ≡ v
only xs (Err HeaderSizes) (When.fewer h) = check_bad xs HeaderSizes (head_short xs h)
only xs (Err HeaderMagic) (When.no_magic l n) = check_bad xs HeaderMagic (head_other xs l n)
only xs (Err HeaderSizes) (When.small_header l m h) = check_bad xs HeaderSizes (head_known xs l m ∙ sizes_small xs h)
only xs (Err HeaderSizes) (When.sum_above l m h) =
    check_bad xs HeaderSizes (head_known xs l m ∙ ⊎_elim (sizes_small xs) (λ k. sizes_above xs k h) (less (header_size xs) 32))
only xs (Err RecordsArea) (When.not_filled g n) = given_not_filled xs g n
only xs (Err DigestRecord) (When.not_one g rs f n) = given_not_one xs g rs f n
only xs (Err DigestDiffers) (When.differs g rs f d o n) =
    given_digest xs g rs f d o ∙ digest_not d.bytes (sha256 (take (covered_size xs) xs)) n (same d.bytes (sha256 (take
    (covered_size xs) xs))) refl
only xs (Ok tt) (When.image i) =
    let s = says xs i in
    given_digest xs s.good i.trailing s.fills i.digest (record { only_one = i.only_one; of_32_bytes = i.of_32_bytes })
    ∙ digest_is i.digest.bytes (sha256 (take (covered_size xs) xs)) (i.right ∙ ap sha256 (sym s.covers))

-- ---- the check accepts exactly the images

pub accepts_images : (xs : List ℕ) → Image xs → check xs ≡ Ok tt
accepts_images xs i = only xs (Ok tt) (When.image i)

pub accepts_only_images : (xs : List ℕ) → check xs ≡ Ok tt → Image xs
accepts_only_images xs e = opened (rw e at (given xs))
  where
    opened : When xs (Ok tt) → Image xs
    opened (When.image i) = i
