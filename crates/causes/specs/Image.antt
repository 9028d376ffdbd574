-- What an image is, with no code in mind: document 01, "Image", and the layout of source document 003.
use Rattle.std.specs.Prelude.{◌≡◌, List, [], ◌∷◌, ◌++◌, ℕ, ◌≤◌, ◌<◌, eqb, length, take, Ok, Err}
use Rattle.spans.specs.Choice.{pick}
use Rattle.fips.specs.Fips.{sha256}
use Rattle.fields.specs.Fields.{little}
use Rattle.causes.specs.Header.{magic_number, header_magic, records_size, header_size, body_size, covered_size, image_size, records_area}
use Rattle.records.specs.Records.{Trailing}
use Rattle.causes.specs.Check.{Verdict}
use Rattle.causes.specs.declared.Cause.TheVariants.{HeaderMagic, HeaderSizes, RecordsArea, DigestRecord, DigestDiffers}

-- ---- records in their layout

-- "type, pad byte, length (2 bytes), then that many bytes"
unfoldable pub laid_one : Trailing → List ℕ
laid_one r = r.kind ∷ r.pad ∷ r.low ∷ r.high ∷ r.bytes

unfoldable pub laid : List Trailing → List ℕ
laid [] = []
laid (r ∷ rs) = laid_one r ++ laid rs

-- every record's length says how many bytes it has
pub data Lengths : List Trailing → Type 0 where
  none : Lengths []
  more : {r : Trailing} {rs : List Trailing} → little (r.low ∷ r.high ∷ []) ≡ length r.bytes → Lengths rs → Lengths (r ∷ rs)

-- the records of a type
unfoldable pub of_type : ℕ → List Trailing → List Trailing
of_type k [] = []
of_type k (r ∷ rs) = pick (eqb r.kind k) (r ∷ of_type k rs) (of_type k rs)

-- ---- an image

-- There are a header, a body, records, and a rest of the bytes lent, one after the other; the header begins with the magic
-- word and says the three sizes; and there is exactly one record of type 1, whose 32 bytes are the SHA-256 of header and body.
pub record Image (xs : List ℕ) : Type 0 where
  pub header : List ℕ
  pub body : List ℕ
  pub trailing : List Trailing
  pub rest : List ℕ
  pub layout : xs ≡ header ++ (body ++ (laid trailing ++ rest))
  pub long : 32 ≤ length header
  pub magic : header_magic header ≡ magic_number
  pub header_size_lem : header_size header ≡ length header
  pub body_size_lem : body_size header ≡ length body
  pub records_size_lem : records_size header ≡ length (laid trailing)
  pub lengths : Lengths trailing
  pub digest : Trailing
  pub only_one : of_type 1 trailing ≡ digest ∷ []
  pub of_32_bytes : length digest.bytes ≡ 32
  pub right : digest.bytes ≡ sha256 (header ++ body)

-- ---- when which answer is given

-- neither cause 1 nor cause 2
pub record GoodHeader (xs : List ℕ) : Type 0 where
  pub lent : 32 ≤ length xs
  pub magic : header_magic xs ≡ magic_number
  pub header : 32 ≤ header_size xs
  pub fits : image_size xs ≤ length xs

-- some records fill an area exactly
pub record Fills (area : List ℕ) (rs : List Trailing) : Type 0 where
  pub exactly : area ≡ laid rs
  pub lengths : Lengths rs

-- exactly one record of type 1, and its length is 32
pub record OneDigest (rs : List Trailing) (d : Trailing) : Type 0 where
  pub only_one : of_type 1 rs ≡ d ∷ []
  pub of_32_bytes : length d.bytes ≡ 32

-- The answer that bytes are due, for each answer: the causes of rejection in document 01's words, and acceptance.
pub data When (xs : List ℕ) : Verdict → Type 0 where
  fewer : length xs < 32 → When xs (Err HeaderSizes)
  no_magic : 32 ≤ length xs → (header_magic xs ≡ magic_number → ⊥) → When xs (Err HeaderMagic)
  small_header : 32 ≤ length xs → header_magic xs ≡ magic_number → header_size xs < 32 → When xs (Err HeaderSizes)
  sum_above : 32 ≤ length xs → header_magic xs ≡ magic_number → length xs < image_size xs → When xs (Err HeaderSizes)
  not_filled : GoodHeader xs → ((rs : List Trailing) → Fills (records_area xs) rs → ⊥) → When xs (Err RecordsArea)
  not_one : GoodHeader xs → (rs : List Trailing) → Fills (records_area xs) rs → ((d : Trailing) → OneDigest rs d → ⊥) → When xs
      (Err DigestRecord)
  differs : GoodHeader xs → (rs : List Trailing) → Fills (records_area xs) rs → (d : Trailing) → OneDigest rs d
      → (d.bytes ≡ sha256 (take (covered_size xs) xs) → ⊥) → When xs (Err DigestDiffers)
  image : Image xs → When xs (Ok tt)
