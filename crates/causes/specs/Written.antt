-- Images as they are written: a header of 32 bytes, a body, one record that is the digest of both, and whatever follows. So images
-- there are, of every body; and no digest is computed.
use Rattle.std.specs.Prelude.{◌≡◌, refl}
use Rattle.std.proofs.Math.Path.{sym, ap}
use Rattle.std.proofs.Common.{◌∙◌, shr-shr}
use mathlib.Core.List.{List, [], ◌∷◌, ◌++◌, append-nil}
use Prim.Native.Nat.{ℕ, ◌+◌, ◌*◌, ◌/◌, ◌%◌, ◌<◌}
use native.Mathlib.Omega.{arith}
use Rattle.std.proofs.Math.ListN.{length, length-append}
use Rattle.spans.specs.Bytes.{part}
use Rattle.fips.specs.Fips.{sha256}
use Rattle.fips.specs.Laws.{length_sha256}
use Rattle.fields.specs.Fields.{little, field}
use Rattle.records.specs.Records.{Trailing}
use Rattle.causes.specs.Header.{header_magic, records_size, header_size, body_size}
use Rattle.causes.specs.Image.{laid_one, laid, none, more, of_type, Image}

-- "Other header fields are not read": the bytes at 6, 7, 10 and 11, and the sixteen from 16 on
pub record Unread : Type 0 where
  pub at_6 : ℕ
  pub at_7 : ℕ
  pub at_10 : ℕ
  pub at_11 : ℕ
  pub from_16 : List ℕ

-- "magic 96f3b83c at 0, size of the trailing records at 4 (2 bytes), header size at 8 (2), body size at 12 (4)": 36, 32, and the body's
unfoldable pub written_header : Unread → ℕ → List ℕ
written_header u size =
    0x3c ∷ 0xb8 ∷ 0xf3 ∷ 0x96 ∷ 36 ∷ 0 ∷ u.at_6 ∷ u.at_7 ∷ 32 ∷ 0 ∷ u.at_10 ∷ u.at_11
    ∷ size % 256 ∷ size / 256 % 256 ∷ size / 65536 % 256 ∷ size / 16777216 % 256 ∷ u.from_16

-- "The digest record has type 1, and covers header and body."
unfoldable pub written_digest : List ℕ → Trailing
written_digest covered = record { kind = 1; pad = 0; low = 32; high = 0; bytes = sha256 covered }

unfoldable pub written : Unread → List ℕ → List ℕ → List ℕ
written u body rest =
    let header = written_header u (length body) in
    header ++ (body ++ (laid_one (written_digest (header ++ body)) ++ rest))

-- four bytes write every number below 2 ^ 32
little_four : (x : ℕ) → x < 4294967296 → little (x % 256 ∷ x / 256 % 256 ∷ x / 65536 % 256 ∷ x / 16777216 % 256 ∷ []) ≡ x
unfolding little
little_four x h =
    let high : x / 16777216 < 256 = omega arith in
    let a : x ≡ 256 * (x / 256) + x % 256 = split x in
    let b : x / 256 ≡ 256 * (x / 65536) + x / 256 % 256 = split (x / 256) ∙ ap (λ (y : ℕ). 256 * y + x / 256 % 256) (shr-shr x 8 8) in
    let c : x / 65536 ≡ 256 * (x / 16777216) + x / 65536 % 256 =
    split (x / 65536) ∙ ap (λ (y : ℕ). 256 * y + x / 65536 % 256) (shr-shr x 16 8) in
    let d : x / 16777216 % 256 ≡ x / 16777216 = omega arith in
    omega arith
  where
    split : (y : ℕ) → y ≡ 256 * (y / 256) + y % 256
    split y = omega arith

one_laid : (r : Trailing) → laid (r ∷ []) ≡ laid_one r
unfolding laid
one_laid r = append-nil (laid_one r)

module _ (u : Unread) (sixteen : length u.from_16 ≡ 16) (body rest : List ℕ) where
  header_length : length (written_header u (length body)) ≡ 32
  unfolding written_header
  header_length = omega arith

  record_length : (covered : List ℕ) → length (laid_one (written_digest covered)) ≡ 36
  unfolding laid_one written_digest
  record_length covered = omega (arith, length_sha256 covered)

  -- 32 bytes, the body, and 36 bytes more, before the rest
  pub written_length : length (written u body rest) ≡ 32 + length body + 36 + length rest
  unfolding written
  written_length =
      let header : List ℕ = written_header u (length body) in
      let behind : List ℕ = laid_one (written_digest (header ++ body)) in
      omega (
        arith,
        length-append header (body ++ (behind ++ rest)),
        length-append body (behind ++ rest),
        length-append behind rest,
        header_length,
        record_length (header ++ body),
      )

  -- for every body whose size has its place in the header
  pub written_image : length body < 4294967296 → Image (written u body rest)
  unfolding written written_header written_digest laid laid_one of_type header_magic records_size header_size body_size field part little
  written_image short =
      let header : List ℕ = written_header u (length body) in
      let covered : List ℕ = header ++ body in
      let digest : Trailing = written_digest covered in
      record {
        header = header;
        body = body;
        trailing = digest ∷ [];
        rest = rest;
        layout = ap (λ (l : List ℕ). header ++ (body ++ (l ++ rest))) (sym (one_laid digest));
        long = omega (arith, header_length);
        magic = refl;
        header_size_lem = sym header_length;
        body_size_lem = little_four (length body) short;
        records_size_lem = sym (ap length (one_laid digest) ∙ record_length covered);
        lengths = more (sym (length_sha256 covered)) none;
        digest = digest;
        only_one = refl;
        of_32_bytes = length_sha256 covered;
        right = refl;
      }
