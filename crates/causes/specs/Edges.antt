-- Document 01, "Edges to try": the starred edges of the image, and the numbers of the causes, by computing. A row says the number of the
-- cause that the check answers; or, since the digest comes after `structure`, what passes to it: how many bytes it covers, and where it
-- stands.
use Rattle.std.specs.Prelude.{refl, List, [], ◌∷◌, ◌++◌, ℕ, replicate, Ok, Err}
use Rattle.spans.specs.Bytes.{part}
use Rattle.spans.specs.Table.{Row, row, Holds, no_more, and}
use Rattle.fields.specs.Fields.{little, field}
use Rattle.causes.specs.Header.{header_magic, records_size, header_size, body_size, covered_size, image_size}
use Rattle.records.specs.Records.{record_at, step_at, after, record_of, first_then, split_in, records, digests}
use Rattle.causes.specs.Check.{Layout, number_of, cause_of, sizes, head, one_digest, filled, layout_of, with_sizes, structure, digest_at, check}
use Rattle.causes.specs.declared.Cause.TheVariants.{DigestDiffers}

-- "The image check answers accepted or its cause": the number
answer : List ℕ → ℕ
answer xs = cause_of (check xs)

-- so many bytes are covered, and the digest stands there
unfoldable pub passes : ℕ → ℕ → Layout
passes covered digest = Ok (record { covered = covered; digest = digest })

-- 32 bytes of header that say these sizes, each below 256 but for a body of 256 times `high` bytes more
unfoldable pub header : ℕ → ℕ → ℕ → ℕ → List ℕ
header records size body high =
    60 ∷ 184 ∷ 243 ∷ 150 ∷ records ∷ 0 ∷ 0 ∷ 0 ∷ size ∷ 0 ∷ 0 ∷ 0 ∷ body ∷ high ∷ 0 ∷ 0 ∷ replicate 16 0

-- a digest record of so many bytes, and an empty record of type 2
unfoldable pub digest : ℕ → List ℕ
digest size = 1 ∷ 0 ∷ size ∷ 0 ∷ replicate size 170

empty : List ℕ
empty = 2 ∷ 0 ∷ 0 ∷ 0 ∷ []

unfoldable pub body : ℕ → List ℕ
body size = replicate size 85

pub edges : List Row
edges =
    -- "Header size 32 passes, 31 is cause 2."
    row (structure (header 36 32 8 0 ++ body 8 ++ digest 32)) (passes 40 44)
    ∷ row (answer (header 36 31 9 0 ++ body 8 ++ digest 32)) 2
    -- "Sizes summing to m·s pass, one more is cause 2." (w 1, s 512, n 2: m·s is 512)
    ∷ row (structure (header 36 32 188 1 ++ body 444 ++ digest 32)) (passes 476 480)
    ∷ row (answer (header 36 32 189 1 ++ body 444 ++ digest 32)) 2
    -- "Records area 0 bytes: cause 4.* 36 bytes with the digest record: passes to the digest. 38 with the same record first: cause 3.*"
    ∷ row (answer (header 0 32 8 0 ++ body 8)) 4
    ∷ row (structure (header 36 32 0 0 ++ digest 32)) (passes 32 36)
    ∷ row (answer (header 38 32 8 0 ++ body 8 ++ digest 32 ++ (0 ∷ 0 ∷ []))) 3
    -- "A digest record of length 31 filling its area: cause 4.* An empty record of type 2 before it: no objection.*"
    ∷ row (answer (header 35 32 8 0 ++ body 8 ++ digest 31)) 4
    ∷ row (structure (header 40 32 8 0 ++ body 8 ++ empty ++ digest 32)) (passes 40 48)
    -- "1. header magic wrong"; "fewer than 32 bytes lent (asked before cause 1)"; "5. the digest differs"; "accepted or its cause"
    ∷ row (answer (replicate 32 0)) 1 ∷ row (answer (replicate 31 0)) 2
    ∷ row (cause_of (Err DigestDiffers)) 5 ∷ row (cause_of (Ok tt)) 0 ∷ []

pub edges_hold : Holds edges
unfolding edges answer passes header digest empty body part little field header_magic records_size header_size body_size covered_size image_size record_at
    step_at after record_of first_then split_in records digests sizes head one_digest filled layout_of with_sizes structure digest_at check cause_of
    number_of
edges_hold =
    and refl (and refl (and refl (and refl (and refl (and refl (and refl (and refl (and refl (and refl (and refl
    (and refl (and refl no_more))))))))))))
