-- Laws of little endian fields, for the code that reads them.
use Rattle.std.specs.Prelude.{◌≡◌, List, [], ◌∷◌, ◌++◌, ℕ, suc, ◌+◌, ◌*◌, ◌≤◌, length, get_or, drop}
use Rattle.std.proofs.Common.{sym, ap, ◌∙◌, add-one, arith, drop-cons}
use Rattle.spans.specs.Bytes.{part}
use Rattle.spans.specs.Laws.{part_add}
use Rattle.fields.specs.Fields.{little, field}

little_two : (a b : ℕ) → little (a ∷ b ∷ []) ≡ a + b * 256
unfolding little
little_two a b = omega arith

pub part_two : (xs : List ℕ) (at : ℕ) → at + 2 ≤ length xs → part xs at 2 ≡ get_or xs at 0 ∷ get_or xs (at + 1) 0 ∷ []
unfolding part
part_two xs at h =
    let a : drop at xs ≡ get_or xs at 0 ∷ drop (suc at) xs = drop-cons xs at 0 (omega arith) in
    let b : drop (suc at) xs ≡ get_or xs (suc at) 0 ∷ drop (suc (suc at)) xs = drop-cons xs (suc at) 0 (omega arith) in
    rw (a, b, add-one)

-- two bytes, as the code adds them up
pub field_two : (xs : List ℕ) (at : ℕ) → at + 2 ≤ length xs → get_or xs at 0 + get_or xs (at + 1) 0 * 256 ≡ field xs at 2
unfolding field
field_two xs at h = sym (ap little (part_two xs at h) ∙ little_two (get_or xs at 0) (get_or xs (at + 1) 0))

little_more : (a b : ℕ) (l : List ℕ) → little ((a ∷ b ∷ []) ++ l) ≡ a + b * 256 + little l * 65536
unfolding little
little_more a b l = omega arith

-- four bytes are twice two
pub field_four : (xs : List ℕ) (at : ℕ) → at + 4 ≤ length xs → field xs at 2 + field xs (at + 2) 2 * 65536 ≡ field xs at 4
unfolding field
field_four xs at h =
    let first : part xs at 2 ≡ get_or xs at 0 ∷ get_or xs (at + 1) 0 ∷ [] = part_two xs at (omega arith) in
    rw (← part_add xs at 2 2, first, little_two, little_more)

-- and as the four that they are
pub field_four_bytes : (xs : List ℕ) (at : ℕ) → at + 4 ≤ length xs
    → get_or xs at 0 + get_or xs (at + 1) 0 * 256 + get_or xs (at + 2) 0 * 65536 + get_or xs (at + 3) 0 * 16777216 ≡ field xs at 4
field_four_bytes xs at h =
    let low = field_two xs at (omega arith) in
    let next : at + 2 + 1 ≡ at + 3 = omega arith in
    let high = rw next at (field_two xs (at + 2) (omega arith)) in
    omega (arith, field_four xs at h)
