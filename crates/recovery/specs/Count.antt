-- How many operations an exchange takes.
use Rattle.trailer.specs.Trailer.{magic_units}
use Rattle.std.specs.Prelude.{◌≡◌, List, [], ◌∷◌, ◌++◌, Bool, true, false, ℕ, suc, ◌+◌, ◌*◌, ◌/◌, ◌≤◌, length}
use Rattle.std.proofs.Common.{mul-le-mul_right, le_of_mul-le-mul_right, arith, length-append}
use Rattle.std.proofs.Math.Nat.{dvd-mul_left_of_dvd, div-mul_cancel}
use Rattle.flash.specs.Build.{Build, Move, geometry}
use Rattle.plan.specs.Lists.{progress, lines_one_two, lines_three_to_six, move_ops, data_ops, exchange}
use Rattle.plan.specs.Lengths.{one_if, length_copies, length_ok, length_magic}
use Rattle.recovery.specs.Places.{Geo, per}

at_most_one : (p : Bool) → one_if p ≤ 1
at_most_one true = omega arith
at_most_one false = omega arith

length_data : (g : Build) (c : ℕ) (ms : List Move) → length (data_ops g c ms) ≡ length ms * (per g + 2) + 1
unfolding data_ops move_ops
length_data g c [] = omega arith
length_data g c (m ∷ ms) = simp (length-append, length_copies) (omega (arith, length_data g (suc c) ms))

-- for any list of moves
pub length_exchange : (g : Build) (p : Bool)
    → length (exchange g p) ≡ length g.moves * (per g + 2) + 8 + 2 * one_if p + 2 * (magic_units (geometry g)).0
unfolding exchange lines_one_two lines_three_to_six
length_exchange g p = simp (length-append, length_ok, length_magic, length_data) (omega arith)

-- what is left of an exchange is no longer than the whole
pub rest_short : (g : Build) (p : Bool) (c : ℕ) (ms : List Move) → length ms ≤ length g.moves
    → length (data_ops g c ms) ≤ length (exchange g p)
rest_short g p c ms h = simp (length_data, length_exchange) (omega (arith, mul-le-mul_right (per g + 2) h))

pub settle_short : (g : Build) (p : Bool) → length (lines_three_to_six g p ++ data_ops g 3 g.moves) ≤ length (exchange g p)
unfolding exchange
settle_short g p = simp length-append (omega arith)

-- ---- the parts of an exchange that a cut takes up again from their beginning

pub length_move : (g : Build) (c : ℕ) (m : Move) → length (move_ops g m ++ (progress g c ∷ [])) ≡ per g + 2
unfolding move_ops
length_move g c m = simp (length-append, length_copies) (omega arith)

-- the six lines of the trailer exchange together are shorter than a move with its mark
pub trailers_short : {g : Build} → Geo g → 384 * g.unit + 32 ≤ g.sector → (p : Bool)
    → length (lines_one_two g p) + length (lines_three_to_six g p) ≤ per g + 2
unfolding lines_one_two lines_three_to_six
trailers_short {g} geo large p =
    let w : ℕ = g.unit in
    let d : 16 / w * w ≡ 16 = div-mul_cancel w (dvd-mul_left_of_dvd w geo.eight 2) in
    let s : per g * w ≡ g.sector = div-mul_cancel w geo.whole in
    let room : 384 + 2 * (16 / w) ≤ per g = le_of_mul-le-mul_right {k = w} (omega arith) geo.positive in
    simp (length-append, length_ok, length_magic) (omega (arith, at_most_one p))
