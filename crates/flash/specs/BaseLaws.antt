-- The base build has three moves for each data sector.
use Rattle.std.specs.Prelude.{◌≡◌, refl, ℕ, zero, suc, ◌*◌, length}
use Rattle.std.proofs.Common.{arith}
use Rattle.flash.specs.Base.{three_moves, all_moves}

pub length_moves : (m : ℕ) → length (all_moves m) ≡ 3 * m
unfolding all_moves three_moves
length_moves zero = refl
length_moves (suc m) = omega (arith, length_moves m)
