-- The moves of the base build by the number of their mark.
use Rattle.std.specs.Prelude.{◌≡◌, ◌∷◌, ℕ, zero, suc, ◌+◌, ◌*◌, ◌-◌, ◌/◌, ◌%◌, ◌≤◌, ◌<◌, drop}
use Rattle.std.proofs.Common.{sym, ap, ap₂, ◌∙◌, arith}
use Rattle.std.proofs.Math.Nat.{add-div_right, add-mod_right}
use Rattle.flash.specs.declared.Geometry.{Geometry}
use Rattle.flash.specs.declared.Sector.{Sector}
use Rattle.flash.specs.Geometry.{sector_no, last_sector}
use Rattle.flash.specs.Build.{slot0, slot1, scratch, Move}
use Rattle.flash.specs.Base.{three_moves, all_moves}

-- "sectors m − 1 down to 0": the sector that mark number k is of
abbrev pub marked_sector : Geometry → ℕ → Sector
marked_sector g k = sector_no ((last_sector g).0 - k / 3)

-- move j of sector i
unfoldable pub move_of : Sector → ℕ → Move
move_of i zero = record { from = slot1; from_sector = i; to = scratch; to_sector = sector_no 0 }
move_of i (suc zero) = record { from = slot0; from_sector = i; to = slot1; to_sector = i }
move_of i (suc (suc j)) = record { from = scratch; from_sector = sector_no 0; to = slot0; to_sector = i }

by_number : (m t : ℕ) → t < 3 * m → drop t (all_moves m) ≡ move_of (sector_no (m - 1 - t / 3)) (t % 3) ∷ drop (suc t) (all_moves m)
unfolding all_moves three_moves move_of
by_number zero t h = absurd (omega arith)
by_number (suc i) zero h = let e : i ≡ suc i - 1 - 0 = omega arith in ap (λ (k : ℕ). move_of (sector_no k) 0 ∷ drop 1 (all_moves (suc i))) e
by_number (suc i) (suc zero) h = let e : i ≡ suc i - 1 - 0 = omega arith in ap (λ (k : ℕ). move_of (sector_no k) 1 ∷ drop 2 (all_moves (suc i))) e
by_number (suc i) (suc (suc zero)) h =
    let e : i ≡ suc i - 1 - 0 = omega arith in ap (λ (k : ℕ). move_of (sector_no k) 2 ∷ drop 3 (all_moves (suc i))) e
by_number (suc i) (suc (suc (suc t))) h =
    let three : suc (suc (suc t)) ≡ t + 3 = omega arith in
    let d : suc (suc (suc t)) / 3 ≡ t / 3 + 1 = ap (λ (k : ℕ). k / 3) three ∙ add-div_right t (omega arith) in
    let r : t % 3 ≡ suc (suc (suc t)) % 3 = sym (ap (λ (k : ℕ). k % 3) three ∙ add-mod_right t 3) in
    let e : i - 1 - t / 3 ≡ suc i - 1 - suc (suc (suc t)) / 3 = omega arith in
    by_number i t (omega arith) ∙ ap₂ (λ (j k : ℕ). move_of (sector_no j) k ∷ drop (suc t) (all_moves i)) e r

-- the move whose mark has number k, and those after it
pub next_move : (n k : ℕ) → 3 ≤ k → k < 3 * n → drop (k - 3) (all_moves (n - 1))
    ≡ move_of (sector_no (n - 1 - k / 3)) (k % 3) ∷ drop (k + 1 - 3) (all_moves (n - 1))
next_move n k lo hi =
    let t : ℕ = k - 3 in
    let three : k ≡ t + 3 = omega arith in
    let d : k / 3 ≡ t / 3 + 1 = ap (λ (x : ℕ). x / 3) three ∙ add-div_right t (omega arith) in
    let r : t % 3 ≡ k % 3 = sym (ap (λ (x : ℕ). x % 3) three ∙ add-mod_right t 3) in
    let e : n - 1 - 1 - t / 3 ≡ n - 1 - k / 3 = omega arith in
    let s : suc t ≡ k + 1 - 3 = omega arith in
    by_number (n - 1) t (omega arith)
    ∙ ap₂ (λ (i j : ℕ). move_of (sector_no i) j ∷ drop (suc t) (all_moves (n - 1))) e r
    ∙ ap (λ (x : ℕ). move_of (sector_no (n - 1 - k / 3)) (k % 3) ∷ drop x (all_moves (n - 1))) s
