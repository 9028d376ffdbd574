-- Document 01, "Trailer": the marks in reading order stand one after the other.
use Rattle.std.specs.Prelude.{◌≡◌, ℕ, ◌+◌, ◌*◌, ◌-◌, ◌≤◌, ◌<◌}
use Rattle.std.proofs.Common.{ap, ◌∙◌, arith}
use Rattle.flash.specs.Geometry.{sector_no, byte_at}
use Rattle.flash.specs.Build.{Build}
use Rattle.trailer.specs.Trailer.{mark_stands, mark_at}

-- of n sectors, d fewer than 128, that which has q others after it
place : (s w n d q j : ℕ) → d + n ≡ 128 → 384 * w + 32 ≤ s
    → s - 32 - 384 * w + ((d + q) * 3 + j) * w ≡ s - 32 - 3 * n * w + (3 * q + j) * w
place s w n d q j e room = omega (arith, ap (λ (x : ℕ). x * w) e)

-- B reads "the marks from sector n − 1 down to 0": mark j of sector i is number 3(n − 1 − i) + j.
pub reading_order : (g : Build) (i j : ℕ) → i < g.sectors → g.sectors ≤ 128 → 384 * g.unit + 32 ≤ g.sector
    → mark_stands g (sector_no i) j ≡ mark_at g (3 * (g.sectors - 1 - i) + j)
unfolding mark_stands
reading_order g i j h n room =
    let d : ℕ = 128 - g.sectors in
    let q : ℕ = g.sectors - 1 - i in
    let e : 127 - i ≡ d + q = omega arith in
    ap byte_at (ap (λ (x : ℕ). g.sector - 32 - 384 * g.unit + (x * 3 + j) * g.unit) e
    ∙ place g.sector g.unit g.sectors d q j (omega arith) room)
