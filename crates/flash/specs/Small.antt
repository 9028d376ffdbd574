-- The bounds of document 01's geometries, as code relies on them: every product of them fits, and 512 bytes are whole units.
use Rattle.std.specs.Prelude.{◌≡◌, ℕ, ◌+◌, ◌*◌, ◌/◌, ◌≤◌, ◌<◌}
use Rattle.std.proofs.Common.{mul-le-mul, arith}
use Rattle.flash.specs.declared.Geometry.{Geometry}

pub record Small (g : Geometry) : Type 0 where
  pub positive : 0 < g.unit
  pub eight : g.unit ≤ 8
  pub whole : 512 / g.unit * g.unit ≡ 512
  pub room : 384 * g.unit + 32 ≤ g.sector
  pub large : g.sector ≤ 65536
  pub two : 2 ≤ g.sectors
  pub many : g.sectors ≤ 128

pub product_fits : (a b : ℕ) → a ≤ 8388608 → b ≤ 65536 → a * b < 18446744073709551616
product_fits a b ha hb = omega (arith, mul-le-mul ha hb)
