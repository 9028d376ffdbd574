-- The progress marks stand within a trailer sector.
use Rattle.std.specs.Prelude.{ℕ, ◌*◌, ◌≤◌}
use Rattle.std.proofs.Common.{mul-le-mul_right, arith}
use Rattle.flash.specs.declared.Geometry.{Geometry}
use Rattle.flash.specs.Small.{Small}

-- the marks of the n sectors, and of those those before number k, take no more than is set aside
pub record MarksFit (g : Geometry) (k : ℕ) : Type 0 where
  pub all : 3 * g.sectors * g.unit ≤ 384 * g.unit
  pub before : k * g.unit ≤ 3 * g.sectors * g.unit

pub marks_fit : (g : Geometry) (k : ℕ) → Small g → k ≤ 3 * g.sectors → MarksFit g k
marks_fit g k small h = record {
  all = mul-le-mul_right g.unit (omega arith);
  before = mul-le-mul_right g.unit h;
}
