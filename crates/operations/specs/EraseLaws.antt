-- An erase under an allowance, by how the run stands.
use Rattle.std.specs.Prelude.{◌≡◌, List, ℕ, ◌-◌}
use borrow.Author.Tests.{ne_eqb}
use Rattle.spans.specs.Bytes.{put, blank}
use Rattle.flash.specs.declared.Geometry.{Geometry}
use Rattle.flash.specs.declared.Sector.{Sector}
use Rattle.flash.specs.declared.Run.{Run}
use Rattle.flash.specs.declared.End.TheVariants.{Going, Stopped, Unerased}
use Rattle.flash.specs.Geometry.{start_of}
use Rattle.flash.specs.Operations.{local, going, attempt, erase_in}
use Rattle.operations.specs.UnitLaws.{Halted, halts}

module _ (g : Geometry) (i : Sector) (xs : List ℕ) (run : Run) where
  pub erase_late : run.end ≡ Going → run.left ≡ 0 → erase_in g i (local xs run) ≡ local xs (record { left = 0; end = Stopped })
  unfolding erase_in attempt
  erase_late e l = rw (e, l)

  pub erase_done : run.end ≡ Going → (run.left ≡ 0 → ⊥)
      → erase_in g i (local xs run) ≡ local (put xs (start_of g i).0 (blank g.sector)) (going (run.left - 1))
  unfolding erase_in attempt
  erase_done e l = rw (e, ne_eqb run.left 0 l)

  pub erase_stopped : run.end ≡ Stopped → erase_in g i (local xs run) ≡ local xs (record { left = run.left; end = Stopped })
  unfolding erase_in attempt
  erase_stopped e = rw e

  pub erase_unerased : run.end ≡ Unerased → erase_in g i (local xs run) ≡ local xs (record { left = run.left; end = Unerased })
  unfolding erase_in attempt
  erase_unerased e = rw e

  pub erase_ended : (run.end ≡ Going → ⊥) → erase_in g i (local xs run) ≡ local xs run
  unfolding erase_in attempt Halted
  erase_ended h = halts run.end h _ _
