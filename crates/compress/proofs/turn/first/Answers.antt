use Rattle.compress.specs.Variables.{eight}
use Rattle.fips.specs.Fips.{Σ₁, T₁}
use Rattle.compress.proofs.turn.first.Goals as goal

pub returns : goal.returns
unfolding T₁ Σ₁ eight
returns c = cc
