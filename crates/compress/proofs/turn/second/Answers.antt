use Rattle.compress.specs.Variables.{eight}
use Rattle.fips.specs.Fips.{Σ₀, T₂}
use Rattle.compress.proofs.turn.second.Goals as goal

pub returns : goal.returns
unfolding T₂ Σ₀ eight
returns c = cc
