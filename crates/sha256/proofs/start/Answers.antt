use Rattle.std.proofs.Common.{refl}
use Rattle.fips.specs.Fips.{H₀}
use Rattle.compress.specs.Variables.{eight}
use Rattle.sha256.proofs.start.Goals as goal

pub returns : goal.returns
unfolding H₀ eight
returns c = refl
