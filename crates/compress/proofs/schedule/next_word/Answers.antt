use Rattle.fips.specs.Fips.{σ₀, σ₁, next}
use Rattle.compress.proofs.schedule.next_word.Goals as goal

pub returns : goal.returns
unfolding next σ₀ σ₁
returns c = cc
