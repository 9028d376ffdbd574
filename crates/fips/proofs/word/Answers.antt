use Rattle.std.proofs.Common.{arith}
use Rattle.spans.specs.WordLaws.{number_four}
use Rattle.fips.proofs.word.Goals as goal

pub returns : goal.returns
returns c =
    let a = c.args in
    omega (arith, number_four a.bytes.now a.at (omega arith))
