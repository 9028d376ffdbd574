use Rattle.std.proofs.Common.{sym}
use Rattle.spans.specs.BitLaws.{choose}
use Rattle.fips.specs.Fips.{Ch}
use Rattle.compress.proofs.turn.functions.ch.Goals as goal

pub returns : goal.returns
unfolding Ch
returns c = sym (choose 32 c.args.x c.args.y c.args.z c.ranges.x.fits c.ranges.y.fits c.ranges.z.fits)
