use Rattle.sha256.specs.Hashes.{digest_is}
use Rattle.sha256.proofs.digest.Goals as goal

pub returns : goal.returns
returns c = digest_is _ _ _ _ _ _ c.finish-last.ensures c.start.ensures c.absorb-body.ensures c.absorb.ensures c.result_of.ensures
