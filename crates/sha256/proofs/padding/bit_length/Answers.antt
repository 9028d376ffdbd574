use Rattle.std.proofs.Common.{◌∙◌}
use Rattle.sha256.specs.Padding.{bit_length}
use Rattle.sha256.proofs.padding.bit_length.Goals as goal

pub returns : goal.returns
returns c = c.to_be_bytes.ensures ∙ bit_length c.args.size
