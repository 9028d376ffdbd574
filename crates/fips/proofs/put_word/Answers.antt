use Rattle.std.proofs.Common.{◌∙◌}
use Rattle.fips.specs.Writing.{put_be_bytes}
use Rattle.fips.proofs.put_word.Goals as goal

pub returns : goal.returns
returns c = put_be_bytes _ _ _ _ (c.copy_from_slice.ensures.after ∙ c.to_be_bytes.ensures) c.requires
