use Rattle.std.proofs.Common.{refl, ◌∙◌}
use Rattle.sha256.specs.Padding.{last_blocks}
use Rattle.sha256.proofs.padding.finish.Goals as goal

pub returns : goal.returns
returns c =
    last_blocks _ _ _ _ _ _ _ refl refl c.requires c.copy.ensures (c.copy_from_slice.ensures.after ∙ c.bit_length.ensures) refl
