use Rattle.std.proofs.Common.{rules}
use Rattle.causes.specs.Header.{header_magic}
use Rattle.causes.specs.CheckLaws.{head_short, head_other, head_known}
use Rattle.image.proofs.header.head.Goals as goal

pub returns-then-image-lt32 : goal.returns-then-image-lt32
returns-then-image-lt32 c = search (rules, head_short)

pub returns-then-four-ne-MAGIC : goal.returns-then-four-ne-MAGIC
unfolding header_magic
returns-then-four-ne-MAGIC c = search (rules, head_other)

pub returns : goal.returns
unfolding header_magic
returns c = search (rules, head_known)
