use Rattle.std.proofs.Common.{rules}
use Rattle.causes.specs.Header.{header_size, body_size, records_size, image_size, covered_size}
use Rattle.causes.specs.CheckLaws.{sizes_small, sizes_above, sizes_good}
use Rattle.image.proofs.header.sizes.Goals as goal

pub returns-then-header-lt32 : goal.returns-then-header-lt32
unfolding header_size body_size records_size image_size covered_size
returns-then-header-lt32 c = search (rules, sizes_small, sizes_above)

pub returns : goal.returns
unfolding header_size body_size records_size image_size covered_size
returns c = search (rules, sizes_good)
