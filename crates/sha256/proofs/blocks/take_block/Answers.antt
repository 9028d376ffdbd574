use Rattle.std.proofs.Common.{List, ap, ℕ, ◌∙◌}
use Rattle.fips.specs.Fips.{rounds, plus, compress}
use Rattle.compress.specs.Variables.{eight}
use Rattle.sha256.proofs.blocks.take_block.Goals as goal

pub returns : goal.returns
unfolding compress
returns c =
    let H = eight c.args.h in
    c.next_hash.ensures ∙ ap (λ (W : List ℕ). plus (rounds W H 64) H) c.of_block.ensures.0
