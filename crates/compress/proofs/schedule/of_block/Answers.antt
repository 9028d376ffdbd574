use Rattle.std.proofs.Common.{List, ap, arith, drop, ℕ, ◌+◌, ◌-◌, ◌∙◌}
use Rattle.spans.specs.WordLaws.{words_take}
use Rattle.fips.specs.Fips.{schedule}
use Rattle.compress.proofs.schedule.of_block.Goals as goal

pub returns : goal.returns
returns c =
    let at = c.args.at in
    let block = c.load.ensures ∙ words_take 4 16 (at + 64 - at) (drop at c.args.bytes.now) (omega arith) in
    (c.extend.ensures ∙ ap (λ (first : List ℕ). schedule first 48) block, c.extend.array_long)
