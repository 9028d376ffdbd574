use Rattle.std.proofs.Common.{List, ◌++◌, ◌-◌}
use Rattle.flash.specs.Base.{all_moves, base, build}
use Rattle.flash.specs.Operations.{Op}
use Rattle.flash.specs.OperationLaws.{steps_append}
use Rattle.plan.specs.Lists.{lines_one_two, lines_three_to_six, data_ops, exchange}
use Rattle.moves.specs.Areas.{lines_one_two_lem, state}
use Rattle.carry.proofs.whole_exchange.Goals as goal

pub returns : goal.returns
unfolding exchange base
returns c =
    let given = c.args in
    let rest : List Op = lines_three_to_six (build given.g) given.lasting ++ data_ops (build given.g) 3 (all_moves (given.g.sectors - 1)) in
    cc (
      lines_one_two_lem given.g given.lasting given.slot0.now given.slot1.now given.scratch.now given.run _ _ c.lines_one_two-begun.ensures,
      steps_append (build given.g) (lines_one_two (build given.g) given.lasting) rest
          (state given.slot0.now given.slot1.now given.scratch.now given.run),
    )
