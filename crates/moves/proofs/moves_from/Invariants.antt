use Rattle.std.proofs.Common.{drop, ◌-◌, ◌≡◌}
use Rattle.flash.specs.Base.{all_moves, build}
use Rattle.flash.specs.Operations.{steps}
use Rattle.plan.specs.Lists.{data_ops}
use Rattle.moves.specs.Areas.{state}
use Rattle.moves.proofs.moves_from.Given as goal

abbrev pub invariant-loop-k : goal.invariant-loop-k
invariant-loop-k l =
    steps (build l.g) (data_ops (build l.g) l.k (drop (l.k - 3) (all_moves (l.g.sectors - 1)))) (state l.slot0 l.slot1 l.scratch l.r)
    ≡ steps (build l.g) (data_ops (build l.g) l.fn.c (drop (l.fn.c - 3) (all_moves (l.g.sectors - 1))))
    (state l.initial.slot0 l.initial.slot1 l.initial.scratch l.initial.r)
