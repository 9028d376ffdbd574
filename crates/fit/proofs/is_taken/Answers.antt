use Rattle.fit.specs.Taken.{small}
use Rattle.fit.proofs.is_taken.Goals.{then-unit_taken, else-unit_taken}
use Rattle.fit.proofs.is_taken.Goals as goal

pub lengths_taken-requires : goal.lengths_taken-requires
lengths_taken-requires c =
    elim c.if-unit_taken.branch [ then-unit_taken w ↦ small c.args.g (cc) (cc) | else-unit_taken w ↦ absurd (cc) ]
