use Rattle.std.proofs.Common.{refl, ◌∙◌}
use Rattle.compress.specs.Turns.{rounds_next}
use Rattle.compress.proofs.eight_turns.Goals as goal

pub loop-u-preserved : goal.loop-u-preserved
loop-u-preserved c = λ H e. c.turn_at-s.ensures ∙ rounds_next _ _ _ _ _ refl (c.loop-u.invariant H e)
