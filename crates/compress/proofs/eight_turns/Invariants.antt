use Rattle.std.proofs.Common.{◌≡◌}
use Rattle.fips.specs.Fips.{Eight, rounds}
use Rattle.compress.specs.Variables.{eight}
use Rattle.compress.proofs.eight_turns.Given as goal

abbrev pub invariant-loop-u : goal.invariant-loop-u
invariant-loop-u l = (H : Eight) → eight l.initial.s ≡ rounds l.w H l.t → eight l.s ≡ rounds l.w H l.u
