use Rattle.std.proofs.Common.{List, ℕ}
use Rattle.compress.specs.Grown.{Filling}
use Rattle.compress.proofs.schedule.four_words.Given as goal

abbrev pub invariant-loop-u : goal.invariant-loop-u
invariant-loop-u l = (first : List ℕ) → Filling first l.initial.w l.t → Filling first l.w l.u
