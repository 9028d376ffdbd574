use Rattle.std.proofs.Common.{◌-◌, ◌≡◌}
use Rattle.flash.specs.Base.{build}
use Rattle.trailer.specs.Trailer.{legal}
use Rattle.marks.proofs.Trailer.legal_run.Given as goal

abbrev pub invariant-loop-k : goal.invariant-loop-k
invariant-loop-k l =
    legal (build l.self.g) l.self.bytes.now l.c 0 l.k-end ≡ legal (build l.self.g) l.self.bytes.now l.c l.k (l.k-end - l.k)
