use Rattle.flash.specs.Base.{build}
use Rattle.marks.specs.RunLaws.{Counted}
use Rattle.marks.proofs.Trailer.written_marks.Given as goal

abbrev pub invariant-loop-k : goal.invariant-loop-k
invariant-loop-k l = Counted (build l.self.g) l.self.bytes.now l.all l.k
