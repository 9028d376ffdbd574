use Rattle.std.proofs.Common.{rules, sym}
use Rattle.flash.specs.Base.{base}
use Rattle.trailer.specs.Trailer.{trailer, is_no_magic, is_unset}
use Rattle.marking.specs.Marking.{unmarked}
use Rattle.marking.proofs.taken.is_unmarked.Goals as goal

pub returns-then-eq : goal.returns-then-eq
unfolding unmarked trailer base is_no_magic is_unset
returns-then-eq c = rw (sym c.of_slot-t.ensures.bytes, sym c.of_slot-t.ensures.geometry) (search rules)

pub returns-else-eq : goal.returns-else-eq
unfolding unmarked trailer base is_no_magic is_unset
returns-else-eq c = rw (sym c.of_slot-t.ensures.bytes, sym c.of_slot-t.ensures.geometry) (search rules)
