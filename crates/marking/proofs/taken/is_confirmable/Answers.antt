use Rattle.std.proofs.Common.{rules, sym}
use Rattle.flash.specs.Base.{base}
use Rattle.trailer.specs.Trailer.{trailer, is_good, is_unset, has_value}
use Rattle.marking.specs.Marking.{confirmable}
use Rattle.marking.proofs.taken.is_confirmable.Goals as goal

pub returns-then-eq-2 : goal.returns-then-eq-2
unfolding confirmable trailer base is_good is_unset has_value
returns-then-eq-2 c = rw (sym c.of_slot-t.ensures.bytes, sym c.of_slot-t.ensures.geometry) (search rules)

pub returns-else-eq-2 : goal.returns-else-eq-2
unfolding confirmable trailer base is_good is_unset has_value
returns-else-eq-2 c = rw (sym c.of_slot-t.ensures.bytes, sym c.of_slot-t.ensures.geometry) (search rules)
