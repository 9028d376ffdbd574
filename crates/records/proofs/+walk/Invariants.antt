use Rattle.std.proofs.Common.{length}
use Rattle.records.proofs.+walk.Given as goal

-- the rest of the area
abbrev pub decreases-walk : goal.decreases-walk
decreases-walk l = length l.area.now.now
