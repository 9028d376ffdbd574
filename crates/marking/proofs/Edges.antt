-- Marking and confirming with document 01's numbers: refusals, counts, and what the areas then hold. One table, closed by computing.
use Rattle.spans.specs.Table.{Holds, holds_append}
use Rattle.marking.specs.Edges.{done_hold, refused_hold, edges}

pub edges_hold : Holds edges
unfolding edges
edges_hold = holds_append done_hold refused_hold
