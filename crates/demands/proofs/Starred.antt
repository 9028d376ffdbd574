-- The starred edges of document 01: a single table under one claim about the definitions.
use Rattle.spans.specs.Table.{Holds, holds_append}
use Rattle.causes.specs.Edges as image
use Rattle.recovery.specs.Edges as recovery
use Rattle.answers.specs.Edges as answers
use Rattle.loader.specs.Edges as loader
use Rattle.demands.proofs.Edges as whole
use Rattle.demands.specs.Starred.{starred}

pub starred_hold : Holds starred
unfolding starred
starred_hold =
    holds_append recovery.edges_hold
    (holds_append image.edges_hold (holds_append answers.edges_hold (holds_append loader.edges_hold whole.edges_hold)))
