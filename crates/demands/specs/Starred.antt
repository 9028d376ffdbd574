-- The starred edges of document 01: a single table under one claim about the definitions.
use Rattle.std.specs.Prelude.{List, ◌++◌}
use Rattle.spans.specs.Table.{Row}
use Rattle.causes.specs.Edges as image
use Rattle.recovery.specs.Edges as recovery
use Rattle.answers.specs.Edges as answers
use Rattle.loader.specs.Edges as loader
use Rattle.demands.specs.Edges as whole

unfoldable pub starred : List Row
starred = recovery.edges ++ (image.edges ++ (answers.edges ++ (loader.edges ++ whole.edges)))
