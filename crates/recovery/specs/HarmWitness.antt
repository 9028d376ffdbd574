-- The test exchange of `Witness` cut with harm: each data sector and its last unit can hold any bytes, in each of the three areas; and
-- cut again and again.
use Rattle.std.specs.Prelude.{List, [], ◌∷◌, ℕ, drop, replicate}
use Rattle.flash.specs.Build.{slot0, slot1, Flash}
use Rattle.flash.specs.Operations.{store, run}
use Rattle.plan.specs.Lists.{data_ops}
use Rattle.recovery.specs.Edges.{small}
use Rattle.recovery.specs.Witness.{harmed}

-- ---- three failures in a row, with harm in each of the three areas

-- The first left sevens in scratch's data sector (`harm_comes`). The second power-up resumes after 3 marks and is cut inside the erase of
-- slot 1's data sector; the third resumes after 4 marks and is cut inside the copy of unit 3 to slot 0.
unfoldable pub nines : List ℕ
nines = replicate 512 9

unfoldable pub harmed_twice : Flash
harmed_twice = store slot1 0 nines (run small 514 (data_ops small 3 small.moves) harmed)

unfoldable pub harmed_thrice : Flash
harmed_thrice = store slot0 3 (5 ∷ []) (run small 518 (data_ops small 4 (drop 1 small.moves)) harmed_twice)
