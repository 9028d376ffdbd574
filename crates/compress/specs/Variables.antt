-- The working variables of 6.2.2, as the code has them.
use Rattle.fips.specs.Fips.{Eight}
use Rattle.compress.specs.declared.turn.Work.{Work}

-- the words of the code's struct
unfoldable pub eight : Work → Eight
eight v = record { a = v.a; b = v.b; c = v.c; d = v.d; e = v.e; f = v.f; g = v.g; h = v.h }
