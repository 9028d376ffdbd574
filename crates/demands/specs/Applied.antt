-- The theorems about a power-up applied, with the image check itself: their hypotheses can be met, and what they say then is document 01's.
-- ---- demand 3: the image that was destroyed in slot 1 stands in slot 0, and is booted
use Rattle.std.specs.Prelude.{[], ◌∷◌, ◌++◌}
use Rattle.spans.specs.Bytes.{put, blank}
use Rattle.flash.specs.Build.{Flash}
use Rattle.trailer.specs.Trailer.{magic_bytes}
use Rattle.demands.specs.Instances.{ending}

-- erased data bytes, marked for test
unfoldable pub no_image : Flash
no_image = record { in0 = blank 1024; in1 = blank 512 ++ ending [] [] magic_bytes; in2 = blank 1024 }

-- "Marks 01, ff in sector n − 1 with slot 0 Good and copy done Unset"
unfoldable pub damaged : Flash
damaged = record { in0 = blank 512 ++ put (ending [] [] magic_bytes) 474 (1 ∷ []); in1 = blank 1024; in2 = blank 1024 }
