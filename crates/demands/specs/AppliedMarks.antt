-- The theorems about marking and confirming applied: their hypotheses can be met, and what they say then is document 01's.
use Rattle.spans.specs.Bytes.{blank}
use Rattle.flash.specs.Build.{Flash}
use Rattle.demands.specs.Instances.{flash}

-- an image in slot 1, and all trailers erased
unfoldable pub bare : Flash
bare = flash (blank 512) (blank 512)
