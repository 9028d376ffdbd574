-- Flash for which the hypotheses of the demands hold, with the image check itself: an image in slot 1 (w 1, s 512, n 2), an exchange of each
-- kind due, and power that fails while slot 1's sector, the image in it, is erased.
use Rattle.std.specs.Prelude.{◌≡◌, refl, List, [], ◌∷◌, ◌++◌, false, ℕ, replicate}
use Rattle.std.proofs.Common.{arith}
use Rattle.std.proofs.Math.ListN.{length}
use Rattle.spans.specs.Bytes.{put, blank}
use Rattle.flash.specs.declared.Geometry.{Geometry}
use Rattle.flash.specs.Build.{slot1, Flash}
use Rattle.flash.specs.Base.{build}
use Rattle.flash.specs.Operations.{store, run}
use Rattle.trailer.specs.Trailer.{magic_bytes}
use Rattle.causes.specs.Image.{Image}
use Rattle.causes.specs.Written as writer
use Rattle.plan.specs.Lists.{exchange}

-- "w 1, s 512, n 2"
unfoldable pub small : Geometry
small = record { unit = 1; sector = 512; sectors = 2 }

-- an image that fills the slot's data bytes with erased ones behind it: eight bytes of body
unfoldable pub unread : writer.Unread
unread = record { at_6 = 255; at_7 = 0; at_10 = 0; at_11 = 0; from_16 = replicate 16 0 }

unfoldable pub image : List ℕ
image = writer.written unread (replicate 8 85) (blank 436)

pub an_image : Image image
unfolding image unread
an_image = writer.written_image unread refl (replicate 8 85) (blank 436) (omega arith)

pub image_whole : length image ≡ 512
unfolding image unread blank
image_whole = writer.written_length unread refl (replicate 8 85) (blank 436)

-- a trailer sector with copy done, image ok and magic
unfoldable pub ending : List ℕ → List ℕ → List ℕ → List ℕ
ending done ok magic = put (put (put (blank 512) 480 done) 488 ok) 496 magic

-- slot 0's and slot 1's trailers; slot 0's data erased, the image in slot 1, scratch erased
unfoldable pub flash : List ℕ → List ℕ → Flash
flash t0 t1 = record { in0 = blank 512 ++ t0; in1 = image ++ t1; in2 = blank 1024 }

-- slot 1 marked for test, and slot 0 ready for III besides; marked for good; slot 0 on trial, and slot 1 with no magic
unfoldable pub for_test : Flash
for_test = flash (ending (1 ∷ []) [] magic_bytes) (ending [] [] magic_bytes)

unfoldable pub for_good : Flash
for_good = flash (blank 512) (ending [] (1 ∷ []) magic_bytes)

unfoldable pub on_trial : Flash
on_trial = flash (ending (1 ∷ []) [] magic_bytes) (blank 512)

-- bytes in slot 0, and nothing due
unfoldable pub booted : List ℕ → Flash
booted bytes = record { in0 = put (blank 1024) 0 bytes; in1 = blank 1024; in2 = blank 1024 }

-- the second move's erase: the image has gone to scratch, and slot 1's sector is left with sevens
unfoldable pub harmed : Flash
harmed = store slot1 0 (replicate 512 7) (run (build small) 553 (exchange (build small) false) for_test)
