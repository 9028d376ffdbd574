-- The starred edges of document 01 on geometry, places, counts and states: one table, closed by computing.
use Rattle.std.specs.Prelude.{refl, List, [], ◌∷◌, ◌++◌, Bool, true, false, ℕ, ◌*◌, ◌/◌, ◌%◌, length, take}
use Rattle.spans.specs.Bytes.{part, put, blank, same}
use Rattle.spans.specs.Choice.{every}
use Rattle.spans.specs.Table.{Row, row, Holds, no_more, and}
use Rattle.flash.specs.Geometry.{byte_at, sector_no}
use Rattle.flash.specs.Build.{slot0, Build, Flash, asked, fits}
use Rattle.flash.specs.Base.{three_moves, all_moves, base}
use Rattle.trailer.specs.Trailer.{magic_bytes, trailer, magic_at, ok_at, copy_done_at, mark_stands, magic_of, mark_of, is_good, is_no_magic, is_unset, has_value, written, legal}
use Rattle.plan.specs.Lists.{place_in, writes, magic_ops, ok_ops, lines_one_two, lines_three_to_six, copies, move_ops, data_ops, exchange}
use Rattle.plan.specs.declared.Course.{Course}
use Rattle.plan.specs.declared.Course.TheVariants.{Damage, Test, Nothing}
use Rattle.plan.specs.Decision.{step_a, continue, step_b, state_c, asks, judged, decide}

-- a geometry is taken, with areas of the right lengths
taken : ℕ → ℕ → ℕ → Bool
taken w s n = fits (base w s n) (n * s) (n * s) (2 * s)

-- "w 1, s 512, n 2"
unfoldable pub small : Build
small = base 1 512 2

-- a word of four bytes, little endian
little_endian : ℕ → List ℕ
little_endian x = x % 256 ∷ x / 256 % 256 ∷ x / 65536 % 256 ∷ x / 16777216 % 256 ∷ []

-- slots of 1,024 bytes with copy done, image ok and magic in the trailer; the flash with scratch erased; an image accepted
unfoldable pub slot : List ℕ → List ℕ → List ℕ → List ℕ
slot done ok magic = put (put (put (blank 1024) 992 done) 1000 ok) 1008 magic

unfoldable pub flash : List ℕ → List ℕ → Flash
flash a b = record { in0 = a; in1 = b; in2 = blank 1024 }

unfoldable pub accepts : List ℕ → Bool
accepts bs = true

course : List ℕ → List ℕ → Course
course a b = decide accepts small (flash a b)

-- slot 0 ready for III
unfoldable pub ran : List ℕ
ran = slot (1 ∷ []) [] magic_bytes

pub edges : List Row
edges =
    -- "w 1: s 416 taken, 415 refused 1. w 8: 3,104 taken, 3,096 refused 1. w 3 refused. n 2 and 128 taken, 1 and 129 refused."
    row (taken 1 416 2) true ∷ row (taken 1 415 2) false ∷ row (taken 8 3104 2) true ∷ row (taken 8 3096 2) false
    ∷ row (taken 3 2000 2) false ∷ row (taken 3 3000 2) false
    ∷ row (taken 1 512 2) true ∷ row (taken 1 512 128) true ∷ row (taken 1 512 1) false ∷ row (taken 1 512 129) false
    -- "w 1, s 512, n 2: marks begin at 608, mark 0 of sector 1 at 986, mark 2 of sector 0 at 991, copy done 992, image ok 1,000,
    -- magic 1,008." (the first of the progress marks are those of a sector 127)
    ∷ row (place_in small slot0 (mark_stands small (sector_no 127) 0)) (byte_at 608)
    ∷ row (place_in small slot0 (mark_stands small (sector_no 1) 0)) (byte_at 986)
    ∷ row (place_in small slot0 (mark_stands small (sector_no 0) 2)) (byte_at 991)
    ∷ row (place_in small slot0 (copy_done_at small)) (byte_at 992) ∷ row (place_in small slot0 (ok_at small)) (byte_at 1000)
    ∷ row (place_in small slot0 (magic_at small)) (byte_at 1008)
    -- "magic words f395c277, 7fefd260, 0f505235, 8079b62c", "The words are little endian here"
    ∷ row (little_endian 0xf395c277 ++ little_endian 0x7fefd260 ++ little_endian 0x0f505235 ++ little_endian 0x8079b62c) magic_bytes
    -- "Same geometry: test exchange 1,582 operations, permanent 1,584.* w 8, s 4,096, n 3: test 3,096.*"
    ∷ row (length (exchange small false)) 1582 ∷ row (length (exchange small true)) 1584
    ∷ row (length (exchange (base 8 4096 3) false)) 3096
    -- "Marks 01, ff in sector n − 1 with slot 0 Good and copy done Unset: refusal 2."
    ∷ row (course (put (slot [] [] magic_bytes) 986 (1 ∷ [])) (blank 1024)) Damage
    -- "State III with two bytes of magic in slot 1: none."
    ∷ row (course ran (slot [] [] (take 2 magic_bytes))) Nothing
    -- "Both I and slot 0 ready for III, image accepted: test."
    ∷ row (course ran (slot [] [] magic_bytes)) Test ∷ []

pub edges_hold : Holds edges
unfolding edges taken little_endian course ran accepts flash slot small base fits asked every decide judged asks step_a step_b continue
    state_c written legal has_value is_unset is_no_magic is_good mark_of magic_of trailer mark_stands magic_bytes writes magic_ops ok_ops lines_one_two
    lines_three_to_six copies move_ops data_ops exchange three_moves all_moves put part blank same
edges_hold =
    and refl (and refl (and refl (and refl (and refl (and refl (and refl (and refl (and refl (and refl (and refl
    (and refl (and refl (and refl (and refl (and refl (and refl (and refl (and refl (and refl (and refl (and refl
    (and refl no_more))))))))))))))))))))))
