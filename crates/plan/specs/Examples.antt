-- An exchange worked through: what it leaves, also when it is stopped somewhere and taken up again. (The theorem about this, for every
-- geometry and with harm, is in the crate `recovery`.)
use Rattle.std.specs.Prelude.{refl, List, [], ◌∷◌, Bool, true, false, ℕ}
use Rattle.spans.specs.Bytes.{part, put, blank, same}
use Rattle.spans.specs.Table.{Row, row, Holds, no_more, and}
use Rattle.flash.specs.Build.{Build, Flash}
use Rattle.flash.specs.Base.{three_moves, all_moves, base}
use Rattle.flash.specs.Operations.{attempt, erase_in, erased, write_in, step, steps, start}
use Rattle.trailer.specs.Trailer.{magic_bytes, trailer, magic_of, mark_of, mark_bytes, is_good, is_no_magic, is_unset, has_value, written, legal}
use Rattle.plan.specs.Lists.{writes, magic_ops, ok_ops, lines_one_two, lines_three_to_six, copies, move_ops}
use Rattle.plan.specs.Lists.{data_ops, exchange, erases, clear_out}
use Rattle.plan.specs.Decision.{step_a, continue, step_b, state_c, asks, judged, decide, list_of, ok_unset}

-- Units of one byte and two sectors to a slot, as small as the trailer lets them be: fewer bytes than document 01 allows, for quick
-- computing, which none of the lists asks.
g : Build
g = base 1 38 2

-- two images of three bytes; slot 1 is marked for test, or for good
old : List ℕ
old = 10 ∷ 20 ∷ 30 ∷ []

new : List ℕ
new = 40 ∷ 50 ∷ 60 ∷ []

ok : Bool → List ℕ
ok true = 1 ∷ []
ok false = []

-- an area of two sectors: an image in the first; marks, copy done, image ok and magic in the second
holding : List ℕ → List ℕ → List ℕ → List ℕ → List ℕ → List ℕ
holding image marks done ok magic = put (put (put (put (put (blank 76) 0 image) 38 marks) 44 done) 52 ok) 60 magic

marked : Bool → Flash
marked p = record { in0 = holding old [] [] [] []; in1 = holding new [] [] (ok p) magic_bytes; in2 = blank 76 }

-- what an exchange leaves: the images have changed places, slot 1's trailer sector is erased, slot 0's says what was done
exchanged : Bool → Flash
exchanged p = record {
  in0 = holding new (1 ∷ 2 ∷ 3 ∷ 1 ∷ 2 ∷ 3 ∷ []) (1 ∷ []) (ok p) magic_bytes;
  in1 = holding old [] [] [] [];
  in2 = holding new [] [] [] [];
}

accepts : List ℕ → Bool
accepts bs = true

-- one power-up with an allowance of b, and one with an allowance for all after it
after : ℕ → Flash → Flash
after b f = (steps g (list_of g (ok_unset g f) (decide accepts g f)) (start b f)).flash

stopped : ℕ → Flash → Flash
stopped b f = after 200 (after b f)

pub examples : List Row
examples =
    -- never stopped
    row (after 160 (marked false)) (exchanged false) ∷ row (after 162 (marked true)) (exchanged true)
    -- stopped in lines 1 and 2, and in lines 3 to 6
    ∷ row (stopped 17 (marked true)) (exchanged true) ∷ row (stopped 30 (marked true)) (exchanged true)
    -- in each of the three moves, with one unit copied
    ∷ row (stopped 41 (marked false)) (exchanged false) ∷ row (stopped 81 (marked false)) (exchanged false)
    ∷ row (stopped 121 (marked false)) (exchanged false)
    -- before copy done
    ∷ row (stopped 159 (marked false)) (exchanged false) ∷ row (stopped 161 (marked true)) (exchanged true) ∷ []

pub examples_hold : Holds examples
unfolding examples g old new ok holding marked exchanged accepts after stopped base decide judged asks step_a step_b
    continue state_c list_of ok_unset written legal has_value is_unset is_no_magic is_good mark_of mark_bytes magic_of trailer
    magic_bytes writes magic_ops ok_ops lines_one_two lines_three_to_six copies move_ops data_ops exchange erases clear_out
    three_moves all_moves put part blank same attempt erase_in erased write_in step steps
examples_hold = and refl (and refl (and refl (and refl (and refl (and refl (and refl (and refl (and refl no_more))))))))
