-- Power-ups worked through operation by operation: after 0, 1, 2, .. operations the flash is what document 01's words say, written out
-- as bytes at places. Nothing of the lists, the places or the values of marks is used in what is said.
use Rattle.std.specs.Prelude.{refl, List, [], ◌∷◌, ◌++◌, Bool, true, false, ◌&&◌, ℕ, zero, suc}
use Rattle.spans.specs.Bytes.{part, put, blank, same}
use Rattle.spans.specs.Table.{Row, row, Holds, no_more, and}
use Rattle.flash.specs.Build.{Area, slot0, slot1, scratch, Build, Flash, area, with_area}
use Rattle.flash.specs.Base.{three_moves, all_moves, base}
use Rattle.flash.specs.Operations.{Op, State, attempt, erase_in, erased, write_in, step, start}
use Rattle.trailer.specs.Trailer.{magic_bytes, trailer, magic_of, mark_of, mark_bytes, is_good, is_no_magic, is_unset, has_value, written, legal}
use Rattle.plan.specs.Lists.{writes, magic_ops, ok_ops, lines_one_two, lines_three_to_six, copies, move_ops}
use Rattle.plan.specs.Lists.{data_ops, exchange, erases, clear_out}
use Rattle.plan.specs.Decision.{step_a, continue, step_b, state_c, asks, judged, decide, list_of, ok_unset}

-- Units of one byte and three sectors to a slot, as small as the trailer lets them be: 41 bytes. In a slot the data are bytes 0 to 81, the
-- marks 82 to 90, copy done 91, image ok 99, magic 107 to 122; in scratch the data are bytes 0 to 40, image ok 58, magic 66 to 81.
g : Build
g = base 1 41 3

-- ---- what is done: the flash after 0, 1, 2, .. operations of the list in force

trail : List Op → State → List Flash
trail [] s = s.flash ∷ []
trail (op ∷ ops) s = s.flash ∷ trail ops (step g op s)

powered : Bool → Flash → List Flash
powered accepted f = trail (list_of g (ok_unset g f) (decide (λ bs. accepted) g f)) (start 400 f)

-- ---- what is said: bytes that come to stand somewhere, one change after the other

record Change : Type 0 where
  pub in_area : Area
  pub at : ℕ
  pub bytes : List ℕ

said : List Change → Flash → List Flash
said [] f = f ∷ []
said (c ∷ cs) f = f ∷ said cs (with_area c.in_area f (put (area c.in_area f) c.at c.bytes))

-- an erased sector; a byte; bytes one after the other, from the first on
erase_at : Area → ℕ → List Change
erase_at a at = record { in_area = a; at = at; bytes = blank 41 } ∷ []

byte : Area → ℕ → ℕ → List Change
byte a at v = record { in_area = a; at = at; bytes = v ∷ [] } ∷ []

rising : Area → ℕ → List ℕ → List Change
rising a at [] = []
rising a at (v ∷ vs) = byte a at v ++ rising a (suc at) vs

magic : List ℕ
magic = 0x77 ∷ 0xc2 ∷ 0x95 ∷ 0xf3 ∷ 0x60 ∷ 0xd2 ∷ 0xef ∷ 0x7f ∷ 0x35 ∷ 0x52 ∷ 0x50 ∷ 0x0f ∷ 0x2c ∷ 0xb6 ∷ 0x79 ∷ 0x80 ∷ []

-- k bytes, the first of them v; a sector of an image
counting : ℕ → ℕ → List ℕ
counting v zero = []
counting v (suc k) = v ∷ counting (suc v) k

sector : ℕ → List ℕ
sector v = counting v 41

-- lines 1 and 2, and lines 3 to 6; p: image ok is written, as in all but a test
if_any : Bool → List Change → List Change
if_any true cs = cs
if_any false cs = []

lines_1_2 : Bool → List Change
lines_1_2 p = erase_at scratch 41 ++ if_any p (byte scratch 58 1) ++ rising scratch 66 magic

lines_3_6 : Bool → List Change
lines_3_6 p =
    erase_at slot1 82 ++ erase_at slot0 82 ++ if_any p (byte slot0 99 1) ++ byte slot0 82 1 ++ byte slot0 83 2 ++ byte slot0 84 3
    ++ rising slot0 107 magic ++ erase_at scratch 41

-- a move to a place of an area, with its mark
move_to : Area → ℕ → ℕ → ℕ → ℕ → List Change
move_to a at first mark v = erase_at a at ++ rising a at (sector first) ++ byte slot0 mark v

-- slot 0 has an image whose sectors begin with 10 and 60, slot 1 one whose sectors begin with 110 and 160: what is left of the data
-- exchange after 4 marks, and all of it
after_4_marks : List Change
after_4_marks =
    move_to slot1 41 60 86 2 ++ move_to slot0 41 160 87 3 ++ move_to scratch 0 110 88 1 ++ move_to slot1 0 10 89 2
    ++ move_to slot0 0 110 90 3 ++ byte slot0 91 1

data_exchange : List Change
data_exchange = move_to scratch 0 160 85 1 ++ after_4_marks

-- ---- where the power-ups begin

-- an area of three sectors: the first bytes of its two sectors of data; marks, image ok and magic
slot : ℕ → ℕ → List ℕ → List ℕ → List ℕ → List ℕ
slot first second marks ok magic =
    put (put (put (put (put (blank 123) 0 (sector first)) 41 (sector second)) 82 marks) 99 ok) 107 magic

-- slot 1 marked for test, with no image ok, or for good; the first with slot 0 confirmed; slot 0 on trial
marked : List ℕ → Flash
marked ok = record { in0 = slot 10 60 [] [] []; in1 = slot 110 160 [] ok magic; in2 = blank 82 }

confirmed : Flash
confirmed = record { in0 = slot 10 60 [] (1 ∷ []) []; in1 = slot 110 160 [] [] magic; in2 = blank 82 }

on_trial : Flash
on_trial = record { in0 = put (slot 10 60 [] [] magic) 91 (1 ∷ []); in1 = slot 110 160 [] [] []; in2 = blank 82 }

-- stopped within line 5, with one mark; stopped after mark 4, in the copy that follows it
within_line_5 : Flash
within_line_5 = record {
  in0 = slot 10 60 (1 ∷ []) (1 ∷ []) [];
  in1 = slot 110 160 [] [] [];
  in2 = put (put (blank 82) 58 (1 ∷ [])) 66 magic;
}

within_a_move : Flash
within_a_move = record {
  in0 = slot 10 60 (1 ∷ 2 ∷ 3 ∷ 1 ∷ []) (1 ∷ []) magic;
  in1 = put (put (slot 110 160 [] [] []) 41 (blank 41)) 41 (60 ∷ 61 ∷ []);
  in2 = put (blank 82) 0 (sector 160);
}

-- ---- both agree, flash by flash

alike : Flash → Flash → Bool
alike a b = same a.in0 b.in0 && (same a.in1 b.in1 && same a.in2 b.in2)

agree : List Flash → List Flash → Bool
agree [] [] = true
agree [] (y ∷ ys) = false
agree (x ∷ xs) [] = false
agree (x ∷ xs) (y ∷ ys) = alike x y && agree xs ys

as_said : Bool → List Change → Flash → Row
as_said accepted cs f = row (agree (powered accepted f) (said cs f)) true

-- a test exchange, a permanent one, a revert
pub exchanges : List Row
exchanges =
    as_said true (lines_1_2 false ++ lines_3_6 false ++ data_exchange) (marked [])
    ∷ as_said true (lines_1_2 true ++ lines_3_6 true ++ data_exchange) (marked (1 ∷ []))
    ∷ as_said true (lines_1_2 true ++ lines_3_6 true ++ data_exchange) on_trial ∷ []

-- under A, and under B
pub resumed : List Row
resumed = as_said true (lines_3_6 true ++ data_exchange) within_line_5 ∷ as_said true after_4_marks within_a_move ∷ []

-- with slot 0's image ok Unset, and with it written
pub clear_outs : List Row
clear_outs =
    as_said false (erase_at slot1 0 ++ erase_at slot1 41 ++ byte slot0 99 1 ++ erase_at slot1 82) (marked [])
    ∷ as_said false (erase_at slot1 0 ++ erase_at slot1 41 ++ erase_at slot1 82) confirmed ∷ []

pub exchanges_hold : Holds exchanges
unfolding exchanges as_said agree alike g trail powered said erase_at byte rising magic counting sector if_any lines_1_2 lines_3_6 move_to
    after_4_marks data_exchange slot marked confirmed on_trial within_line_5 within_a_move base decide judged asks step_a step_b continue
    state_c list_of ok_unset written legal has_value is_unset is_no_magic is_good mark_of mark_bytes magic_of trailer magic_bytes writes magic_ops ok_ops
    lines_one_two lines_three_to_six copies move_ops data_ops exchange erases clear_out three_moves all_moves put part blank same attempt erase_in
    erased write_in step
exchanges_hold = and refl (and refl (and refl no_more))

pub resumed_hold : Holds resumed
unfolding resumed as_said agree alike g trail powered said erase_at byte rising magic counting sector if_any lines_1_2 lines_3_6 move_to
    after_4_marks data_exchange slot marked confirmed on_trial within_line_5 within_a_move base decide judged asks step_a step_b continue
    state_c list_of ok_unset written legal has_value is_unset is_no_magic is_good mark_of mark_bytes magic_of trailer magic_bytes writes magic_ops ok_ops
    lines_one_two lines_three_to_six copies move_ops data_ops exchange erases clear_out three_moves all_moves put part blank same attempt erase_in
    erased write_in step
resumed_hold = and refl (and refl no_more)

pub clear_outs_hold : Holds clear_outs
unfolding clear_outs as_said agree alike g trail powered said erase_at byte rising magic counting sector if_any lines_1_2 lines_3_6 move_to
    after_4_marks data_exchange slot marked confirmed on_trial within_line_5 within_a_move base decide judged asks step_a step_b continue
    state_c list_of ok_unset written legal has_value is_unset is_no_magic is_good mark_of mark_bytes magic_of trailer magic_bytes writes magic_ops ok_ops
    lines_one_two lines_three_to_six copies move_ops data_ops exchange erases clear_out three_moves all_moves put part blank same attempt erase_in
    erased write_in step
clear_outs_hold = and refl (and refl no_more)
