-- Marking and confirming with document 01's numbers: refusals, counts, and what the areas then hold. One table, closed by computing.
use Rattle.std.specs.Prelude.{refl, List, [], ◌∷◌, ◌++◌, true, false, ℕ, take}
use Rattle.spans.specs.Bytes.{part, put, blank, same}
use Rattle.spans.specs.Choice.{every}
use Rattle.spans.specs.Table.{Row, row, Holds, no_more, and}
use Rattle.flash.specs.declared.Geometry.{Geometry}
use Rattle.flash.specs.Build.{Flash, asked, fits, valid}
use Rattle.flash.specs.Base.{three_moves, all_moves, base}
use Rattle.flash.specs.Operations.{attempt, erased, write_in, step, steps}
use Rattle.trailer.specs.Trailer.{magic_bytes, mark_bytes, trailer, magic_of, mark_of, is_good, is_no_magic, is_unset, has_value, written, legal}
use Rattle.plan.specs.Lists.{writes, magic_ops, ok_ops}
use Rattle.plan.specs.Decision.{step_a, continue, step_b, state_c, asks}
use Rattle.plan.specs.Asked.{flash_of}
use Rattle.answers.specs.declared.numbers.MarkNumbers.{MarkNumbers}
use Rattle.answers.specs.Numbers.{marked_numbers}
use Rattle.marking.specs.Marking.{MarkResult, refused_mark, ending_of, wrote_all, unless_under_way, unless_refused, unmarked, mark_unless_marked, marking, confirmable, confirm_if_needed, confirming}

-- a call of one of the three, with units of w bytes: the refusal's number (0 for none), the count, and the areas
call : (Geometry → Flash → MarkResult) → ℕ → Flash → MarkNumbers × Flash
call what w f =
    let r = what (record { unit = w; sector = 512; sectors = 2 }) f in
    (marked_numbers r.answer, r.flash)

says : ℕ → ℕ → Flash → MarkNumbers × Flash
says refusal count f = (record { refusal = refusal; count = count }, f)

succeeds : (Geometry → Flash → MarkResult) → Flash → ℕ → Flash → Row
succeeds what f count f' = row (call what 1 f) (says 0 count f')

-- "Refusals 1, 2 and 5 to 7 have count 0", and the areas are "as before"
refuses : (Geometry → Flash → MarkResult) → Flash → ℕ → Row
refuses what f refusal = row (call what 1 f) (says refusal 0 f)

test : Geometry → Flash → MarkResult
test = marking false

permanent : Geometry → Flash → MarkResult
permanent = marking true

-- 1,024 bytes, a slot or scratch: in the trailer the marks of sector 1, copy done, image ok and magic
area : List ℕ → List ℕ → List ℕ → List ℕ → List ℕ
area marks done ok magic = put (put (put (put (blank 1024) 986 marks) 992 done) 1000 ok) 1008 magic

clean : List ℕ
clean = area [] [] [] []

good : List ℕ
good = area [] [] [] magic_bytes

-- slot 0 after an exchange, on trial and confirmed; and while sectors are moved
trial : List ℕ
trial = area (1 ∷ 2 ∷ 3 ∷ []) (1 ∷ []) [] magic_bytes

confirmed : List ℕ
confirmed = area (1 ∷ 2 ∷ 3 ∷ []) (1 ∷ []) (1 ∷ []) magic_bytes

moving : List ℕ
moving = area (1 ∷ 2 ∷ 3 ∷ []) [] [] magic_bytes

-- damage: in scratch (A), and in slot 0 (B)
damaged : List ℕ
damaged = area [] [] (2 ∷ []) magic_bytes

half_marked : List ℕ
half_marked = area (1 ∷ []) [] [] magic_bytes

-- what is written, and its count
pub done : List Row
done =
    -- "Marking slot 1 (test or permanent) writes image ok 01 if permanent, then magic." Copy done of slot 1 has no part in it.
    succeeds test (flash_of clean clean clean) 16 (flash_of clean good clean)
    ∷ succeeds permanent (flash_of clean clean clean) 17 (flash_of clean (area [] [] (1 ∷ []) magic_bytes) clean)
    ∷ succeeds test (flash_of trial (area [] (2 ∷ []) [] []) clean) 16 (flash_of trial (area [] (2 ∷ []) [] magic_bytes) clean)
    -- "Confirming writes slot 0 image ok 01". What slot 1 is marked for has no part in it.
    ∷ succeeds confirming (flash_of trial clean clean) 1 (flash_of confirmed clean clean)
    ∷ succeeds confirming (flash_of trial good clean) 1 (flash_of confirmed good clean) ∷ []

pub done_hold : Holds done
unfolding done succeeds call says test permanent area clean good trial confirmed marking confirming unless_refused unless_under_way
    mark_unless_marked unmarked confirm_if_needed confirmable wrote_all ending_of refused_mark valid fits
    asked every asks step_a step_b continue state_c written legal has_value is_unset is_no_magic is_good mark_of mark_bytes magic_of trailer magic_bytes
    writes magic_ops ok_ops attempt erased write_in step steps base three_moves all_moves put part blank same
done_hold = and refl (and refl (and refl (and refl (and refl no_more))))

-- "Marking: 1, 2, 6, 5. Confirming: 1, 2, 6, 7."
pub refused : List Row
refused =
    -- 5: "image ok or magic of slot 1 not Unset"
    refuses test (flash_of clean good clean) 5
    ∷ refuses test (flash_of clean (area [] [] [] (take 2 magic_bytes)) clean) 5
    ∷ refuses test (flash_of clean (area [] [] (1 ∷ []) []) clean) 5
    ∷ refuses permanent (flash_of clean (area [] [] (1 ∷ []) []) clean) 5
    -- 7: "it needs slot 0 magic Good, copy done 01, image ok Unset"
    ∷ refuses confirming (flash_of clean clean clean) 7
    ∷ refuses confirming (flash_of (area [] (1 ∷ []) [] (take 2 magic_bytes)) clean clean) 7
    ∷ refuses confirming (flash_of (area [] (1 ∷ []) [] []) clean clean) 7
    ∷ refuses confirming (flash_of good clean clean) 7
    ∷ refuses confirming (flash_of (area [] (2 ∷ []) [] magic_bytes) clean clean) 7
    ∷ refuses confirming (flash_of confirmed clean clean) 7
    -- 6: "exchange under way (A, or B with c at least 3)", asked before 5 and 7
    ∷ refuses test (flash_of clean good good) 6 ∷ refuses permanent (flash_of clean clean good) 6
    ∷ refuses confirming (flash_of clean clean good) 6 ∷ refuses confirming (flash_of trial clean good) 6
    ∷ refuses test (flash_of moving good clean) 6 ∷ refuses confirming (flash_of moving clean clean) 6
    -- 2: "damage under A or B", asked before 5 and 7
    ∷ refuses test (flash_of clean good damaged) 2 ∷ refuses confirming (flash_of clean clean damaged) 2
    ∷ refuses permanent (flash_of half_marked clean clean) 2 ∷ refuses confirming (flash_of half_marked clean clean) 2
    -- 1: "geometry or area lengths wrong", asked first
    ∷ row (call test 3 (flash_of clean good damaged)) (says 1 0 (flash_of clean good damaged))
    ∷ row (call confirming 3 (flash_of clean clean damaged)) (says 1 0 (flash_of clean clean damaged))
    ∷ refuses test (flash_of clean (blank 1023) clean) 1 ∷ refuses confirming (flash_of trial clean (blank 1025)) 1 ∷ []

pub refused_hold : Holds refused
unfolding refused refuses call says test permanent area clean good trial confirmed moving damaged half_marked marking confirming
    unless_refused unless_under_way mark_unless_marked unmarked confirm_if_needed confirmable wrote_all ending_of refused_mark
    valid fits asked every asks step_a step_b continue state_c written legal has_value is_unset is_no_magic is_good mark_of
    mark_bytes magic_of trailer magic_bytes writes magic_ops ok_ops attempt erased write_in step steps base three_moves all_moves put part blank same
refused_hold =
    and refl (and refl (and refl (and refl (and refl (and refl (and refl (and refl (and refl (and refl (and refl (and refl
    (and refl (and refl (and refl (and refl (and refl (and refl (and refl (and refl (and refl (and refl (and refl (and refl
    no_more)))))))))))))))))))))))

unfoldable pub edges : List Row
edges = done ++ refused
