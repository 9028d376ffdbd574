-- Document 01, "Edges to try": what a power-up answers at the starred edges, in document 01's numbers, by computing.
use Rattle.std.specs.Prelude.{refl, List, [], ◌∷◌, ◌++◌, ℕ, ◌*◌, take}
use Rattle.spans.specs.Bytes.{part, put, blank, same}
use Rattle.spans.specs.Choice.{every}
use Rattle.spans.specs.Table.{Row, row, Holds, no_more, and}
use Rattle.fields.specs.Fields.{little, field}
use Rattle.flash.specs.Build.{Flash, asked, fits, valid}
use Rattle.flash.specs.Base.{three_moves, all_moves, base}
use Rattle.flash.specs.Operations.{attempt, erase_in, write_in, step, steps}
use Rattle.trailer.specs.Trailer.{magic_bytes, trailer, magic_of, mark_of, is_good, is_no_magic, is_unset, has_value, written, legal, mark_bytes}
use Rattle.causes.specs.Header.{header_magic, records_size, header_size, body_size, covered_size, image_size}
use Rattle.causes.specs.Check.{sizes, head, with_sizes, structure, digest_at, check, is_accepted, accepted}
use Rattle.causes.specs.Edges.{header, body, digest}
use Rattle.plan.specs.Lists.{ok_ops, erases, clear_out}
use Rattle.plan.specs.Decision.{step_a, continue, step_b, state_c, asks, judged, decide, list_of, ok_unset, done_of, found_of}
use Rattle.answers.specs.declared.numbers.Numbers.{Numbers}
use Rattle.answers.specs.Numbers.{answer_numbers}
use Rattle.loader.specs.PowerUp.{started, data_of, boot_of, ended, carried, answered, refused, on_course, full_start, power_up}

flash : List ℕ → List ℕ → List ℕ → Flash
flash a b c = record { in0 = a; in1 = b; in2 = c }

-- what the power-up answers
answer : ℕ → ℕ → ℕ → ℕ → Flash → Numbers
answer w s n allowance f = answer_numbers (power_up (record { unit = w; sector = s; sectors = n }) allowance f).answer

-- what it says: what was done, the end, the offset and the refusal, with c and the count 0
says : ℕ → ℕ → ℕ → ℕ → Numbers
says done end offset refusal = record { done = done; found = 0; count = 0; end = end; offset = offset; refusal = refusal; cause = 0 }

-- erased areas of a geometry's lengths, and the number of the refusal: 3 is that of slot 0's header, so that the geometry is taken
of_erased : ℕ → ℕ → ℕ → ℕ
of_erased w s n = (answer w s n 4000 (flash (blank (n * s)) (blank (n * s)) (blank (2 * s)))).refusal

-- "w 1, s 512, n 2": slots with an image's header, copy done, image ok and magic; scratch erased
slot : List ℕ → List ℕ → List ℕ → List ℕ → List ℕ
slot image done ok magic = put (put (put (put (blank 1024) 0 image) 992 done) 1000 ok) 1008 magic

small : ℕ → List ℕ → List ℕ → Numbers
small allowance a b = answer 1 512 2 allowance (flash a b (blank 1024))

pub edges : List Row
edges =
    -- "w 1: s 416 taken, 415 refused 1. w 8: 3,104 taken, 3,096 refused 1. w 3 refused. n 2 and 128 taken, 1 and 129 refused."
    row (of_erased 1 416 2) 3 ∷ row (of_erased 1 415 2) 1 ∷ row (of_erased 8 3104 2) 3 ∷ row (of_erased 8 3096 2) 1
    ∷ row (of_erased 3 2000 2) 1 ∷ row (of_erased 3 3000 2) 1
    ∷ row (of_erased 1 416 128) 3 ∷ row (of_erased 1 416 1) 1 ∷ row (of_erased 1 416 129) 1
    -- "For 3,072 bytes of 0xff it prints `none 0 0 refused 3`."
    ∷ row (small 4000 (blank 1024) (blank 1024)) (says 0 2 0 3)
    -- "Sizes summing to m·s pass, one more is cause 2." In slot 0: a boot at its header size, or refusal 3; in slot 1: cleared, not begun
    ∷ row (small 4000 (slot (header 36 32 188 1) [] [] []) (blank 1024)) (says 0 0 32 0)
    ∷ row (small 4000 (slot (header 36 32 189 1) [] [] []) (blank 1024)) (says 0 2 0 3)
    ∷ row (small 0 (blank 1024) (slot (header 36 32 189 1 ++ body 445 ++ digest 32) [] [] magic_bytes)) (says 5 1 0 0)
    -- "Marks 01, ff in sector n − 1 with slot 0 Good and copy done Unset: refusal 2."
    ∷ row (small 4000 (put (slot [] [] [] magic_bytes) 986 (1 ∷ [])) (blank 1024)) (says 0 2 0 2)
    -- "State III with two bytes of magic in slot 1: none."
    ∷ row (small 4000 (slot (header 36 32 8 0) (1 ∷ []) [] magic_bytes) (slot [] [] [] (take 2 magic_bytes))) (says 0 0 32 0)
    ∷ []

pub edges_hold : Holds edges
unfolding edges flash answer says of_erased slot small header body digest part put blank same every little field asked fits valid three_moves
    all_moves base attempt erase_in write_in step steps magic_bytes trailer magic_of mark_of is_good is_no_magic is_unset has_value written legal
    mark_bytes header_magic records_size header_size body_size covered_size image_size sizes head with_sizes structure digest_at check is_accepted
    accepted ok_ops erases clear_out step_a continue step_b state_c asks judged decide list_of ok_unset done_of found_of
    started data_of boot_of ended carried answered
    refused on_course full_start power_up
edges_hold =
    and refl (and refl (and refl (and refl (and refl (and refl (and refl (and refl (and refl (and refl (and refl
    (and refl (and refl (and refl (and refl no_more))))))))))))))
