-- Document 01, "Marking and confirming".
use Rattle.std.specs.Prelude.{Result, Ok, Err, ⊤, List, ◌++◌, Bool, true, ◌&&◌, ◌-◌, length}
use Rattle.spans.specs.Choice.{pick}
use Rattle.flash.specs.declared.Geometry.{Geometry}
use Rattle.flash.specs.declared.End.{End}
use Rattle.flash.specs.Build.{slot0, slot1, Flash, valid}
use Rattle.flash.specs.Base.{build}
use Rattle.flash.specs.Operations.{Op, start, steps}
use Rattle.trailer.specs.Trailer.{trailer, ok_at, copy_done_at, magic_of, is_good, is_no_magic, mark_of, is_unset, has_value}
use Rattle.plan.specs.declared.Course.{Course}
use Rattle.plan.specs.declared.Course.TheVariants.{Damage, FromLineThree, Resume, Test, Permanent, Revert, Clear, Nothing}
use Rattle.plan.specs.Lists.{ok_ops, magic_ops}
use Rattle.plan.specs.Asked.{asked_by}
use Rattle.answers.specs.declared.Refusal.{Refusal}
use Rattle.answers.specs.declared.Marked.{Marked}

pub record MarkResult : Type 0 where
  pub answer : Marked
  pub flash : Flash

-- an answer with what the areas then hold, as the promises pair them
abbrev pub mark_result : Marked → Flash → MarkResult
mark_result a f = record { answer = a; flash = f }

unfoldable pub refused_mark : Refusal → Flash → MarkResult
refused_mark r f = record { answer = record { ending = Err r; count = 0 }; flash = f }

-- 8: "a unit to be written is not erased", after the counted operations. Neither it nor Stopped comes: the allowance is the list's length
-- (`written_whole`), and what is written was Unset (`marking_ends`, `confirming_ends` of crate `demands`).
unfoldable pub ending_of : End → Result ⊤ Refusal
ending_of End.Going = Ok tt
ending_of End.Stopped = Ok tt
ending_of End.Unerased = Err Refusal.Unerased

-- "Neither takes an allowance; each answers its count": all of the list is carried out
unfoldable pub wrote_all : Geometry → List Op → Flash → MarkResult
wrote_all g ops f =
    let s = steps (build g) ops (start (length ops) f) in
    record { answer = record { ending = ending_of s.run.end; count = length ops - s.run.left }; flash = s.flash }

-- 2: damage under A or B; 6: "exchange under way (A, or B with c at least 3)"
unfoldable pub unless_under_way : Course → Flash → MarkResult → MarkResult
unless_under_way Damage f otherwise = refused_mark Refusal.Damage f
unless_under_way (FromLineThree p) f otherwise = refused_mark Refusal.UnderWay f
unless_under_way (Resume c) f otherwise = refused_mark Refusal.UnderWay f
unless_under_way Test f otherwise = otherwise
unless_under_way Permanent f otherwise = otherwise
unless_under_way Revert f otherwise = otherwise
unless_under_way Clear f otherwise = otherwise
unless_under_way Nothing f otherwise = otherwise

-- "Marking: 1, 2, 6, 5. Confirming: 1, 2, 6, 7."
unfoldable pub unless_refused : Geometry → Flash → MarkResult → MarkResult
unless_refused g f otherwise = pick (valid (build g) f) (unless_under_way (asked_by g f) f otherwise) (refused_mark Refusal.Geometry f)

-- "It needs slot 1's image ok and magic Unset."
unfoldable pub unmarked : Geometry → Flash → Bool
unmarked g f =
    let t1 = trailer (build g) slot1 f in
    is_unset (mark_of (build g) t1 (ok_at (build g))) && is_no_magic (magic_of (build g) t1)

-- "Marking slot 1 (test or permanent) writes image ok 01 if permanent, then magic."
unfoldable pub mark_unless_marked : Bool → Geometry → Flash → MarkResult
mark_unless_marked permanent g f =
    pick (unmarked g f) (wrote_all g (ok_ops (build g) slot1 permanent ++ magic_ops (build g) slot1) f) (refused_mark Refusal.Marks f)

unfoldable pub marking : Bool → Geometry → Flash → MarkResult
marking permanent g f = unless_refused g f (mark_unless_marked permanent g f)

-- "it needs slot 0 magic Good, copy done 01, image ok Unset"
unfoldable pub confirmable : Geometry → Flash → Bool
confirmable g f =
    let t0 = trailer (build g) slot0 f in
    is_good (magic_of (build g) t0) && (has_value 1 (mark_of (build g) t0 (copy_done_at (build g))) && is_unset
    (mark_of (build g) t0 (ok_at (build g))))

-- "Confirming writes slot 0 image ok 01"
unfoldable pub confirm_if_needed : Geometry → Flash → MarkResult
confirm_if_needed g f = pick (confirmable g f) (wrote_all g (ok_ops (build g) slot0 true) f) (refused_mark Refusal.Needs f)

unfoldable pub confirming : Geometry → Flash → MarkResult
confirming g f = unless_refused g f (confirm_if_needed g f)
