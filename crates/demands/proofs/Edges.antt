-- Document 01's edges of a whole start, with the image check itself, in its numbers: exchanges of an accepted image, and refusal 4.
use Rattle.std.specs.Prelude.{◌≡◌, Bool, false, length, ltb}
use Rattle.std.proofs.Math.Path.{refl, ap}
use Rattle.std.proofs.Common.{◌∙◌}
use mathlib.Core.List.{List}
use Rattle.std.proofs.Math.Bool.{true}
use Prim.Native.Nat.{ℕ, min}
use Rattle.spans.specs.Bytes.{part, put, blank, same}
use Rattle.spans.specs.Choice.{every, pick}
use Rattle.spans.specs.Table.{Holds, no_more, and}
use Rattle.fields.specs.Fields.{little, field}
use Rattle.records.specs.Records.{record_at, step_at, after, record_of, first_then, split_in, records, digests}
use Rattle.flash.specs.Build.{Flash, asked, fits, valid}
use Rattle.flash.specs.Base.{three_moves, all_moves, base, build}
use Rattle.flash.specs.Operations.{Op, run, steps}
use Rattle.trailer.specs.Trailer.{magic_bytes, trailer, magic_of, mark_of, is_good, is_no_magic, is_unset, has_value, written, legal}
use Rattle.causes.specs.Header.{header_magic, records_size, header_size, body_size, covered_size, image_size}
use Rattle.causes.specs.Check.{number_of, sizes, head, one_digest, filled, layout_of, with_sizes, structure, digest_at, check, accepted}
use Rattle.causes.specs.Edges.{header, digest}
use Rattle.plan.specs.declared.Course.{Course}
use Rattle.plan.specs.Lists.{writes, magic_ops, ok_ops, lines_one_two, lines_three_to_six, copies, move_ops, data_ops, exchange}
use Rattle.plan.specs.Decision.{step_a, continue, step_b, state_c, asks, judged, decide, list_of, ok_unset, in_force, done_of, found_of}
use Rattle.recovery.specs.Statement.{Due, Exchange, by_test, by_permanent, by_revert}
use Rattle.answers.specs.declared.Answer.{Answer}
use Rattle.answers.specs.declared.Outcome.{Outcome}
use Rattle.answers.specs.Numbers.{done_number, with_outcome}
use Rattle.loader.specs.PowerUp.{Result, judged_start, started, data_of, boot_of, ended, carried, answered, refused, is_damage, on_course, full_start}
use Rattle.demands.specs.Statement.{as_listed}
use Rattle.demands.proofs.AsListed.{as_listed_lem}
use Rattle.demands.specs.Instances.{small, booted}
use Rattle.demands.proofs.Instances.{test_due_lem, permanent_due_lem, revert_due_lem, in_force_lem}
use Rattle.demands.proofs.Applied.{boots_test, boots_permanent, boots_reverted}
use Rattle.demands.specs.Edges.{answer, says, edges}

-- ---- exchanges

undamaged : {course : Course} {p : Bool} → Exchange course p → is_damage course ≡ false
unfolding is_damage
undamaged by_test = refl
undamaged by_permanent = refl
undamaged by_revert = refl

module _ (b : ℕ) {f : Flash} {course : Course} {p : Bool} (due : Due accepted (build small) f course p) where
  -- what was done, c, the count and the outcome of the exchange that is due
  numbered : (o : Outcome) → (full_start true small b f).answer.outcome ≡ o
      → answer true b f ≡ with_outcome (done_number (done_of course)) (found_of course) (min b (length (exchange (build small) p))) o
  unfolding answer as_listed
  numbered o e =
      let r : (full_start true small b f).answer ≡ (as_listed true small b f course).answer =
      ap (λ (x : Result). x.answer) (as_listed_lem true small b f course due.fits due.decided (undamaged due.which)) in
      let n : min b (length (in_force accepted (build small) f)) ≡ min b (length (exchange (build small) p)) =
      ap (λ (ops : List Op). min b (length ops)) (in_force_lem due) in
      rw (ap (λ (x : Answer). x.done) r, ap (λ (x : Answer). x.found) r, ap (λ (x : Answer). x.count) r ∙ n, e) refl

  -- with no allowance it is Stopped
  stopped : (full_start true small 0 f).answer.outcome ≡ pick (ltb 0 (length (exchange (build small) p))) Outcome.Stopped (boot_of true small
      (run (build small) 0 (exchange (build small) p) f))
  unfolding as_listed
  stopped = ap (λ (x : Result). x.answer.outcome) (as_listed_lem true small 0 f course due.fits due.decided (undamaged due.which))
      ∙ rw (in_force_lem due)

pub edges_hold : Holds edges
unfolding edges answer booted digest says header small part put blank same every little field record_at step_at after record_of first_then split_in
    records digests asked fits valid three_moves all_moves base steps magic_bytes trailer magic_of mark_of is_good is_no_magic is_unset has_value written legal
    header_magic records_size header_size body_size covered_size image_size number_of sizes head one_digest filled layout_of with_sizes structure digest_at
    check writes magic_ops ok_ops lines_one_two lines_three_to_six copies move_ops data_ops exchange step_a continue step_b state_c asks judged decide list_of
    ok_unset done_of found_of
    judged_start started data_of boot_of ended carried answered refused on_course full_start
edges_hold =
    and (numbered 0 test_due_lem Outcome.Stopped (stopped 0 test_due_lem)) (and (numbered 1582 test_due_lem (Outcome.Boot 32) boots_test)
    (and (numbered 1584 permanent_due_lem (Outcome.Boot 32) boots_permanent) (and (numbered 1584 revert_due_lem (Outcome.Boot 32) boots_reverted)
    (and refl (and refl (and refl no_more))))))
