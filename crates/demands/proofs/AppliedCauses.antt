-- The theorems about refusals 3 and 4 applied, each with a cause that slot 0 meets: with erased bytes cause 1, with no records cause 4.
use Rattle.std.specs.Prelude.{◌≡◌, refl, List, [], true, ℕ, ◌≤◌, Err}
use Rattle.std.proofs.Common.{sym, ap, ◌∙◌, arith}
use Rattle.spans.specs.Bytes.{part, put, blank, same}
use Rattle.spans.specs.Choice.{every}
use Rattle.fields.specs.Fields.{little, field}
use Rattle.records.specs.Records.{record_at, step_at, after, record_of, first_then, split_in, records, digests}
use Rattle.flash.specs.Build.{asked, fits, valid}
use Rattle.flash.specs.Base.{base}
use Rattle.flash.specs.Operations.{steps}
use Rattle.trailer.specs.Trailer.{magic_bytes, trailer, magic_of, mark_of, is_good, is_no_magic, is_unset, has_value, written, legal}
use Rattle.causes.specs.declared.Cause.TheVariants.{HeaderMagic, DigestRecord}
use Rattle.causes.specs.Header.{header_magic, records_size, header_size, body_size, covered_size, image_size}
use Rattle.causes.specs.Check.{number_of, sizes, head, one_digest, filled, layout_of, with_sizes, structure, digest_at, check}
use Rattle.causes.specs.Edges.{header}
use Rattle.plan.specs.Decision.{step_a, continue, step_b, state_c, asks, judged, decide, list_of, ok_unset, done_of, found_of}
use Rattle.answers.specs.declared.Refusal.{Refusal}
use Rattle.answers.specs.declared.Outcome.{Outcome}
use Rattle.answers.specs.Numbers.{refusal_number}
use Rattle.loader.specs.PowerUp.{judged_start, started, data_of, boot_of, ended, carried, answered, refused, on_course, full_start}
use Rattle.demands.specs.Promise.{met}
use Rattle.demands.specs.Statement.{MeetsLow, MeetsHigh, ToD}
use Rattle.demands.proofs.Causes.{refusal_3, refusal_4, refusal_3_due, refusal_4_due}
use Rattle.demands.specs.Instances.{small, booted}

-- a start that is refused by another number than 1 or 2 came to D
to_d : (bytes : List ℕ) (r : Refusal) → (full_start true small 4000 (booted bytes)).answer.outcome ≡ Outcome.Refused r
    → 3 ≤ refusal_number r → ToD (full_start true small 4000 (booted bytes)).answer
to_d bytes r e l = record {
  taken = λ h. let same : refusal_number r ≡ 1 = ap number (sym e ∙ h) in omega arith;
  undamaged = λ h. let same : refusal_number r ≡ 2 = ap number (sym e ∙ h) in omega arith;
  allowed = λ h. let none : refusal_number r ≡ 0 = ap number (sym e ∙ h) in omega arith;
}
  where
    number : Outcome → ℕ
    number (Outcome.Boot o) = 0
    number Outcome.Stopped = 0
    number (Outcome.Refused r) = refusal_number r

-- ---- refusal 3

erased : ((full_start true small 4000 (booted [])).answer.outcome ≡ Outcome.Refused Refusal.Header)
    × (check (data_of small (full_start true small 4000 (booted [])).flash.in0) ≡ Err HeaderMagic)
unfolding booted small put part blank same every little field asked fits valid base steps magic_bytes trailer magic_of mark_of is_good is_no_magic is_unset
    has_value written legal header_magic sizes head with_sizes structure digest_at check step_a continue step_b state_c asks judged decide list_of
    ok_unset done_of found_of judged_start started data_of boot_of ended carried answered refused on_course full_start
erased = (refl, refl)

pub erased_meets : MeetsLow (data_of small (full_start true small 4000 (booted [])).flash.in0)
erased_meets = refusal_3 (met true small 4000 (booted [])) erased.0

pub erased_refused : (full_start true small 4000 (booted [])).answer.outcome ≡ Outcome.Refused Refusal.Header
unfolding number_of
erased_refused =
    refusal_3_due (met true small 4000 (booted [])) (to_d [] Refusal.Header erased.0 (omega arith)) HeaderMagic erased.1 (omega arith)

-- ---- refusal 4

no_records : ((full_start true small 4000 (booted (header 0 32 8 0))).answer.outcome ≡ Outcome.Refused (Refusal.Image DigestRecord))
    × (check (data_of small (full_start true small 4000 (booted (header 0 32 8 0))).flash.in0) ≡ Err DigestRecord)
unfolding booted header small put part blank same every little field record_at step_at after record_of first_then split_in records digests asked fits
    valid base steps magic_bytes trailer magic_of mark_of is_good is_no_magic is_unset has_value written legal header_magic records_size header_size body_size
    covered_size image_size sizes head one_digest filled layout_of with_sizes structure digest_at check step_a continue step_b state_c asks judged decide
    list_of ok_unset done_of found_of judged_start started data_of boot_of ended carried answered refused on_course full_start
no_records = (refl, refl)

pub no_records_meet : MeetsHigh true (data_of small (full_start true small 4000 (booted (header 0 32 8 0))).flash.in0) DigestRecord
no_records_meet = refusal_4 (met true small 4000 (booted (header 0 32 8 0))) DigestRecord no_records.0

pub no_records_refused : (full_start true small 4000 (booted (header 0 32 8 0))).answer.outcome ≡ Outcome.Refused (Refusal.Image DigestRecord)
unfolding number_of
no_records_refused =
    refusal_4_due (met true small 4000 (booted (header 0 32 8 0))) (to_d (header 0 32 8 0) (Refusal.Image DigestRecord) no_records.0 (omega arith))
    DigestRecord no_records.1 (omega arith) refl
