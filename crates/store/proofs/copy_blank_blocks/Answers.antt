use Rattle.std.proofs.Common.{length, List, ap, arith, false, sym, true, ℕ, ◌*◌, ◌+◌, ◌-◌, ◌/◌, ◌∙◌, ◌≡◌}
use borrow.Rule.Slice.PartMut.{put_mid}
use Rattle.spans.specs.Bytes.{put, part, blank, same}
use Rattle.spans.specs.Laws.{length_put, put_nil}
use Rattle.spans.specs.Blanks.{blanks, blanks_next, blanks_stop}
use Rattle.store.proofs.Parts.{part_none, front_more, behind_front}
use Rattle.store.proofs.copy_blank_blocks.Goals as goal

pub loop-k-init : goal.loop-k-init
loop-k-init c =
    let d : c.min-blocks.result / 512 - 0 ≡ c.min-blocks.result / 512 = omega arith in (
      sym (put_nil _ 0) ∙ ap (put c.args.area.now 0) (sym (part_none c.args.bytes.now 0)),
      rw d (omega arith),
    )

pub loop-k-preserved : goal.loop-k-preserved
unfolding part
loop-k-preserved c =
    let given = c.args in
    let k : ℕ = c.loop-k.k in
    let more : k * 512 + 512 ≡ (k + 1) * 512 = omega arith in
    let width : k * 512 + 512 - k * 512 ≡ 512 = omega arith in
    let looked : same (part given.area.now (0 + k * 512) 512) (blank 512) ≡ true =
    ap (λ (ys : List ℕ). same ys (blank 512)) (sym (behind_front given.area.now given.bytes.now c.loop-k.area k _ 512
    c.loop-k.invariant.0 width)) ∙ sym c.all_blank.ensures ∙ c.if-not-all_blank.false in (
      ap (put_mid (k * 512) (k * 512 + 512 - k * 512) c.loop-k.area) c.overwrite.ensures
          ∙ front_more given.area.now given.bytes.now c.loop-k.area (k * 512) _ 512 c.loop-k.invariant.0 (omega arith)
          ∙ ap (λ (n : ℕ). put given.area.now 0 (part given.bytes.now 0 n)) more,
      c.loop-k.invariant.1 ∙ blanks_next 512 0 (c.min-blocks.result / 512) k given.area.now (omega arith) looked,
    )

pub returns-then-not-all_blank : goal.returns-then-not-all_blank
unfolding part
returns-then-not-all_blank c =
    let given = c.args in
    let k : ℕ = c.loop-k.k in
    let width : k * 512 + 512 - k * 512 ≡ 512 = omega arith in
    let looked : same (part given.area.now (0 + k * 512) 512) (blank 512) ≡ false =
    ap (λ (ys : List ℕ). same ys (blank 512)) (sym (behind_front given.area.now given.bytes.now c.loop-k.area k _ 512
    c.loop-k.invariant.0 width)) ∙ sym c.all_blank.ensures ∙ c.if-not-all_blank.true in record {
      value = sym (ap (λ (n : ℕ). blanks 512 0 (n / 512) given.area.now) (sym c.min-blocks.ensures) ∙ c.loop-k.invariant.1
          ∙ blanks_stop 512 0 (c.min-blocks.result / 512) k given.area.now (omega arith) looked);
      area_after = c.loop-k.invariant.0;
    }

pub returns : goal.returns
unfolding blanks
returns c =
    let given = c.args in
    let n : ℕ = c.min-blocks.result / 512 in
    let all : c.loop-k.k ≡ n = omega arith in
    let over : n - c.loop-k.k ≡ 0 = omega arith in record {
      value = sym (ap (λ (m : ℕ). blanks 512 0 (m / 512) given.area.now) (sym c.min-blocks.ensures) ∙ c.loop-k.invariant.1
          ∙ ap (λ (m : ℕ). c.loop-k.k + blanks 512 (0 + c.loop-k.k * 512) m given.area.now) over ∙ omega arith);
      area_after = c.loop-k.invariant.0 ∙ ap (λ (m : ℕ). put given.area.now 0 (part given.bytes.now 0 (m * 512))) all;
    }

pub slice_bounds-all_blank-end : goal.slice_bounds-all_blank-end
slice_bounds-all_blank-end c = omega (arith, simp length_put at (ap length c.loop-k.invariant.0))

pub shape_of-area-then-not-all_blank : goal.shape_of-area-then-not-all_blank
shape_of-area-then-not-all_blank c = simp length_put at (ap length c.loop-k.invariant.0)

pub shape_of-area : goal.shape_of-area
shape_of-area c = simp length_put at (ap length c.loop-k.invariant.0)
