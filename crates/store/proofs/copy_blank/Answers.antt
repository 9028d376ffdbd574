use Rattle.std.proofs.Common.{List, ap, arith, length, ℕ, ◌∙◌, ◌*◌, ◌+◌, ◌-◌, ◌≡◌, ◌≤◌}
use borrow.Rule.Slice.PartMut.{put_mid}
use Rattle.spans.specs.Bytes.{put, part}
use Rattle.spans.specs.Laws.{part_part}
use Rattle.spans.specs.Blanks.{part_length}
use Rattle.store.proofs.Parts.{part_there, put_there, blanks_there, few_there}
use Rattle.store.proofs.copy_blank.Goals as goal

pub returns : goal.returns
unfolding part
returns c =
    let given = c.args in
    let s : ℕ = c.there-span.result.start in
    let w : ℕ = c.there-span.result.end - s in
    let n : ℕ = c.copy_blank_blocks.result * 512 in
    let bytes : List ℕ = part given.src.now c.there.result.start (c.there.result.end - c.there.result.start) in
    let area : List ℕ = part given.dst.now s w in
    let taken : bytes ≡ part given.src.now given.from given.size = part_there given.src.now given.from given.size _ _
    c.there.ensures.start c.there.ensures.end in
    let lent : area ≡ part given.dst.now given.at (length bytes) = part_there given.dst.now given.at (length bytes) _ _
    c.there-span.ensures.start c.there-span.ensures.end in
    let few : n ≤ length bytes = few_there 512 bytes area _ c.copy_blank_blocks.ensures.value in
    let size : n ≤ given.size = omega (arith, few, ap length taken, part_length given.src.now given.from given.size) in
    let z : given.from + 0 ≡ given.from = omega arith in
    let copied : part bytes 0 n ≡ part given.src.now given.from n =
    ap (λ (r : List ℕ). part r 0 n) taken ∙ part_part given.src.now given.from given.size 0 n (omega arith)
    ∙ ap (λ (a : ℕ). part given.src.now a n) z in record {
      value = c.copy_blank_blocks.ensures.value
          ∙ blanks_there 512 given.src.now given.from given.dst.now given.at given.size bytes area taken lent;
      dst_after = ap (put_mid s w given.dst.now) (c.copy_blank_blocks.ensures.area_after ∙ ap (put area 0) copied)
          ∙ put_there given.dst.now given.at (length bytes) _ _ (part given.src.now given.from n) c.there-span.ensures.start
          c.there-span.ensures.end (omega (arith, few, part_length given.src.now given.from n));
    }
