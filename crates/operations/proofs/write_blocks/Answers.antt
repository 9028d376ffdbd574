use Rattle.std.proofs.Common.{ap, arith, ◌*◌, ◌∙◌}
use Rattle.spans.specs.Bytes.{part, put}
use Rattle.flash.specs.declared.Offset.{Offset}
use Rattle.operations.specs.FrontLaws.{front_of}
use Rattle.operations.proofs.write_blocks.Goals as goal

pub overflow_mul-result : goal.overflow_mul-result
overflow_mul-result c =
    let given = c.args in
    let front = front_of given.g c.requires.small given.to given.reached given.src.now given.from.0 given.dst.now _ _ _ c.place_of.ensures
    c.bytes_in.ensures c.copy_blank-blocks.ensures.value in
    omega (arith, front.1)

pub returns : goal.returns
returns c =
    let given = c.args in
    let copied = c.copy_blank-blocks in
    let front = front_of given.g c.requires.small given.to given.reached given.src.now given.from.0 given.dst.now _ _ _ c.place_of.ensures
    c.bytes_in.ensures copied.ensures.value in
    record {
      result_value = front.0;
      result_in_bounds = front.1;
      dst_after = copied.ensures.dst_after ∙ ap (λ (o : Offset). put given.dst.now o.0
          (part given.src.now given.from.0 (copied.result * 512))) c.place_of.ensures;
    }
