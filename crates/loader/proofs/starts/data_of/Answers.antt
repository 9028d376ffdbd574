use Rattle.std.proofs.Common.{ap, arith, length, length-take, min, sym, take, take_all, ◌∙◌, ◌≡◌}
use Rattle.spans.specs.CutOff.{take_min}
use Rattle.flash.specs.declared.Bytes.{Bytes}
use Rattle.flash.specs.Geometry.{data_bytes}
use Rattle.loader.specs.PowerUp.{data_of}
use Rattle.loader.proofs.starts.data_of.Goals as goal

pub returns : goal.returns
unfolding data_of
returns c =
    let slot = c.args.slot.now in
    let n = (data_bytes c.args.fit.g).0 in
    let cut : c.min.result ≡ min n (length slot) = c.min.ensures ∙ ap (λ (b : Bytes). min b.0 (length slot)) c.data_bytes.ensures in
    rw cut (sym (take_min (length slot) n slot) ∙ take_all (length slot) (take n slot) (simp length-take (omega arith)))
