use Rattle.std.proofs.Common.{ap, ◌∙◌}
use Rattle.flash.specs.declared.Geometry.{Geometry}
use Rattle.plan.specs.Asked.{flash_of}
use Rattle.marking.specs.Marking.{marking}
use Rattle.scale.specs.Boundary.{mark_told}
use Rattle.scale.proofs.scale_mark.Goals as goal

pub returns : goal.returns
returns c =
    let asked = ap (λ (g : Geometry). marking c.args.permanent g (flash_of c.args.slot0.now c.args.slot1.now c.args.scratch.now)) c.geometry-g.ensures in
    mark_told _ _ _ _ c.from.ensures (c.mark.ensures ∙ asked)
