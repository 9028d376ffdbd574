use Rattle.std.proofs.Common.{ap, ◌∙◌}
use Rattle.flash.specs.declared.Geometry.{Geometry}
use Rattle.plan.specs.Asked.{flash_of}
use Rattle.loader.specs.PowerUp.{full_start}
use Rattle.scale.specs.Boundary.{start_told}
use Rattle.scale.proofs.scale_full_start.Goals as goal

pub returns : goal.returns
returns c =
    let asked = ap (λ (g : Geometry). full_start c.args.checked g c.args.allowance (flash_of c.args.slot0.now c.args.slot1.now c.args.scratch.now)) c.geometry-g.ensures in
    start_told _ _ _ _ c.from.ensures (c.full_start.ensures ∙ asked)
