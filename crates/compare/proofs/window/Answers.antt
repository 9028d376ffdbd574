use Rattle.std.proofs.Common.{refl}
use Rattle.compare.proofs.Found.{window_found}
use Rattle.compare.proofs.window.Goals as goal

pub returns : goal.returns
returns c =
    window_found c.args.area.now c.args.at c.args.size c.get.result _ c.unwrap_or.result c.get-2.result refl c.get.ensures.lookup
    c.unwrap_or.ensures c.get-2.ensures.lookup
