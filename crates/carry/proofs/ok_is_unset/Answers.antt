use Rattle.std.proofs.Common.{rules, ◌≡◌}
use Rattle.flash.specs.Base.{base, build}
use Rattle.trailer.specs.Trailer.{trailer, mark_of, is_unset, ok_at}
use Rattle.plan.specs.Decision.{ok_unset}
use Rattle.carry.proofs.ok_is_unset.Goals as goal

pub returns : goal.returns
unfolding ok_unset trailer base is_unset
returns c =
    let t = c.of_slot in
    let unset : c.eq.result ≡ is_unset (mark_of (build t.result.g) t.result.bytes.now (ok_at (build t.result.g))) = search rules in
    rw (unset, t.ensures.geometry, t.ensures.bytes)
