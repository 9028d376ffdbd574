use Rattle.std.proofs.Common.{◌≡◌, sym, ◌+◌}
use Rattle.records.specs.Records.{step_at}
use Rattle.records.specs.RecordLaws.{rest_is}
use Rattle.records.specs.WalkLaws.{on_digest, on_other}
use Rattle.records.specs.declared.Step.TheVariants.{Record}
use Rattle.records.proofs.+walk.Goals.{then-kind-eq-DIGEST, else-kind-eq-DIGEST}
use Rattle.records.proofs.+walk.Goals as goal

pub returns-after-kind-eq-DIGEST : goal.returns-after-kind-eq-DIGEST
returns-after-kind-eq-DIGEST t c =
    let g = c.in-Record in
    let at = c.args.at in
    let met = c.args.digests.now in
    let xs = c.args.area.now.now in
    let rest = rest_is xs (g.start + g.size) in
    elim c.if-kind-eq-DIGEST.branch [
      | then-kind-eq-DIGEST b ↦
          let e : step_at xs 0 ≡ Record 1 g.start g.size = rw b.if-kind-eq-DIGEST.true at (sym g.ensures) in
          rw (on_digest xs _ at met.count met.place met.size g.start g.size rest e) (rw b.digests-is at c.walk.ensures)
      | else-kind-eq-DIGEST b ↦
          rw (on_other xs _ at met.count met.place met.size g.start g.size rest g.kind b.if-kind-eq-DIGEST.false (sym g.ensures))
          (rw b.digests-is at c.walk.ensures)
    ]
