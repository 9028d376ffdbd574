use Rattle.std.proofs.Common.{arith, false, true, rules, sym, ℕ, ◌-◌, ◌∙◌, ◌≡◌}
use Rattle.flash.specs.Geometry.{unit_count, further}
use Rattle.flash.specs.Operations.{erased}
use Rattle.operations.specs.UnitLaws.{blank_run_next, blank_run_none, blank_run_stop}
use Rattle.operations.proofs.count_blank.Goals as goal

pub loop-k-preserved : goal.loop-k-preserved
loop-k-preserved c =
    let given = c.args in
    let k : ℕ = c.loop-k.k in
    let e : erased given.g (further given.u (unit_count k)) given.area.now ≡ true = search rules in
    c.loop-k.invariant ∙ blank_run_next given.g given.u given.n.0 k given.area.now (omega arith) e

pub returns-then-not-is_erased : goal.returns-then-not-is_erased
returns-then-not-is_erased c =
    let given = c.args in
    let k : ℕ = c.loop-k.k in
    let e : erased given.g (further given.u (unit_count k)) given.area.now ≡ false = search rules in
    sym (c.loop-k.invariant ∙ blank_run_stop given.g given.u given.n.0 k given.area.now (omega arith) e)

pub returns : goal.returns
returns c =
    let given = c.args in
    let k : ℕ = c.loop-k.k in
    let z : given.n.0 - k ≡ 0 = omega arith in
    let none = blank_run_none given.g (further given.u (unit_count k)) given.area.now in
    sym (c.loop-k.invariant ∙ rw (z, none) (omega arith))
