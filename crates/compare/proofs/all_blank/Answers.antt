use Rattle.std.proofs.Common.{arith, rules, eqb, false, bit_and, ◌≡◌, MatchOption}
use Rattle.std.specs.List.{fold}
use Rattle.compare.proofs.Found.{blank_seen}
use Rattle.compare.proofs.all_blank.Goals as goal

pub returns : goal.returns
returns c =
    let seen : MatchOption c.window.result (c.is_some_and.result ≡ false) (λ w. c.is_some_and.result ≡ eqb (fold bit_and 255 w.now) 255) = search rules in
    blank_seen c.args.area.now c.args.at c.args.size c.window.result _ (λ i. let byte = c.type_inv.area i in omega (arith, byte))
    c.window.ensures seen
