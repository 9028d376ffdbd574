use Rattle.std.proofs.Common.{rules, eqb, false, bit_or, ℕ, ◌≡◌, MatchOption}
use Rattle.std.specs.Int.Bits.{bit_xor}
use Rattle.std.specs.List.{fold, zip}
use Rattle.compare.proofs.Found.{same_seen, bits_seen}
use Rattle.compare.proofs.stands.Goals as goal

pub returns : goal.returns
returns c =
    let seen : MatchOption c.window.result (c.is_some_and.result ≡ false) (λ w.
    c.is_some_and.result ≡ eqb (fold (λ (d : ℕ) (p : ℕ × ℕ). bit_or d (bit_xor p.0 p.1)) 0 (zip w.now c.args.want.now)) 0) = search rules in
    let equal = bits_seen _ _ c.args.want.now c.window.result _ c.window.ensures seen in
    same_seen c.args.area.now c.args.at c.args.want.now c.window.result _ c.window.ensures equal
