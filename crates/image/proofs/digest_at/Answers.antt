use Rattle.std.specs.Prelude.{◌≡◌, List, ℕ, ◌-◌, take}
use Rattle.std.proofs.Common.{ap, ◌∙◌}
use Rattle.std.proofs.Math.Nat.{sub-zero}
use Rattle.fips.specs.Fips.{sha256}
use Rattle.image.specs.DigestLaws.{found_same, found_other}
use Rattle.image.proofs.digest_at.Goals as goal

-- the bytes from 0 to n are the first n
first : (xs : List ℕ) (n : ℕ) → sha256 (take (n - 0) xs) ≡ sha256 (take n xs)
first xs n = ap (λ (k : ℕ). sha256 (take k xs)) (sub-zero n)

pub returns-then-stands : goal.returns-then-stands
returns-then-stands c =
    let a = c.args in
    found_same a.image.now a.signed _ (c.digest.ensures ∙ first a.image.now a.signed.covered) _ c.stands.ensures
    c.if-stands.true

pub returns-else-stands : goal.returns-else-stands
returns-else-stands c =
    let a = c.args in
    found_other a.image.now a.signed _ (c.digest.ensures ∙ first a.image.now a.signed.covered) _ c.stands.ensures
    c.if-stands.false
