-- A turn, as the code makes it of T₁ and T₂.
use Rattle.std.specs.Prelude.{◌≡◌, ℕ}
use Rattle.std.proofs.Common.{ap, ap₂, ◌∙◌}
use Rattle.fips.specs.Fips.{Eight, ◌⊞◌, T₁, T₂, round}

pub round_of : (v : Eight) (k w t₁ t₂ a e : ℕ) → t₁ ≡ T₁ v k w → t₂ ≡ T₂ v → a ≡ t₁ ⊞ t₂ → e ≡ v.d ⊞ t₁
    → record { a = a; b = v.a; c = v.b; d = v.c; e = e; f = v.e; g = v.f; h = v.g } ≡ round v k w
unfolding round
round_of v k w t₁ t₂ a e p q r s =
    let new_a : a ≡ T₁ v k w ⊞ T₂ v = r ∙ ap₂ ◌⊞◌ p q in
    let new_e : e ≡ v.d ⊞ T₁ v k w = s ∙ ap (λ (t : ℕ). v.d ⊞ t) p in
    (λ i. record { a = new_a i; b = v.a; c = v.b; d = v.c; e = new_e i; f = v.e; g = v.f; h = v.g })
