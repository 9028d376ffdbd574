-- The result as it is written, word by word.
use Rattle.std.specs.Prelude.{◌≡◌, refl, List, [], ◌∷◌, ◌++◌, ℕ, ◌+◌, ◌*◌, ◌<◌, length, take, get_or}
use Rattle.std.proofs.Common.{sym, ap, ◌∙◌, arith, add-one, append_assoc, append-nil, length-append, length-take, take-suc}
use Rattle.spans.specs.Bytes.{put}
use Rattle.spans.specs.Laws.{put_all}
use Rattle.spans.specs.Runs.{put_on}
use Rattle.spans.specs.Words.{bytes_of}
use Rattle.spans.specs.WordLaws.{length_bytes_of}
use Rattle.fips.specs.Fips.{Eight, result}
use Rattle.fips.specs.Laws.{length_result}

abbrev pub four : ℕ → ℕ → ℕ → ℕ → List ℕ
four a b c d = bytes_of 4 a ++ bytes_of 4 b ++ bytes_of 4 c ++ bytes_of 4 d

pub put_words : (xs : List ℕ) (at a b c d : ℕ) (xs₁ xs₂ xs₃ xs₄ : List ℕ) → xs₁ ≡ put xs at (bytes_of 4 a)
    → xs₂ ≡ put xs₁ (at + 4) (bytes_of 4 b) → xs₃ ≡ put xs₂ (at + 8) (bytes_of 4 c) → xs₄ ≡ put xs₃ (at + 12) (bytes_of 4 d)
    → xs₄ ≡ put xs at (four a b c d)
unfolding bytes_of
put_words xs at a b c d xs₁ xs₂ xs₃ xs₄ e₁ e₂ e₃ e₄ =
    rw (
      e₄,
      e₃,
      e₂,
      e₁,
      put_on xs at (bytes_of 4 a) (bytes_of 4 b) (at + 4) refl,
      put_on xs at (bytes_of 4 a ++ bytes_of 4 b) (bytes_of 4 c) (at + 8) refl,
    )
    (put_on xs at (bytes_of 4 a ++ bytes_of 4 b ++ bytes_of 4 c) (bytes_of 4 d) (at + 12) refl)

-- two halves, written into an array of 32 bytes
pub put_result : (H : Eight) (xs xs₁ xs₂ : List ℕ) → length xs ≡ 32 → xs₁ ≡ put xs 0 (four H.a H.b H.c H.d)
    → xs₂ ≡ put xs₁ 16 (four H.e H.f H.g H.h) → xs₂ ≡ result H
unfolding result
put_result H xs xs₁ xs₂ l e₁ e₂ =
    let front = four H.a H.b H.c H.d in
    let at : 16 ≡ 0 + length front = simp (length-append, length_bytes_of) in
    e₂ ∙ ap (λ (ys : List ℕ). put ys 16 (four H.e H.f H.g H.h)) e₁
    ∙ put_on xs 0 front (four H.e H.f H.g H.h) 16 at ∙ ap (put xs 0) (simp append_assoc)
    ∙ put_all xs (result H) (l ∙ sym (length_result H))

-- words written one after the other
unfoldable pub written : List ℕ → List ℕ
written [] = []
written (w ∷ ws) = bytes_of 4 w ++ written ws

written_append : (us ws : List ℕ) → written (us ++ ws) ≡ written us ++ written ws
unfolding written
written_append [] ws = refl
written_append (u ∷ us) ws = ap (λ (r : List ℕ). bytes_of 4 u ++ r) (written_append us ws) ∙ sym (append_assoc (bytes_of 4 u) (written us) (written ws))

length_written : (ws : List ℕ) → length (written ws) ≡ 4 * length ws
unfolding written
length_written [] = refl
length_written (w ∷ ws) =
    let e = length_written ws in
    simp (length-append, length_bytes_of) (omega arith)

-- one more word
pub write_next : (xs ws : List ℕ) (i : ℕ) (ys zs : List ℕ) → i < length ws → ys ≡ put xs 0 (written (take i ws))
    → zs ≡ put ys (4 * i) (bytes_of 4 (get_or ws i 0)) → zs ≡ put xs 0 (written (take (i + 1) ws))
unfolding written
write_next xs ws i ys zs h e f =
    let w : ℕ = get_or ws i 0 in
    let front : List ℕ = written (take i ws) in
    let long : length (take i ws) ≡ i = simp length-take (omega arith) in
    let at : 4 * i ≡ 0 + length front = omega (arith, length_written (take i ws)) in
    let more : take (i + 1) ws ≡ take i ws ++ (w ∷ []) = rw add-one (take-suc ws i 0 h) in
    let both : written (take (i + 1) ws) ≡ front ++ bytes_of 4 w =
    ap written more ∙ written_append (take i ws) (w ∷ []) ∙ ap (λ (r : List ℕ). front ++ r) (append-nil (bytes_of 4 w)) in
    f ∙ ap (λ (r : List ℕ). put r (4 * i) (bytes_of 4 w)) e ∙ put_on xs 0 front (bytes_of 4 w) (4 * i) at ∙ ap (put xs 0) (sym both)

-- all eight
pub written_result : (H : Eight) (xs : List ℕ) → length xs ≡ 32
    → put xs 0 (written (H.a ∷ H.b ∷ H.c ∷ H.d ∷ H.e ∷ H.f ∷ H.g ∷ H.h ∷ [])) ≡ result H
unfolding written result
written_result H xs l =
    ap (put xs 0) (simp (append-nil, append_assoc)) ∙ put_all xs (result H) (l ∙ sym (length_result H))
