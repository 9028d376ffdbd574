-- The message schedule as it stands in an array that is filled step by step.
use Rattle.std.specs.Prelude.{◌≡◌, ℕ, suc, ◌+◌, ◌-◌, ◌<◌, ◌≤◌, List, [], ◌∷◌, ◌++◌, length, take, slice_index, slice_index_or, slice_set, refl}
use Rattle.std.proofs.Common.{sym, ap, ◌∙◌, add-one, arith, length-set, get_or-take, take-suc-set, take_all}
use Rattle.fips.specs.Fips.{next, upto, schedule}

-- W_t stored at its place
unfoldable pub grown : List ℕ → ℕ → List ℕ
grown W t = slice_set W t (next W t)

-- four words stored one after the other, as the code stores them
pub four_grown : (W₀ : List ℕ) (t a b c d : ℕ) → a ≡ next W₀ t → b ≡ next (slice_set W₀ t a) (t + 1)
    → c ≡ next (slice_set (slice_set W₀ t a) (t + 1) b) (t + 2) → d ≡ next (slice_set (slice_set (slice_set W₀ t a) (t + 1) b) (t + 2) c) (t + 3)
    → slice_set (slice_set (slice_set (slice_set W₀ t a) (t + 1) b) (t + 2) c) (t + 3) d ≡ grown (grown (grown (grown W₀ t) (t + 1)) (t + 2)) (t + 3)
unfolding grown
four_grown W₀ t a b c d p q r s = cc

-- the array W began as W₀, and has its first t words
pub record Filling (W₀ W : List ℕ) (t : ℕ) : Type 0 where
  pub long : length W ≡ 64
  pub from : 16 ≤ t
  pub upto : t ≤ 64
  pub is : take t W ≡ schedule (take 16 W₀) (t - 16)

next_take : (W : List ℕ) (t : ℕ) → 16 ≤ t → next W t ≡ next (take t W) t
unfolding next
next_take W t h =
    let earlier : (i : ℕ) → i < t → slice_index (take t W) i ≡ slice_index_or W i 0 = λ i l. get_or-take t W i 0 l in
    rw (earlier (t - 2) (omega arith), earlier (t - 7) (omega arith), earlier (t - 15) (omega arith), earlier (t - 16) (omega arith))

pub filling_none : (W : List ℕ) → length W ≡ 64 → Filling W W 16
unfolding schedule
filling_none W l = record { long = l; from = omega arith; upto = omega arith; is = refl }

take_grown : (W : List ℕ) (t : ℕ) → 16 ≤ t → t < length W → take (t + 1) (grown W t) ≡ upto (take t W) t
unfolding grown upto
take_grown W t h l = rw add-one (take-suc-set W t (next W t) l ∙ ap (λ (x : ℕ). take t W ++ (x ∷ [])) (next_take W t h))

schedule_next : (block : List ℕ) (t : ℕ) → 16 ≤ t → upto (schedule block (t - 16)) t ≡ schedule block (t + 1 - 16)
unfolding schedule
schedule_next block t h =
    let e : t + 1 - 16 ≡ suc (t - 16) = omega arith in
    let f : t ≡ 16 + (t - 16) = omega arith in
    ap (upto (schedule block (t - 16))) f ∙ sym (ap (schedule block) e)

filling_next : {W₀ W : List ℕ} {t : ℕ} → Filling W₀ W t → t < 64 → (u : ℕ) → u ≡ t + 1 → Filling W₀ (grown W t) u
unfolding grown
filling_next {W₀} {W} {t} F h u e =
    rw e (record {
      long = simp length-set F.long;
      from = omega arith;
      upto = omega arith;
      is = take_grown W t F.from (omega arith) ∙ ap (λ (l : List ℕ). upto l t) F.is
          ∙ schedule_next (take 16 W₀) t F.from;
    })

-- the next word stored, as the code stores it
pub filling_store : {W₀ W : List ℕ} {t w : ℕ} → Filling W₀ W t → t < 64 → w ≡ next W t → Filling W₀ (slice_set W t w) (t + 1)
unfolding grown
filling_store F h e = rw e (filling_next F h _ refl)

pub filling_four : {W₀ W W' : List ℕ} {t : ℕ} → Filling W₀ W t → t + 4 ≤ 64
    → W' ≡ grown (grown (grown (grown W t) (t + 1)) (t + 2)) (t + 3) → Filling W₀ W' (t + 4)
filling_four {t = t} F h e =
    let F₁ = filling_next F (omega arith) (t + 1) refl in
    let F₂ = filling_next F₁ (omega arith) (t + 2) (omega arith) in
    let F₃ = filling_next F₂ (omega arith) (t + 3) (omega arith) in
    rw e (filling_next F₃ (omega arith) (t + 4) (omega arith))

pub filled : {W₀ W : List ℕ} {t : ℕ} → Filling W₀ W t → 64 ≤ t → W ≡ schedule (take 16 W₀) 48
filled {W₀} {W} {t} F h =
    let e : t ≡ 64 = omega arith in
    sym (take_all t W (omega arith)) ∙ F.is ∙ ap (λ (n : ℕ). schedule (take 16 W₀) (n - 16)) e
