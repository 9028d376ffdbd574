-- Lists of operations one after the other, carried out and cut.
use Rattle.std.specs.Prelude.{◌≡◌, refl, ◌⊎◌, ℕ, zero, suc, ◌-◌, ◌≤◌, ◌<◌, length, drop}
use Rattle.std.proofs.Common.{ap, subst, ◌∙◌, arith}
use Rattle.std.proofs.Math.Logic.{inl, inr}
use mathlib.Core.List.{List, [], ◌∷◌, ◌++◌}
use Rattle.flash.specs.Build.{Build, Flash}
use Rattle.flash.specs.Operations.{Op, apply, run, run_all}
use Rattle.flash.specs.Harm.{Torn, as_before, Cut, here, later}

pub run_all_append : (g : Build) (xs ys : List Op) (f : Flash) → run_all g (xs ++ ys) f ≡ run_all g ys (run_all g xs f)
unfolding run_all
run_all_append g [] ys f = refl
run_all_append g (x ∷ xs) ys f = run_all_append g xs ys (apply g x f)

-- an allowance that is enough
pub run_all_lem : (g : Build) (b : ℕ) (ops : List Op) (f : Flash) → length ops ≤ b → run g b ops f ≡ run_all g ops f
unfolding run run_all
run_all_lem g zero [] f h = refl
run_all_lem g zero (op ∷ ops) f h = absurd (omega arith)
run_all_lem g (suc b) [] f h = refl
run_all_lem g (suc b) (op ∷ ops) f h = run_all_lem g b ops (apply g op f) (omega arith)

-- ---- a cut in other words: some operations done, and the next one torn

pub record CutAt (g : Build) (ops : List Op) (f f' : Flash) : Type 0 where
  pub count : ℕ
  pub next : Op
  pub rest : List Op
  pub there : drop count ops ≡ next ∷ rest
  pub torn : Torn g next (run g count ops f) f'

pub cut_at : {g : Build} {ops : List Op} {f f' : Flash} → Cut g ops f f' → CutAt g ops f f'
unfolding run
cut_at (here {op} {ops} t) = record { count = 0; next = op; rest = ops; there = refl; torn = t }
cut_at (later c) =
    let k = cut_at c in record { count = suc k.count; next = k.next; rest = k.rest; there = k.there; torn = k.torn }

pub at_cut : {g : Build} {ops : List Op} {f f' : Flash} → CutAt g ops f f' → Cut g ops f f'
unfolding run
at_cut {g} {ops} {f} {f'} k = go k.count ops f k.there k.torn
  where
    go : (n : ℕ) (ops : List Op) (f : Flash) → drop n ops ≡ k.next ∷ k.rest → Torn g k.next (run g n ops f) f'
        → Cut g ops f f'
    go zero [] f e t = absurd (let z : ◌≡◌ {A = ℕ} 0 1 = cc in omega arith)
    go (suc n) [] f e t = absurd (let z : ◌≡◌ {A = ℕ} 0 1 = cc in omega arith)
    go zero (op ∷ ops) f e t = let q : k.next ≡ op = cc in here (subst (λ (o : Op). Torn g o f f') q t)
    go (suc n) (op ∷ ops) f e t = later (go n ops (apply g op f) e t)

-- a list that is stopped by its allowance is a cut without harm
pub stopped_cut : (g : Build) (b : ℕ) (ops : List Op) (f : Flash) → b < length ops → Cut g ops f (run g b ops f)
unfolding run
stopped_cut g b [] f h = absurd (omega arith)
stopped_cut g zero (op ∷ ops) f h = here (as_before refl)
stopped_cut g (suc b) (op ∷ ops) f h = later (stopped_cut g b ops (apply g op f) (omega arith))

-- ---- a cut in two lists in a row

module _ {g : Build} where
  pub cut_append : (xs ys : List Op) {f f' : Flash} → Cut g (xs ++ ys) f f' → Cut g xs f f' ⊎ Cut g ys (run_all g xs f) f'
  unfolding run_all
  cut_append [] ys c = inr c
  cut_append (x ∷ xs) ys (here t) = inl (here t)
  cut_append (x ∷ xs) ys (later c) = go (cut_append xs ys c)
    where
      go : {f f' : Flash} → Cut g xs (apply g x f) f' ⊎ Cut g ys (run_all g xs (apply g x f)) f'
          → Cut g (x ∷ xs) f f' ⊎ Cut g ys (run_all g (x ∷ xs) f) f'
      go (inl c) = inl (later c)
      go (inr c) = inr c

  nothing_to_cut : {ops : List Op} {f f' : Flash} → Cut g ops f f' → ops ≡ [] → ⊥
  nothing_to_cut (here t) e = let z : ◌≡◌ {A = ℕ} 0 1 = cc in omega arith
  nothing_to_cut (later c) e = let z : ◌≡◌ {A = ℕ} 0 1 = cc in omega arith

  pub cut_nil : {f f' : Flash} → Cut g [] f f' → ⊥
  cut_nil c = nothing_to_cut c refl

-- the first operations of two lists in a row, where the allowance reaches past the first list
pub run_past : (g : Build) (b : ℕ) (xs ys : List Op) (f : Flash) → length xs ≤ b
    → run g b (xs ++ ys) f ≡ run g (b - length xs) ys (run_all g xs f)
unfolding run run_all
run_past g b [] ys f h = let e : b ≡ b - 0 = omega arith in ap (λ (k : ℕ). run g k ys f) e
run_past g zero (x ∷ xs) ys f h = absurd (omega arith)
run_past g (suc b) (x ∷ xs) ys f h =
    let e : b - length xs ≡ suc b - suc (length xs) = omega arith in
    run_past g b xs ys (apply g x f) (omega arith) ∙ ap (λ (k : ℕ). run g k ys (run_all g xs (apply g x f))) e

-- and where it ends within the first list
pub run_within : (g : Build) (b : ℕ) (xs ys : List Op) (f : Flash) → b ≤ length xs → run g b (xs ++ ys) f ≡ run g b xs f
unfolding run
run_within g zero xs ys f h = refl
run_within g (suc b) [] ys f h = absurd (omega arith)
run_within g (suc b) (x ∷ xs) ys f h = run_within g b xs ys (apply g x f) (omega arith)
