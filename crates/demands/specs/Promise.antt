-- What `loader::full_start` and `loader::power_up` promise, and that it determines the answer and all three areas.
use Rattle.std.specs.Prelude.{◌≡◌, refl, Bool, ℕ}
use Rattle.std.proofs.Common.{sym, ap, ◌∙◌}
use Rattle.flash.specs.declared.Geometry.{Geometry}
use Rattle.flash.specs.Build.{Flash}
use Rattle.answers.specs.declared.Answer.{Answer}
use Rattle.answers.specs.declared.Marked.{Marked}
use Rattle.loader.specs.PowerUp.{Result, result_of, full_start}
use Rattle.marking.specs.Marking.{MarkResult, mark_result}

-- the function was called with the areas f, and left the answer a and the areas f' (its `ensures`, word for word)
pub record Start (checked : Bool) (g : Geometry) (b : ℕ) (f : Flash) (a : Answer) (f' : Flash) : Type 0 where
  pub promised : result_of a f' ≡ full_start checked g b f

-- some answer meets it, whatever the function was called with
pub met : (checked : Bool) (g : Geometry) (b : ℕ) (f : Flash) → Start checked g b f (full_start checked g b f).answer (full_start checked g b f).flash
met checked g b f = record { promised = refl }

-- any two answers that the promise allows are equal, and so are the areas
pub one_answer : {checked : Bool} {g : Geometry} {b : ℕ} {f f₁ f₂ : Flash} {a₁ a₂ : Answer}
    → Start checked g b f a₁ f₁ → Start checked g b f a₂ f₂ → (a₁ ≡ a₂) × (f₁ ≡ f₂)
one_answer p q = (
  ap (λ (r : Result). r.answer) (p.promised ∙ sym q.promised),
  ap (λ (r : Result). r.flash) (p.promised ∙ sym
      q.promised),
)

-- the same of marking and confirming
pub record Marks (what : Geometry → Flash → MarkResult) (g : Geometry) (f : Flash) (a : Marked) (f' : Flash) : Type 0 where
  pub promised : mark_result a f' ≡ what g f

pub met_mark : (what : Geometry → Flash → MarkResult) (g : Geometry) (f : Flash) → Marks what g f (what g f).answer (what g f).flash
met_mark what g f = record { promised = refl }

pub one_mark : {what : Geometry → Flash → MarkResult} {g : Geometry} {f f₁ f₂ : Flash} {a₁ a₂ : Marked}
    → Marks what g f a₁ f₁ → Marks what g f a₂ f₂ → (a₁ ≡ a₂) × (f₁ ≡ f₂)
one_mark p q = (
  ap (λ (r : MarkResult). r.answer) (p.promised ∙ sym q.promised),
  ap (λ (r : MarkResult). r.flash) (p.promised ∙ sym
      q.promised),
)
