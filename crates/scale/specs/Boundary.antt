-- Document 01, "The flash", as the C boundary is given it, and what its functions come to: this paper's numbers, and the areas.
use Rattle.std.specs.Prelude.{◌≡◌, ℕ}
use Rattle.std.proofs.Common.{sym, ap, ◌∙◌}
use Rattle.flash.specs.declared.Geometry.{Geometry}
use Rattle.flash.specs.Build.{Flash}
use Rattle.answers.specs.declared.numbers.Numbers.{Numbers}
use Rattle.answers.specs.declared.numbers.MarkNumbers.{MarkNumbers}
use Rattle.answers.specs.Numbers.{answer_numbers, marked_numbers}
use Rattle.answers.specs.declared.Answer.{Answer}
use Rattle.answers.specs.declared.Marked.{Marked}
use Rattle.loader.specs.PowerUp.{Result, result_of}
use Rattle.marking.specs.Marking.{MarkResult, mark_result}

-- "a write unit of w bytes", "a sector of s bytes", "n sectors per slot"
abbrev pub geometry_of : ℕ → ℕ → ℕ → Geometry
geometry_of w s n = record { unit = w; sector = s; sectors = n }

-- what a call comes to: the numbers that it answers, and what the areas then hold
pub record Numbered (N : Type 0) : Type 0 where
  pub numbers : N
  pub flash : Flash

abbrev pub numbered : {N : Type 0} → N → Flash → Numbered N
numbered n f = record { numbers = n; flash = f }

-- "a definition gives this paper's number and values for each of its cases. The promises use that definition."
abbrev pub start_numbered : Result → Numbered Numbers
start_numbered r = numbered (answer_numbers r.answer) r.flash

abbrev pub mark_numbered : MarkResult → Numbered MarkNumbers
mark_numbered r = numbered (marked_numbers r.answer) r.flash

-- "for any pair of answers allowed by it, equality is proved": whatever a promise has a call come to, any two pairs of numbers and areas
-- that it allows are equal
pub one_numbered : {N : Type 0} {promised : Numbered N} {n₁ n₂ : N} {f₁ f₂ : Flash}
    → numbered n₁ f₁ ≡ promised → numbered n₂ f₂ ≡ promised → (n₁ ≡ n₂) × (f₁ ≡ f₂)
one_numbered {N} p q = (ap (λ (x : Numbered N). x.numbers) (p ∙ sym q), ap (λ (x : Numbered N). x.flash) (p ∙ sym q))

-- ---- laws for the code: the answer in numbers, beside the areas that it left

pub start_told : (a : Answer) (n : Numbers) (f : Flash) (r : Result) → n ≡ answer_numbers a → result_of a f ≡ r → numbered n f ≡ start_numbered r
start_told a n f r told left = cc

pub mark_told : (a : Marked) (n : MarkNumbers) (f : Flash) (r : MarkResult) → n ≡ marked_numbers a → mark_result a f ≡ r
    → numbered n f ≡ mark_numbered r
mark_told a n f r told left = cc
