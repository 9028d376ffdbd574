-- Tables of worked values: each row has what a definition computes, and what the document says.
use Rattle.std.specs.Prelude.{◌≡◌, List, [], ◌∷◌, ◌++◌}

pub record Row : Type 1 where
  pub Value : Type 0
  pub computed : Value
  pub said : Value

abbrev pub row : {A : Type 0} → A → A → Row
row {A} x y = record { Value = A; computed = x; said = y }

-- the claim about a table
pub data Holds : List Row → Type 1 where
  no_more : Holds []
  and : {r : Row} {rs : List Row} → r.computed ≡ r.said → Holds rs → Holds (r ∷ rs)

-- tables one after the other
pub holds_append : {rs ts : List Row} → Holds rs → Holds ts → Holds (rs ++ ts)
holds_append no_more q = q
holds_append (and e p) q = and e (holds_append p q)
