-- Lists all of whose elements have a property.
use Rattle.std.specs.Prelude.{◌≡◌, refl, List, [], ◌∷◌, ◌++◌, Bool, true, false, ℕ, zero, suc, drop}
use Rattle.std.proofs.lemmas.Bool.{false≢true}
use Rattle.spans.specs.Choice.{every}

pub data All {A : Type 0} (P : A → Type 0) : List A → Type 0 where
  none : All P []
  one : {x : A} {xs : List A} → P x → All P xs → All P (x ∷ xs)

pub one_less : {A : Type 0} {x : A} {xs : List A} {P : A → Type 0} → All P (x ∷ xs) → P x × All P xs
one_less (one p ps) = (p, ps)

pub all_append : {A : Type 0} {P : A → Type 0} {xs ys : List A} → All P xs → All P ys → All P (xs ++ ys)
all_append none q = q
all_append (one h p) q = one h (all_append p q)

pub all_map : {A : Type 0} {P Q : A → Type 0} {xs : List A} → ((x : A) → P x → Q x) → All P xs → All Q xs
all_map h none = none
all_map h (one {x = x} p ps) = one (h x p) (all_map h ps)

pub all_drop : {A : Type 0} {P : A → Type 0} {xs : List A} (k : ℕ) → All P xs → All P (drop k xs)
all_drop zero ps = ps
all_drop (suc k) none = none
all_drop (suc k) (one p ps) = all_drop k ps

pub every_all : (bs : List Bool) → every bs ≡ true → All (λ (b : Bool). b ≡ true) bs
unfolding every
every_all [] h = none
every_all (true ∷ bs) h = one refl (every_all bs h)
every_all (false ∷ bs) h = absurd (false≢true h)
