-- Laws of area, with_area and store.
use Rattle.std.specs.Prelude.{◌≡◌, refl, List, [], ◌++◌, true, ℕ, ◌+◌, ◌≤◌, length}
use Rattle.std.proofs.Common.{sym, ap, ◌∙◌, add-zero, arith}
use Rattle.std.proofs.lemmas.Bool.{false≢true}
use Rattle.spans.specs.Bytes.{put}
use Rattle.spans.specs.Laws.{put_over, put_join, put_nil, length_put}
use Rattle.flash.specs.Build.{Area, slot0, slot1, scratch, Flash, area, with_area, same_area}
use Rattle.flash.specs.Operations.{store}

pub same_area_lem : (a b : Area) → same_area a b ≡ true → a ≡ b
same_area_lem slot0 slot0 h = refl
same_area_lem slot0 slot1 h = absurd (false≢true h)
same_area_lem slot0 scratch h = absurd (false≢true h)
same_area_lem slot1 slot0 h = absurd (false≢true h)
same_area_lem slot1 slot1 h = refl
same_area_lem slot1 scratch h = absurd (false≢true h)
same_area_lem scratch slot0 h = absurd (false≢true h)
same_area_lem scratch slot1 h = absurd (false≢true h)
same_area_lem scratch scratch h = refl

-- What F shows of an area is as before, if it is so where that area is the one stored in.
pub unseen : {B : Type 0} (F : List ℕ → B) (a b : Area) (at : ℕ) (bs : List ℕ) (f : Flash)
    → (same_area a b ≡ true → F (put (area b f) at bs) ≡ F (area b f)) → F (area b (store a at bs f)) ≡ F (area b f)
unseen F slot0 slot0 at bs f h = h refl
unseen F slot0 slot1 at bs f h = refl
unseen F slot0 scratch at bs f h = refl
unseen F slot1 slot0 at bs f h = refl
unseen F slot1 slot1 at bs f h = h refl
unseen F slot1 scratch at bs f h = refl
unseen F scratch slot0 at bs f h = refl
unseen F scratch slot1 at bs f h = refl
unseen F scratch scratch at bs f h = h refl

-- no store changes the length of an area
pub length_store : (a b : Area) (at : ℕ) (bs : List ℕ) (f : Flash) → length (area b (store a at bs f)) ≡ length (area b f)
length_store a b at bs f = unseen length a b at bs f (λ e. length_put (area b f) at bs)

pub area_store : (a : Area) (at : ℕ) (bs : List ℕ) (f : Flash) → area a (store a at bs f) ≡ put (area a f) at bs
area_store slot0 at bs f = refl
area_store slot1 at bs f = refl
area_store scratch at bs f = refl

pub with_own : (a : Area) (f : Flash) → with_area a f (area a f) ≡ f
with_own slot0 f = refl
with_own slot1 f = refl
with_own scratch f = refl

-- two stores in one area are two puts
pub store_store : (a : Area) (at to : ℕ) (ys zs : List ℕ) (f : Flash)
    → store a to zs (store a at ys f) ≡ with_area a f (put (put (area a f) at ys) to zs)
store_store slot0 at to ys zs f = refl
store_store slot1 at to ys zs f = refl
store_store scratch at to ys zs f = refl

pub store_nil : (a : Area) (at : ℕ) (f : Flash) → store a at [] f ≡ f
store_nil a at f = ap (with_area a f) (put_nil (area a f) at) ∙ with_own a f

pub store_join : (a : Area) (at : ℕ) (ys zs : List ℕ) (f : Flash)
    → store a (at + length ys) zs (store a at ys f) ≡ store a at (ys ++ zs) f
store_join a at ys zs f = store_store a at (at + length ys) ys zs f ∙ ap (with_area a f) (put_join (area a f) at ys zs)

-- a store inside a place that is then stored whole
pub store_over : (a : Area) (at o : ℕ) (ys zs : List ℕ) (f : Flash) → o + length ys ≤ length zs
    → store a at zs (store a (at + o) ys f) ≡ store a at zs f
store_over a at o ys zs f h = store_store a (at + o) at ys zs f ∙ ap (with_area a f) (put_over (area a f) at o ys zs h)

pub store_again : (a : Area) (at : ℕ) (ys zs : List ℕ) (f : Flash) → length ys ≤ length zs
    → store a at zs (store a at ys f) ≡ store a at zs f
store_again a at ys zs f h =
    ap (λ (x : ℕ). store a at zs (store a x ys f)) (sym (add-zero at)) ∙ store_over a at 0 ys zs f (omega arith)
