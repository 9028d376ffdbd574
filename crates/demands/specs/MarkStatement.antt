-- What the theorems about marking and confirming speak of: what is written, how they end, when they are allowed, and what comes next.
use Rattle.std.specs.Prelude.{◌≡◌, List, [], ◌∷◌, Bool, true, false, ◌||◌, ℕ, eqb, Ok, Err}
use Rattle.spans.specs.Bytes.{put}
use Rattle.spans.specs.Choice.{pick}
use Rattle.flash.specs.declared.Geometry.{Geometry}
use Rattle.flash.specs.Build.{Area, Build, Flash, valid}
use Rattle.flash.specs.Base.{build}
use Rattle.trailer.specs.Trailer.{magic_bytes, magic_at, ok_at, mark_bytes}
use Rattle.plan.specs.declared.Course.{Course}
use Rattle.plan.specs.declared.Course.TheVariants.{Damage, FromLineThree, Resume, Test, Permanent, Revert, Clear, Nothing}
use Rattle.plan.specs.Lists.{place_in}
use Rattle.plan.specs.Asked.{asked_by}
use Rattle.answers.specs.declared.Refusal.{Refusal}
use Rattle.answers.specs.declared.Marked.{Marked}
use Rattle.answers.specs.Numbers.{refusal_number}
use Rattle.marking.specs.Standing.{standing_of}

-- the bytes of an area with image ok 01 in its trailer, if there is to be one; and with magic
unfoldable pub ok_put : Build → Area → Bool → List ℕ → List ℕ
ok_put g a true xs = put xs (place_in g a (ok_at g)).0 (mark_bytes g 1)
ok_put g a false xs = xs

unfoldable pub magic_put : Build → Area → List ℕ → List ℕ
magic_put g a xs = put xs (place_in g a (magic_at g)).0 magic_bytes

-- a number is one of these
unfoldable pub one_of : List ℕ → ℕ → Bool
one_of [] n = false
one_of (x ∷ xs) n = eqb n x || one_of xs n

-- From the areas f: all is written, `count` operations, and the areas are `whole`; or the answer is a refusal with one of the `numbers`,
-- count 0, and the areas are as before.
pub data MarkEnds (numbers : List ℕ) (count : ℕ) (f whole : Flash) (a : Marked) (f' : Flash) : Type 0 where
  writes : a.ending ≡ Ok tt → a.count ≡ count → f' ≡ whole → MarkEnds numbers count f whole a f'
  refuses : (r : Refusal) → one_of numbers (refusal_number r) ≡ true → a.ending ≡ Err r → a.count ≡ 0 → f' ≡ f
      → MarkEnds numbers count f whole a f'

-- what document 01 asks before anything is written
pub record Allowed (g : Geometry) (f : Flash) (needs : Bool) : Type 0 where
  pub fits : valid (build g) f ≡ true
  pub free : standing_of (asked_by g f) ≡ Ok tt
  pub met : needs ≡ true

-- the course that a mark asks for
abbrev pub marked_for : Bool → Course
marked_for p = pick p Permanent Test

-- a decision as before, but that a revert is none
abbrev pub unreverted : Course → Course
unreverted Damage = Damage
unreverted (FromLineThree p) = FromLineThree p
unreverted (Resume c) = Resume c
unreverted Test = Test
unreverted Permanent = Permanent
unreverted Revert = Nothing
unreverted Clear = Clear
unreverted Nothing = Nothing
