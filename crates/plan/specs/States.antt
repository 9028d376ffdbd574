-- Document 01, C: "the states of document 003, first match wins". Each state has exactly its columns. (I and II from their columns:
-- `state_i` and `state_ii` of AskedBefore.)
use Rattle.std.specs.Prelude.{◌≡◌, List, Bool, ◌&&◌, ℕ}
use Rattle.std.proofs.Math.Path.{refl}
use Rattle.std.proofs.Common.{ap, eqb-true}
use Rattle.std.proofs.Math.Bool.{true, false}
use Rattle.std.proofs.lemmas.Bool.{false≢true}
use Rattle.spans.specs.Choice.{pick, both}
use Rattle.flash.specs.Build.{Build}
use Rattle.trailer.specs.declared.Magic.{Magic}
use Rattle.trailer.specs.declared.Mark.{Mark}
use Rattle.trailer.specs.Trailer.{ok_at, copy_done_at, magic_of, mark_of, is_good, is_no_magic, is_unset, has_value}
use Rattle.plan.specs.declared.Course.{Course}
use Rattle.plan.specs.declared.Course.TheVariants.{Test, Permanent, Revert, Nothing}
use Rattle.plan.specs.Decision.{state_c}
use Rattle.plan.specs.DecisionLaws.{test_due, permanent_due, revert_due}

-- ---- the columns, by the trailer sectors of slot 0 and slot 1

-- I: "any | magic Good, image ok Unset"
pub record ColumnsI (g : Build) (t1 : List ℕ) : Type 0 where
  pub magic_1 : magic_of g t1 ≡ Magic.Good
  pub ok_1 : mark_of g t1 (ok_at g) ≡ Mark.Unset

-- II: "any | magic Good, image ok 01"
pub record ColumnsII (g : Build) (t1 : List ℕ) : Type 0 where
  pub magic_1 : magic_of g t1 ≡ Magic.Good
  pub ok_1 : mark_of g t1 (ok_at g) ≡ Mark.Value 1

-- III: "magic Good, image ok Unset, copy done 01 | magic Unset"
pub record ColumnsIII (g : Build) (t0 t1 : List ℕ) : Type 0 where
  pub magic_0 : magic_of g t0 ≡ Magic.Good
  pub ok_0 : mark_of g t0 (ok_at g) ≡ Mark.Unset
  pub done_0 : mark_of g t0 (copy_done_at g) ≡ Mark.Value 1
  pub magic_1 : magic_of g t1 ≡ Magic.Unset

-- ---- what the tests tell

good : (m : Magic) → is_good m ≡ true → m ≡ Magic.Good
unfolding is_good
good Magic.Good e = refl
good Magic.Unset e = absurd (false≢true e)
good Magic.Bad e = absurd (false≢true e)

no_magic : (m : Magic) → is_no_magic m ≡ true → m ≡ Magic.Unset
unfolding is_no_magic
no_magic Magic.Good e = absurd (false≢true e)
no_magic Magic.Unset e = refl
no_magic Magic.Bad e = absurd (false≢true e)

unset : (m : Mark) → is_unset m ≡ true → m ≡ Mark.Unset
unfolding is_unset
unset Mark.Unset e = refl
unset (Mark.Value v) e = absurd (false≢true e)
unset Mark.Bad e = absurd (false≢true e)

value : (x : ℕ) (m : Mark) → has_value x m ≡ true → m ≡ Mark.Value x
unfolding has_value
value x Mark.Unset e = absurd (false≢true e)
value x (Mark.Value v) e = ap Mark.Value (eqb-true v x e)
value x Mark.Bad e = absurd (false≢true e)

-- the first of three tests that holds chooses
abbrev chosen : Bool → Bool → Bool → Course
chosen a b c = pick a Test (pick b Permanent (pick c Revert Nothing))

module _ (g : Build) (t0 t1 : List ℕ) where
  columns_i : test_due g t1 ≡ true → ColumnsI g t1
  columns_i h =
      let p = both (is_good (magic_of g t1)) (is_unset (mark_of g t1 (ok_at g))) h in
      record { magic_1 = good (magic_of g t1) p.0; ok_1 = unset (mark_of g t1 (ok_at g)) p.1 }

  columns_ii : permanent_due g t1 ≡ true → ColumnsII g t1
  columns_ii h =
      let p = both (is_good (magic_of g t1)) (has_value 1 (mark_of g t1 (ok_at g))) h in
      record { magic_1 = good (magic_of g t1) p.0; ok_1 = value 1 (mark_of g t1 (ok_at g)) p.1 }

  columns_iii : revert_due g t0 t1 ≡ true → ColumnsIII g t0 t1
  columns_iii h =
      let ok = is_unset (mark_of g t0 (ok_at g)) in
      let done = has_value 1 (mark_of g t0 (copy_done_at g)) in
      let none = is_no_magic (magic_of g t1) in
      let p = both (is_good (magic_of g t0)) (ok && (done && none)) h in
      let q = both ok (done && none) p.1 in
      let r = both done none q.1 in
      record {
        magic_0 = good (magic_of g t0) p.0;
        ok_0 = unset (mark_of g t0 (ok_at g)) q.0;
        done_0 = value 1 (mark_of g t0 (copy_done_at g)) r.0;
        magic_1 = no_magic (magic_of g t1) r.1;
      }

  -- ---- the states

  -- III, from its columns: they shut I and II out
  pub state_iii : ColumnsIII g t0 t1 → state_c g t0 t1 ≡ Revert
  unfolding state_c is_good is_unset has_value is_no_magic
  state_iii c = rw (c.magic_0, c.ok_0, c.done_0, c.magic_1)

  -- "IV | all else"
  pub state_iv : (ColumnsI g t1 → ⊥) → (ColumnsII g t1 → ⊥) → (ColumnsIII g t0 t1 → ⊥) → state_c g t0 t1 ≡ Nothing
  unfolding state_c
  state_iv not_i not_ii not_iii =
      go (test_due g t1) (permanent_due g t1) (revert_due g t0 t1) (λ e. not_i (columns_i e)) (λ e. not_ii (columns_ii e))
      (λ e. not_iii (columns_iii e))
    where
      go : (a b c : Bool) → (a ≡ true → ⊥) → (b ≡ true → ⊥) → (c ≡ true → ⊥) → chosen a b c ≡ Nothing
      go true b c p q r = absurd (p refl)
      go false true c p q r = absurd (q refl)
      go false false true p q r = absurd (r refl)
      go false false false p q r = refl

  -- and a state is found only where its columns stand
  pub only_i : state_c g t0 t1 ≡ Test → ColumnsI g t1
  unfolding state_c
  only_i e = columns_i (go (test_due g t1) (permanent_due g t1) (revert_due g t0 t1) e)
    where
      go : (a b c : Bool) → chosen a b c ≡ Test → a ≡ true
      go true b c e = refl
      go false true c e = cc
      go false false true e = cc
      go false false false e = cc

  pub only_ii : state_c g t0 t1 ≡ Permanent → ColumnsII g t1
  unfolding state_c
  only_ii e = columns_ii (go (test_due g t1) (permanent_due g t1) (revert_due g t0 t1) e)
    where
      go : (a b c : Bool) → chosen a b c ≡ Permanent → b ≡ true
      go true true c e = refl
      go true false c e = cc
      go false true c e = refl
      go false false true e = cc
      go false false false e = cc

  pub only_iii : state_c g t0 t1 ≡ Revert → ColumnsIII g t0 t1
  unfolding state_c
  only_iii e = columns_iii (go (test_due g t1) (permanent_due g t1) (revert_due g t0 t1) e)
    where
      go : (a b c : Bool) → chosen a b c ≡ Revert → c ≡ true
      go true b true e = refl
      go true b false e = cc
      go false true true e = refl
      go false true false e = cc
      go false false true e = refl
      go false false false e = cc
