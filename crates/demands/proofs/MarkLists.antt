-- The lists of marking and confirming, for any build: each unit that they write is erased where the marks are Unset that document 01 asks
-- for, and what they leave in their area.
use Rattle.std.specs.Prelude.{◌≡◌, refl, List, [], ◌∷◌, ◌++◌, Bool, ℕ}
use Rattle.std.proofs.Math.Path.{sym, ap}
use Rattle.std.proofs.Common.{◌∙◌}
use Rattle.std.proofs.Math.Bool.{true, false}
use Rattle.std.proofs.lemmas.Bool.{false≢true}
use Rattle.spans.specs.Bytes.{part, blank, same}
use Rattle.spans.specs.Choice.{pick}
use Rattle.spans.specs.Laws.{same_eq}
use Rattle.flash.specs.Build.{geometry, Area, Build, Flash, area, with_area, trailer_sector}
use Rattle.flash.specs.Operations.{Op, store, apply, run_all}
use Rattle.flash.specs.AreaLaws.{with_own, store_store}
use Rattle.trailer.specs.declared.Magic.{Magic}
use Rattle.trailer.specs.Trailer.{trailer, magic_at, ok_at, magic_bytes, magic_of, is_no_magic, mark_of, mark_bytes, is_unset, magic_units}
use Rattle.plan.specs.Lists.{place_in, trailer_unit, mark, ok_ops, magic_ops}
use Rattle.recovery.specs.All.{All, none, one, all_append}
use Rattle.recovery.specs.Windows.{Hidden, hidden_run}
use Rattle.recovery.specs.Places.{Geo, unit_back, magic_unit, magic_units_lem, ok_unit, writes_all}
use Rattle.recovery.specs.Reading.{unset_blank}
use Rattle.recovery.specs.Hiding.{wipe_trailer, hidden_ok, hidden_magic}
use Rattle.recovery.specs.Sectors.{sector_unwiped}
use Rattle.recovery.specs.Named.{Only, trailer_of}
use Rattle.recovery.specs.Begin.{trailer_ok}
use Rattle.recovery.proofs.Fresh.{Fresh, fresh_append, fresh_ok, fresh_magic, magic_behind_ok}
use Rattle.demands.specs.MarkStatement.{ok_put, magic_put}

-- magic that is read as Unset is erased
no_magic_blank : (g : Build) (t : List ℕ) → is_no_magic (magic_of g t) ≡ true → part t (magic_at g).0 16 ≡ blank 16
unfolding magic_of is_no_magic
no_magic_blank g t = go (same m magic_bytes) (same m (blank 16)) refl
  where
    m : List ℕ
    m = part t (magic_at g).0 16

    go : (a b : Bool) → same m (blank 16) ≡ b → is_no_magic (pick a Magic.Good (pick b Magic.Unset Magic.Bad)) ≡ true → m ≡ blank 16
    go true b e h = absurd (false≢true h)
    go false true e h = same_eq m (blank 16) e
    go false false e h = absurd (false≢true h)

module _ {g : Build} (geo : Geo g) (a : Area) (p : Bool) (f : Flash) where
  -- "It needs slot 1's image ok and magic Unset": then no unit that marking writes is one that is not erased
  pub fresh_marking : is_unset (mark_of g (trailer g a f) (ok_at g)) ≡ true → is_no_magic (magic_of g (trailer g a f)) ≡ true
      → Fresh g (ok_ops g a p ++ magic_ops g a) f
  fresh_marking u n =
      let e : part (trailer g a f) (magic_at g).0 16 ≡ blank 16 = no_magic_blank g (trailer g a f) n in
      fresh_append (ok_ops g a p) (magic_ops g a) (fresh_ok geo a p f (λ q. unset_blank g (trailer g a f) (ok_at g) u))
      (fresh_magic geo a (run_all g (ok_ops g a p) f) (rw (trailer_ok geo a p f) (magic_behind_ok geo p (trailer g a f) ∙ e)))

-- what is written into an area
module _ {g : Build} (geo : Geo g) (a : Area) where
  run_magic : (f : Flash) → run_all g (magic_ops g a) f ≡ store a (place_in g a (magic_at g)).0 magic_bytes f
  unfolding magic_ops magic_bytes
  run_magic f =
      writes_all g a (trailer_unit g a (magic_at g)) (magic_units (geometry g)).0 magic_bytes f (sym (magic_units_lem geo))
      ∙ ap (λ (x : ℕ). store a x magic_bytes f) (unit_back geo a (magic_at g) (magic_unit geo))

  mark_ok : (f : Flash) → apply g (mark g a (ok_at g) 1) f ≡ store a (place_in g a (ok_at g)).0 (mark_bytes g 1) f
  unfolding apply
  mark_ok f = ap (λ (x : ℕ). store a x (mark_bytes g 1) f) (unit_back geo a (ok_at g) (ok_unit geo))

  pub run_ok : (p : Bool) (f : Flash) → run_all g (ok_ops g a p) f ≡ with_area a f (ok_put g a p (area a f))
  unfolding ok_ops ok_put run_all
  run_ok true f = mark_ok f
  run_ok false f = sym (with_own a f)

  pub run_marking : (p : Bool) (f : Flash) → run_all g (ok_ops g a p ++ magic_ops g a) f ≡ with_area a f (magic_put g a (ok_put g a p (area a f)))
  unfolding ok_ops ok_put magic_put run_all
  run_marking true f =
      run_magic (apply g (mark g a (ok_at g) 1) f) ∙ ap (store a (place_in g a (magic_at g)).0 magic_bytes) (mark_ok f)
      ∙ store_store a (place_in g a (ok_at g)).0 (place_in g a (magic_at g)).0 (mark_bytes g 1) magic_bytes f
  run_marking false f = run_magic f

-- and what is not: sectors other than the area's trailer sector are as they were
module _ {g : Build} (geo : Geo g) (a : Area) (p : Bool) (f : Flash) where
  trailer_only : (ops : List Op) → All (Hidden g (wipe_trailer g a)) ops → Only g (trailer_of g a ∷ []) f (run_all g ops f)
  trailer_only ops hs b k (one e none) =
      sector_unwiped geo a b (trailer_sector g a) k (run_all g ops f) f e (hidden_run hs f)

  pub ok_only : Only g (trailer_of g a ∷ []) f (run_all g (ok_ops g a p) f)
  ok_only = trailer_only (ok_ops g a p) (hidden_ok geo a p)

  pub marks_only : Only g (trailer_of g a ∷ []) f (run_all g (ok_ops g a p ++ magic_ops g a) f)
  marks_only = trailer_only (ok_ops g a p ++ magic_ops g a) (all_append (hidden_ok geo a p) (hidden_magic geo a))
