-- Windows: what an operation, done or torn, does not show. A list of operations that a window hides can be cut anywhere, unseen.
use Rattle.std.specs.Prelude.{◌≡◌, List, [], ◌∷◌, ℕ, ◌+◌, ◌≤◌}
use Rattle.std.proofs.Math.Path.{refl, ap}
use Rattle.std.proofs.Common.{◌∙◌, arith}
use Rattle.std.proofs.Math.ListN.{length, length-take}
use Rattle.spans.specs.Bytes.{part, blank}
use Rattle.spans.specs.Laws.{length_blank}
use Rattle.flash.specs.Geometry.{start_of, place_of}
use Rattle.flash.specs.declared.Sector.{Sector}
use Rattle.flash.specs.declared.Unit.{Unit}
use Rattle.flash.specs.Build.{Area, Build, Flash, area, geometry}
use Rattle.flash.specs.Operations.{Op, erase, write, copy, store, unit_of, apply, run_all}
use Rattle.flash.specs.Harm.{Torn, as_before, half_erased, half_written, half_copied, Cut, here, later}
use Rattle.flash.specs.AreaLaws.{length_store, store_over}
use Rattle.recovery.specs.All.{All, none, one}

-- through the window W the operation leaves no trace, done or torn
pub record Hidden (g : Build) {A : Type 0} (W : Flash → A) (op : Op) : Type 0 where
  pub done : (f : Flash) → W (apply g op f) ≡ W f
  pub torn : (f f' : Flash) → Torn g op f f' → W f' ≡ W f

module _ {g : Build} {A : Type 0} {W : Flash → A} where
  pub hidden_run : {ops : List Op} → All (Hidden g W) ops → (f : Flash) → W (run_all g ops f) ≡ W f
  unfolding run_all
  hidden_run none f = refl
  hidden_run (one {x = op} h hs) f = hidden_run hs (apply g op f) ∙ h.done f

  pub hidden_cut : {ops : List Op} → All (Hidden g W) ops → {f f' : Flash} → Cut g ops f f' → W f' ≡ W f
  hidden_cut none x = elim x [ ]
  hidden_cut (one h hs) {f} {f'} (here t) = h.torn f f' t
  hidden_cut (one h hs) {f} (later c) = hidden_cut hs c ∙ h.done f

-- a window behind a window hides what that one hides
pub hidden_behind : {g : Build} {A : Type 0} {W : Flash → Flash} {op : Op} (U : Flash → A)
    → Hidden g W op → Hidden g (λ f. U (W f)) op
hidden_behind U h = record { done = λ f. ap U (h.done f); torn = λ f f' t. ap U (h.torn f f' t) }

-- ---- the window that shows the length of an area hides everything

module _ (g : Build) (b : Area) where
  hidden_length : (op : Op) → Hidden g (λ f. length (area b f)) op
  unfolding apply
  hidden_length op = record { done = done op; torn = torn op }
    where
      done : (op : Op) (f : Flash) → length (area b (apply g op f)) ≡ length (area b f)
      done (erase a i) f = length_store a b (start_of (geometry g) i).0 (blank g.sector) f
      done (write a u bs) f = length_store a b (place_of (geometry g) u).0 bs f
      done (copy c v a u) f = length_store a b (place_of (geometry g) u).0 (unit_of g c v f) f

      torn : (op : Op) (f f' : Flash) → Torn g op f f' → length (area b f') ≡ length (area b f)
      torn op f f' (as_before e) = ap (λ x. length (area b x)) e
      torn op f f' (half_erased {a} {i} bs q l e) = ap (λ x. length (area b x)) e ∙ length_store a b (start_of (geometry g) i).0 bs f
      torn op f f' (half_written {a} {u} bs q l e) = ap (λ x. length (area b x)) e ∙ length_store a b (place_of (geometry g) u).0 bs f
      torn op f f' (half_copied {a = a} {u = u} bs q l e) = ap (λ x. length (area b x)) e ∙ length_store a b (place_of (geometry g) u).0 bs f

  pub all_lengths : (ops : List Op) → All (Hidden g (λ f. length (area b f))) ops
  all_lengths [] = none
  all_lengths (op ∷ ops) = one (hidden_length op) (all_lengths ops)

-- ---- the window that wipes a sector

abbrev pub wipe : Build → Area → Sector → Flash → Flash
wipe g a i f = store a (start_of (geometry g) i).0 (blank g.sector) f

-- it hides what is stored in the sector
wipe_store : (g : Build) (a : Area) (i : Sector) (o at : ℕ) (bs : List ℕ) (f : Flash)
    → at ≡ (start_of (geometry g) i).0 + o → o + length bs ≤ g.sector → wipe g a i (store a at bs f) ≡ wipe g a i f
wipe_store g a i o at bs f e h =
    ap (λ (x : ℕ). wipe g a i (store a x bs f)) e
    ∙ store_over a (start_of (geometry g) i).0 o bs (blank g.sector) f (rw length_blank h)

pub hidden_erase : (g : Build) (a : Area) (i : Sector) → Hidden g (wipe g a i) (erase a i)
unfolding apply
hidden_erase g a i = record { done = λ f. within f (blank g.sector) (length_blank g.sector); torn = torn }
  where
    within : (f : Flash) (bs : List ℕ) → length bs ≡ g.sector → wipe g a i (store a (start_of (geometry g) i).0 bs f) ≡ wipe g a i f
    within f bs l = wipe_store g a i 0 (start_of (geometry g) i).0 bs f (omega arith) (omega arith)

    torn : (f f' : Flash) → Torn g (erase a i) f f' → wipe g a i f' ≡ wipe g a i f
    torn f f' (as_before e) = ap (wipe g a i) e
    torn f f' (half_erased bs q l e) = ap (wipe g a i) e ∙ within f bs l

-- a unit at byte o of the sector
module _ (g : Build) (a : Area) (i : Sector) (o : ℕ) (u : Unit) (e : (place_of (geometry g) u).0 ≡ (start_of (geometry g) i).0 + o)
    (h : o + g.unit ≤ g.sector) where
  within : (f : Flash) (bs : List ℕ) → length bs ≤ g.unit → wipe g a i (store a (place_of (geometry g) u).0 bs f) ≡ wipe g a i f
  within f bs l = wipe_store g a i o (place_of (geometry g) u).0 bs f e (omega arith)

  pub hidden_write : (bs : List ℕ) → length bs ≤ g.unit → Hidden g (wipe g a i) (write a u bs)
  unfolding apply
  hidden_write bs l = record { done = λ f. within f bs l; torn = torn }
    where
      torn : (f f' : Flash) → Torn g (write a u bs) f f' → wipe g a i f' ≡ wipe g a i f
      torn f f' (as_before e) = ap (wipe g a i) e
      torn f f' (half_written bytes q l e) = ap (wipe g a i) e ∙ within f bytes (omega arith)

  pub hidden_copy : (b : Area) (v : Unit) → Hidden g (wipe g a i) (copy b v a u)
  unfolding apply part
  hidden_copy b v = record { done = λ f. within f (unit_of g b v f) (simp length-take (omega arith)); torn = torn }
    where
      torn : (f f' : Flash) → Torn g (copy b v a u) f f' → wipe g a i f' ≡ wipe g a i f
      torn f f' (as_before e) = ap (wipe g a i) e
      torn f f' (half_copied bytes q l e) = ap (wipe g a i) e ∙ within f bytes (omega arith)
