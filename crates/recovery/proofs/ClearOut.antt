-- The clear-out: scratch, and slot 0 but its image ok, are as they were.
use Rattle.std.specs.Prelude.{◌≡◌, Bool, take, drop}
use Rattle.std.proofs.Math.Path.{refl, ap}
use Rattle.std.proofs.Common.{sym, ◌∙◌, arith}
use mathlib.Core.List.{List}
use Rattle.std.proofs.Math.Bool.{true, false}
use Rattle.std.proofs.lemmas.Bool.{false≢true}
use Prim.Native.Nat.{ℕ, zero, suc, ◌*◌}
use Rattle.spans.specs.Bytes.{blank}
use Rattle.spans.specs.Laws.{take_put_before, drop_put_after}
use Rattle.flash.specs.declared.Sector.{Sector}
use Rattle.flash.specs.declared.Offset.{Offset}
use Rattle.flash.specs.Geometry.{byte_count, sector_no, beyond}
use Rattle.flash.specs.Build.{Area, slot0, slot1, scratch, Build, Flash, area, same_area, data_sectors, trailer_sector}
use Rattle.flash.specs.Operations.{erase, store, apply}
use Rattle.flash.specs.Harm.{Torn, as_before, half_erased}
use Rattle.flash.specs.AreaLaws.{unseen}
use Rattle.trailer.specs.Trailer.{ok_at, mark_bytes}
use Rattle.plan.specs.Lists.{place_in, trailer_unit, mark, ok_ops, erases, clear_out}
use Rattle.recovery.specs.All.{All, none, one, all_append}
use Rattle.recovery.specs.Windows.{Hidden}
use Rattle.recovery.specs.Places.{Geo, unit_back, ok_unit, length_mark, mark_whole}
use Rattle.recovery.specs.Named.{During, Cleared}
use Rattle.recovery.proofs.Changes.{unchanged}

module _ {g : Build} (geo : Geo g) where
  -- an erase in slot 1 shows in no other area
  hidden_else : {B : Type 0} (F : List ℕ → B) (b : Area) (i : Sector) → same_area slot1 b ≡ false
      → Hidden g (λ f. F (area b f)) (erase slot1 i)
  unfolding apply
  hidden_else F b i e = record { done = λ f. past (blank g.sector) f; torn = torn }
    where
      past : (bs : List ℕ) (f : Flash) → F (area b (store slot1 (i.0 * g.sector) bs f)) ≡ F (area b f)
      past bs f = unseen F slot1 b (i.0 * g.sector) bs f (λ q. absurd (false≢true (sym e ∙ q)))

      torn : (f f' : Flash) → Torn g (erase slot1 i) f f' → F (area b f') ≡ F (area b f)
      torn f f' (as_before q) = ap (λ (x : Flash). F (area b x)) q
      torn f f' (half_erased bs l n q) = ap (λ (x : Flash). F (area b x)) q ∙ past bs f

  hidden_erases : {B : Type 0} (F : List ℕ → B) (b : Area) (i k : ℕ) → same_area slot1 b ≡ false
      → All (Hidden g (λ f. F (area b f))) (erases slot1 i k)
  unfolding erases
  hidden_erases F b i zero e = none
  hidden_erases F b i (suc k) e = one (hidden_else F b (sector_no i) e) (hidden_erases F b (suc i) k e)

  -- what the write of image ok does not show
  hidden_okays : {B : Type 0} (F : List ℕ → B) (b : Area) (p : Bool)
      → ((f : Flash) → F (area b (apply g (mark g slot0 (ok_at g) 1) f)) ≡ F (area b f))
      → All (Hidden g (λ f. F (area b f))) (ok_ops g slot0 p)
  unfolding ok_ops
  hidden_okays F b true h =
      one (record {
        done = h;
        torn = λ f f' t. ap (λ (x : Flash). F (area b x))
            (mark_whole geo slot0 (ok_at g) 1 (ok_unit geo) t);
      }) none
  hidden_okays F b false h = none

  hidden_out : {B : Type 0} (F : List ℕ → B) (b : Area) (p : Bool) → same_area slot1 b ≡ false
      → ((f : Flash) → F (area b (apply g (mark g slot0 (ok_at g) 1) f)) ≡ F (area b f))
      → All (Hidden g (λ f. F (area b f))) (clear_out g p)
  unfolding clear_out
  hidden_out F b p e h =
      all_append (hidden_erases F b 0 (data_sectors g slot1) e)
      (all_append (hidden_okays F b p h) (one (hidden_else F b (trailer_sector g slot1) e) none))

  pub clear_out_only : (p : Bool) {f f' : Flash} → During g (clear_out g p) f f' → Cleared g f f'
  unfolding apply
  clear_out_only p d =
      let at : ℕ = (trailer_unit g slot0 (ok_at g)).0 * g.unit in
      let place : Offset = place_in g slot0 (ok_at g) in
      let e : at ≡ place.0 = unit_back geo slot0 (ok_at g) (ok_unit geo) in
      record {
        in_scratch = unchanged (hidden_out (λ xs. xs) scratch p refl (λ f. refl)) d;
        before_ok = unchanged (hidden_out (take place.0) slot0 p refl (λ f.
            take_put_before f.in0 place.0 at (mark_bytes g 1) (omega arith))) d;
        after_ok = unchanged (hidden_out (drop (beyond place (byte_count g.unit)).0) slot0 p refl (λ f.
            drop_put_after f.in0 (beyond place (byte_count g.unit)).0 at (mark_bytes g 1) (omega (arith, length_mark geo 1)))) d;
      }
