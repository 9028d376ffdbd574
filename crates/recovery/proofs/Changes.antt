-- What changes and what does not, while a list is carried out, stopped, or cut with harm.
use Rattle.std.specs.Prelude.{◌≡◌, Bool, drop}
use Rattle.std.proofs.Math.Path.{refl}
use Rattle.std.proofs.Common.{ap, ◌∙◌, arith}
use mathlib.Core.List.{List, [], ◌∷◌, ◌++◌, append_assoc}
use Rattle.std.proofs.Math.Bool.{true, false}
use Prim.Native.Nat.{ℕ, zero, suc, ◌+◌, ◌*◌, ◌-◌, ◌≤◌, ◌<◌}
use Rattle.std.proofs.Math.ListN.{length, length-drop}
use Rattle.spans.specs.Choice.{pick}
use Rattle.flash.specs.declared.Sector.{Sector}
use Rattle.flash.specs.Geometry.{sector_no}
use Rattle.flash.specs.Build.{Area, slot0, slot1, scratch, Build, Move, Flash, area, data_sectors, trailer_sector, valid}
use Rattle.flash.specs.Operations.{Op, erase, apply, run}
use Rattle.trailer.specs.Trailer.{copy_done_at}
use Rattle.plan.specs.declared.Course.{Course}
use Rattle.plan.specs.declared.Course.TheVariants.{Damage, FromLineThree, Resume, Test, Permanent, Revert, Clear, Nothing}
use Rattle.plan.specs.Lists.{erase_trailer, progress, lines_one_two, lines_three_to_six, move_ops, data_ops, exchange, erases, clear_out}
use Rattle.plan.specs.Decision.{decide, list_of, ok_unset, in_force}
use Rattle.recovery.specs.All.{All, none, one, all_append, all_map}
use Rattle.recovery.specs.Windows.{Hidden, wipe, hidden_cut, hidden_erase, all_lengths}
use Rattle.recovery.specs.Places.{Geo, unit_small, done_unit}
use Rattle.recovery.specs.Statement.{Sound, sector_of, same_sector}
use Rattle.recovery.specs.Named.{During, after_some, failed, place, Unnamed, Only, trailer_of, trailers, targets, places, named}
use Rattle.recovery.specs.Validity.{of_valid}
use Rattle.recovery.specs.Hiding.{wipe_trailer, hidden_mark, hidden_ok, hidden_magic, hidden_begin, hidden_progress, hidden_move}
use Rattle.recovery.specs.Settling.{three_marks}
use Rattle.recovery.specs.Sectors.{sector_unwiped}
use Rattle.recovery.proofs.Unerased.{resume_means}

module _ {g : Build} {A : Type 0} {W : Flash → A} where
  hidden_some : {ops : List Op} → All (Hidden g W) ops → (b : ℕ) (f : Flash) → W (run g b ops f) ≡ W f
  unfolding run
  hidden_some hs zero f = refl
  hidden_some none (suc b) f = refl
  hidden_some (one {x = op} h hs) (suc b) f = hidden_some hs b (apply g op f) ∙ h.done f

  pub unchanged : {ops : List Op} → All (Hidden g W) ops → {f f' : Flash} → During g ops f f' → W f' ≡ W f
  unchanged hs {f} (after_some b e) = ap W e ∙ hidden_some hs b f
  unchanged hs (failed c) = hidden_cut hs c

module _ {g : Build} (geo : Geo g) (b : Area) (k : Sector) where
  -- an operation in one sector does not show in another
  elsewhere : (a : Area) (j : Sector) → same_sector a j b k ≡ false → (op : Op) → Hidden g (wipe g a j) op
      → Hidden g (λ f. sector_of g f b k) op
  elsewhere a j e op h = record {
    done = λ f. sector_unwiped geo a b j k (apply g op f) f e (h.done f);
    torn = λ f f' t. sector_unwiped geo a b j k f' f e (h.torn f f' t);
  }

  -- erases and writes in a trailer sector
  cleared : (a : Area) → same_sector a (trailer_sector g a) b k ≡ false → Hidden g (λ f. sector_of g f b k) (erase_trailer g a)
  cleared a e = elsewhere a (trailer_sector g a) e (erase_trailer g a) (hidden_erase g a (trailer_sector g a))

  noted : {ops : List Op} (a : Area) → same_sector a (trailer_sector g a) b k ≡ false → All (Hidden g (wipe_trailer g a)) ops
      → All (Hidden g (λ f. sector_of g f b k)) ops
  noted a e hs = all_map (elsewhere a (trailer_sector g a) e) hs

  begin_elsewhere : (p : Bool) → Unnamed (trailers g) b k → All (Hidden g (λ f. sector_of g f b k)) (lines_one_two g p)
  begin_elsewhere p (one n₀ (one n₁ (one n₂ none))) = noted scratch n₂ (hidden_begin geo p)

  settle_elsewhere : (p : Bool) → Unnamed (trailers g) b k → All (Hidden g (λ f. sector_of g f b k)) (lines_three_to_six g p)
  unfolding lines_three_to_six
  settle_elsewhere p (one n₀ (one n₁ (one n₂ none))) =
      let three : 3 < 3 * g.sectors = three_marks geo in
      one (cleared slot1 n₁) (one (cleared slot0 n₀) (all_append (noted slot0 n₀ (all_append (hidden_ok geo slot0 p)
      (one (hidden_progress geo 0 (omega arith)) (one (hidden_progress geo 1 (omega arith))
      (one (hidden_progress geo 2 (omega arith))
      (hidden_magic geo slot0)))))) (one (cleared scratch n₂) none)))

  move_elsewhere : (c : ℕ) (m : Move) → c < 3 * g.sectors → Unnamed (trailer_of g slot0 ∷ place m.to m.to_sector ∷ []) b k
      → All (Hidden g (λ f. sector_of g f b k)) (move_ops g m ++ (progress g c ∷ []))
  move_elsewhere c m h (one n₀ (one e none)) =
      all_append (all_map (elsewhere m.to m.to_sector e) (hidden_move geo m)) (noted slot0 n₀ (one (hidden_progress geo c h) none))

  data_elsewhere : (c : ℕ) (ms : List Move) → c + length ms ≤ 3 * g.sectors → Unnamed (trailer_of g slot0 ∷ targets ms) b k
      → All (Hidden g (λ f. sector_of g f b k)) (data_ops g c ms)
  unfolding data_ops targets
  data_elsewhere c [] l (one n₀ n) =
      noted slot0 n₀ (one (hidden_mark geo slot0 (copy_done_at g) 1 (done_unit geo) (omega (arith, unit_small geo))) none)
  data_elsewhere c (m ∷ ms) l (one n₀ (one e n)) =
      rw (← append_assoc (move_ops g m) (progress g c ∷ []) (data_ops g (suc c) ms))
      (all_append (move_elsewhere c m (omega arith) (one n₀ (one e none))) (data_elsewhere (suc c) ms (omega arith) (one n₀ n)))

  erases_elsewhere : (i r : ℕ) → Unnamed (places slot1 i r) b k → All (Hidden g (λ f. sector_of g f b k)) (erases slot1 i r)
  unfolding erases places
  erases_elsewhere i zero n = none
  erases_elsewhere i (suc r) (one e n) =
      one (elsewhere slot1 (sector_no i) e (erase slot1 (sector_no i)) (hidden_erase g slot1 (sector_no i)))
      (erases_elsewhere (suc i) r n)

  module _ (sound : Sound g) where
    rest_elsewhere : (p : Bool) → Unnamed (trailers g ++ targets g.moves) b k
        → All (Hidden g (λ f. sector_of g f b k)) (lines_three_to_six g p ++ data_ops g 3 g.moves)
    rest_elsewhere p (one n₀ (one n₁ (one n₂ n))) =
        all_append (settle_elsewhere p (one n₀ (one n₁ (one n₂ none)))) (data_elsewhere 3 g.moves sound.places (one n₀ n))

    exchange_elsewhere : (p : Bool) → Unnamed (trailers g ++ targets g.moves) b k
        → All (Hidden g (λ f. sector_of g f b k)) (exchange g p)
    unfolding exchange
    exchange_elsewhere p (one n₀ (one n₁ (one n₂ n))) =
        all_append (begin_elsewhere p (one n₀ (one n₁ (one n₂ none)))) (rest_elsewhere p (one n₀ (one n₁ (one n₂ n))))

    course_elsewhere : (unset : Bool) (course : Course) → ((c : ℕ) → course ≡ Resume c → (3 ≤ c) × (c ≤ 3 + length g.moves))
        → Unnamed (named g course) b k → All (Hidden g (λ f. sector_of g f b k)) (list_of g unset course)
    unfolding list_of named clear_out
    course_elsewhere unset Damage h n = none
    course_elsewhere unset (FromLineThree p) h n = rest_elsewhere p n
    course_elsewhere unset (Resume c) h n =
        let lo : 3 ≤ c = (h c refl).0 in
        let hi : c ≤ 3 + length g.moves = (h c refl).1 in
        data_elsewhere c (drop (c - 3) g.moves) (simp length-drop (omega (arith, sound.places))) n
    course_elsewhere unset Test h n = exchange_elsewhere false n
    course_elsewhere unset Permanent h n = exchange_elsewhere true n
    course_elsewhere unset Revert h n = exchange_elsewhere true n
    course_elsewhere unset Clear h (one n₀ (one n₁ n)) =
        all_append (erases_elsewhere 0 (data_sectors g slot1) n)
        (all_append (noted slot0 n₀ (hidden_ok geo slot0 unset)) (one (cleared slot1 n₁) none))
    course_elsewhere unset Nothing h n = none

-- While the list in force is carried out, from any areas, only the sectors that document 01 names for its course change.
pub in_force_only : (check : List ℕ → Bool) (g : Build) → Sound g → {f f' : Flash} → During g (in_force check g f) f f'
    → Only g (named g (decide check g f)) f f'
unfolding in_force
in_force_only check g sound {f} d b k n = unchanged (go (valid g f) refl) d
  where
    go : (v : Bool) → valid g f ≡ v → All (Hidden g (λ f. sector_of g f b k)) (pick v (list_of g (ok_unset g f) (decide check g f)) [])
    go true e =
        course_elsewhere (of_valid g f e).geo b k sound (ok_unset g f) (decide check g f)
        (λ c q. let r = resume_means check g f q in (r.low, r.high)) n
    go false e = none

-- and the areas are as long as they were
pub same_lengths : (g : Build) (ops : List Op) {f f' : Flash} → During g ops f f' → (a : Area)
    → length (area a f') ≡ length (area a f)
same_lengths g ops d a = unchanged (all_lengths g a ops) d
