-- No sector is named for a course that the course's list does not work in.
use Rattle.std.specs.Prelude.{refl, Bool, drop}
use mathlib.Core.List.{List, [], ◌∷◌, ◌++◌}
use Rattle.std.proofs.Math.Bool.{true, false}
use Prim.Native.Nat.{ℕ, zero, suc, ◌-◌, ◌<◌}
use Rattle.std.specs.Int.{◌∣◌}
use Rattle.std.proofs.Common.{arith}
use Rattle.flash.specs.declared.Sector.{Sector}
use Rattle.flash.specs.declared.Offset.{Offset}
use Rattle.flash.specs.Geometry.{sector_no}
use Rattle.flash.specs.Build.{Area, slot0, slot1, scratch, Build, Move, data_sectors}
use Rattle.flash.specs.Operations.{Op, erase}
use Rattle.trailer.specs.Trailer.{ok_at, copy_done_at}
use Rattle.plan.specs.declared.Course.{Course}
use Rattle.plan.specs.declared.Course.TheVariants.{Damage, FromLineThree, Resume, Test, Permanent, Revert, Clear, Nothing}
use Rattle.plan.specs.Lists.{mark, ok_ops, progress, magic_ops, lines_one_two, lines_three_to_six, move_ops, data_ops, exchange, erases, clear_out}
use Rattle.plan.specs.Decision.{list_of}
use Rattle.recovery.specs.All.{All, none, one, all_map}
use Rattle.recovery.specs.Places.{Geo, unit_back, ok_unit, done_unit}
use Rattle.recovery.specs.Named.{Place, place, trailer_of, trailers, targets, places, named}
use Rattle.recovery.specs.NamedWorked.{Worked, by_first, by_later}

module _ {g : Build} {p : Place} where
  worked_left : {xs : List Op} (ys : List Op) → Worked g p xs → Worked g p (xs ++ ys)
  worked_left ys (by_first e l h) = by_first e l h
  worked_left ys (by_later w) = by_later (worked_left ys w)

  worked_right : (xs : List Op) {ys : List Op} → Worked g p ys → Worked g p (xs ++ ys)
  worked_right [] w = w
  worked_right (x ∷ xs) w = by_later (worked_right xs w)

module _ {g : Build} (geo : Geo g) where
  erased : (a : Area) (i : Sector) (ops : List Op) → Worked g (place a i) (erase a i ∷ ops)
  erased a i ops = by_first {op = erase a i} refl (omega arith) (omega (arith, geo.room))

  noted : (a : Area) (at : Offset) (v : ℕ) (ops : List Op) → g.unit ∣ at.0 → at.0 < g.sector
      → Worked g (trailer_of g a) (mark g a at v ∷ ops)
  noted a at v ops d h = by_first {op = mark g a at v} refl (omega (arith, unit_back geo a at d)) (omega (arith, unit_back geo a at d))

  -- the data exchange: copy done in slot 0's trailer sector, and each move's target
  done_worked : (c : ℕ) (ms : List Move) → Worked g (trailer_of g slot0) (data_ops g c ms)
  unfolding data_ops
  done_worked c [] = noted slot0 (copy_done_at g) 1 [] (done_unit geo) (omega (arith, geo.room))
  done_worked c (m ∷ ms) = worked_right (move_ops g m) (by_later (done_worked (suc c) ms))

  targets_worked : (c : ℕ) (ms : List Move) → All (λ (p : Place). Worked g p (data_ops g c ms)) (targets ms)
  unfolding data_ops targets move_ops
  targets_worked c [] = none
  targets_worked c (m ∷ ms) =
      one (erased m.to m.to_sector _) (all_map (λ p w. worked_right (move_ops g m) (by_later w)) (targets_worked (suc c) ms))

  rest_worked : (p : Bool)
      → All (λ (q : Place). Worked g q (lines_three_to_six g p ++ data_ops g 3 g.moves)) (trailers g ++ targets g.moves)
  unfolding lines_three_to_six
  rest_worked p =
      one (by_later (erased slot0 (sector_no (data_sectors g slot0)) _)) (one (erased slot1 (sector_no (data_sectors g slot1)) _)
      (one (worked_left (data_ops g 3 g.moves) (by_later (by_later (worked_right (ok_ops g slot0 p ++ (progress g 0 ∷ progress g 1
      ∷ progress g 2 ∷ magic_ops g slot0)) (erased scratch (sector_no (data_sectors g scratch)) [])))))
      (all_map (λ q w. worked_right (lines_three_to_six g p) w) (targets_worked 3 g.moves))))

  exchange_worked : (p : Bool) → All (λ (q : Place). Worked g q (exchange g p)) (trailers g ++ targets g.moves)
  unfolding exchange
  exchange_worked p = all_map (λ q w. worked_right (lines_one_two g p) w) (rest_worked p)

  erases_worked : (i k : ℕ) → All (λ (p : Place). Worked g p (erases slot1 i k)) (places slot1 i k)
  unfolding erases places
  erases_worked i zero = none
  erases_worked i (suc k) = one (erased slot1 (sector_no i) _) (all_map (λ p w. by_later w) (erases_worked (suc i) k))

  pub resume_worked : (c : ℕ) → All (λ (p : Place). Worked g p (list_of g true (Resume c))) (named g (Resume c))
  unfolding named list_of
  resume_worked c = one (done_worked c (drop (c - 3) g.moves)) (targets_worked c (drop (c - 3) g.moves))

  pub clear_worked : All (λ (p : Place). Worked g p (list_of g true Clear)) (named g Clear)
  unfolding named list_of clear_out ok_ops
  clear_worked =
      let es : List Op = erases slot1 0 (data_sectors g slot1) in
      one (worked_right es (noted slot0 (ok_at g) 1 _ (ok_unit geo) (omega (arith, geo.room))))
      (one (worked_right es (by_later (erased slot1 (sector_no (data_sectors g slot1)) [])))
      (all_map (λ p w. worked_left _ w) (erases_worked 0 (data_sectors g slot1))))

  -- of every course; with slot 0's image ok Unset, so that a clear-out writes it
  pub named_worked : (course : Course) → All (λ (p : Place). Worked g p (list_of g true course)) (named g course)
  unfolding named list_of
  named_worked Damage = none
  named_worked (FromLineThree p) = rest_worked p
  named_worked (Resume c) = resume_worked c
  named_worked Test = exchange_worked false
  named_worked Permanent = exchange_worked true
  named_worked Revert = exchange_worked true
  named_worked Clear = clear_worked
  named_worked Nothing = none
