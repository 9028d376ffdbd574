-- What it tells that only the named sectors change, said by the sectors and bytes that are as they were; and what `During` takes in.
use Rattle.std.specs.Prelude.{◌≡◌, ◌⊎◌, List, Bool, true, false, ◌&&◌, ℕ, zero, suc, ◌+◌, ◌*◌, ◌-◌, ◌≤◌, ◌<◌, length, get_or, eqb}
use Rattle.std.proofs.Math.Path.{refl}
use Rattle.std.proofs.Common.{sym, ap, ◌∙◌, inl, inr, arith, length-drop, get_or-take, get_or-drop, ne_eqb}
use Rattle.flash.specs.declared.Sector.{Sector}
use Rattle.flash.specs.declared.Offset.{Offset}
use Rattle.flash.specs.Geometry.{byte_count, beyond}
use Rattle.flash.specs.Build.{Area, slot0, slot1, scratch, Build, Move, Flash, same_area, data_sectors, trailer_sector, valid}
use Rattle.flash.specs.Operations.{Op}
use Rattle.flash.specs.Harm.{Cut}
use Rattle.flash.specs.AreaLaws.{same_area_lem}
use Rattle.trailer.specs.Trailer.{trailer, ok_at}
use Rattle.plan.specs.declared.Course.{Course}
use Rattle.plan.specs.declared.Course.TheVariants.{Damage, Resume, Clear, Nothing}
use Rattle.plan.specs.Lists.{place_in}
use Rattle.plan.specs.Decision.{decide, in_force}
use Rattle.recovery.specs.All.{All, none, one, all_drop}
use Rattle.recovery.specs.Statement.{Sound, Proper, sector_of}
use Rattle.recovery.specs.Validity.{of_valid}
use Rattle.recovery.specs.Named.{During, failed, Unnamed, targets, places, named, Cleared}
use Rattle.recovery.proofs.Changes.{in_force_only}

-- the flash after any failure among the operations
pub after_a_failure : {g : Build} {ops : List Op} {f f' : Flash} → Cut g ops f f' → During g ops f f'
after_a_failure c = failed c

-- ---- sectors that are not named

-- the targets of proper moves are no trailer sectors
targets_else : {g : Build} (a : Area) {ms : List Move} → All (Proper g) ms → Unnamed (targets ms) a (trailer_sector g a)
unfolding targets
targets_else a none = none
targets_else {g} a (one {x = m} p ps) = one (go (same_area m.to a) refl) (targets_else a ps)
  where
    go : (b : Bool) → same_area m.to a ≡ b → (b && eqb m.to_sector.0 (data_sectors g a)) ≡ false
    go true e = ne_eqb m.to_sector.0 (data_sectors g a) (λ q. omega (arith, p.writes, ap (data_sectors g) (same_area_lem m.to a e)))
    go false e = refl

slot1_else : (b : Area) (k : Sector) (i r : ℕ) → same_area slot1 b ≡ false → Unnamed (places slot1 i r) b k
unfolding places
slot1_else b k i zero e = none
slot1_else b k i (suc r) e = one (ap (λ (x : Bool). x && eqb i k.0) e) (slot1_else b k (suc i) r e)

module _ (check : List ℕ → Bool) (g : Build) (sound : Sound g) {f f' : Flash} (d : During g (in_force check g f) f f') where
  -- what is unnamed for the course is as it was
  pub as_before : (course : Course) → decide check g f ≡ course → (b : Area) (k : Sector) → Unnamed (named g course) b k
      → sector_of g f' b k ≡ sector_of g f b k
  as_before course e b k n = in_force_only check g sound d b k (rw e n)

  -- continued under B: slot 1's trailer sector and scratch's
  pub resumed_leaves : (c : ℕ) → decide check g f ≡ Resume c → (a : Area) → same_area slot0 a ≡ false
      → sector_of g f' a (trailer_sector g a) ≡ sector_of g f a (trailer_sector g a)
  unfolding named
  resumed_leaves c e a n =
      as_before (Resume c) e a (trailer_sector g a) (one (rw n) (targets_else a (all_drop (c - 3) sound.proper)))

  -- cleared out: slot 0's data sectors, and scratch
  pub cleared_leaves_data : decide check g f ≡ Clear → (k : Sector) → k.0 < data_sectors g slot0
      → sector_of g f' slot0 k ≡ sector_of g f slot0 k
  unfolding named
  cleared_leaves_data e k h =
      as_before Clear e slot0 k (one (ne_eqb (data_sectors g slot0) k.0 (λ q. omega arith)) (one refl
      (slot1_else slot0 k 0 (data_sectors g slot1) refl)))

  pub cleared_leaves_scratch : decide check g f ≡ Clear → (k : Sector) → sector_of g f' scratch k ≡ sector_of g f scratch k
  unfolding named
  cleared_leaves_scratch e k = as_before Clear e scratch k (one refl (one refl (slot1_else scratch k 0 (data_sectors g slot1) refl)))

  -- damage, and none: every sector
  pub idle_leaves : (decide check g f ≡ Damage) ⊎ (decide check g f ≡ Nothing) → (b : Area) (k : Sector)
      → sector_of g f' b k ≡ sector_of g f b k
  unfolding named
  idle_leaves (inl e) b k = as_before Damage e b k none
  idle_leaves (inr e) b k = as_before Nothing e b k none

-- ---- bytes that a clear-out leaves

-- every byte of slot 0 but those of the unit "24 from the end"
pub cleared_bytes : {g : Build} {f f' : Flash} → Cleared g f f' → valid g f ≡ true → (o : ℕ)
    → (o + 24 < length f.in0) ⊎ (length f.in0 + g.unit ≤ o + 24) → get_or f'.in0 o 0 ≡ get_or f.in0 o 0
unfolding trailer
cleared_bytes {g} {f} {f'} c v o h = go h
  where
    place : Offset
    place = place_in g slot0 (ok_at g)

    ends : length f.in0 ≡ place.0 + 24
    ends =
        let z = of_valid g f v in
        omega (arith, z.geo.room, z.sized slot0, length-drop (data_sectors g slot0 * g.sector) f.in0)

    go : (o + 24 < length f.in0) ⊎ (length f.in0 + g.unit ≤ o + 24) → get_or f'.in0 o 0 ≡ get_or f.in0 o 0
    go (inl l) =
        let at : ℕ = place.0 in
        let k : o < at = omega (arith, ends) in
        sym (get_or-take at f'.in0 o 0 k) ∙ ap (λ (xs : List ℕ). get_or xs o 0) c.before_ok ∙ get_or-take at f.in0 o 0 k
    go (inr l) =
        let at : ℕ = (beyond place (byte_count g.unit)).0 in
        let e : o ≡ at + (o - at) = omega (arith, ends) in
        rw e (sym (get_or-drop at f'.in0 (o - at) 0) ∙ ap (λ (xs : List ℕ). get_or xs (o - at) 0) c.after_ok
        ∙ get_or-drop at f.in0 (o - at) 0)
