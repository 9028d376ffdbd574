-- What demand 3 speaks of: power failures during an exchange, exchanges that are due, and builds for which all of it is proved.
use Rattle.std.specs.Prelude.{◌≡◌, List, [], ◌∷◌, Bool, true, false, ◌&&◌, ℕ, ◌≤◌, ◌<◌, ◌+◌, ◌*◌, ◌-◌, length, eqb, ltb}
use Rattle.spans.specs.Bytes.{part}
use Rattle.spans.specs.Choice.{pick}
use Rattle.flash.specs.declared.Sector.{Sector}
use Rattle.flash.specs.declared.End.TheVariants.{Going, Stopped}
use Rattle.flash.specs.Geometry.{start_of}
use Rattle.flash.specs.Build.{Area, slot0, slot1, Build, geometry, Move, Flash, area, same_area, data_sectors, valid}
use Rattle.flash.specs.Operations.{Op, run, run_all, State, start, steps}
use Rattle.flash.specs.Harm.{Cut}
use Rattle.plan.specs.declared.Course.{Course}
use Rattle.plan.specs.declared.Course.TheVariants.{Test, Permanent, Revert}
use Rattle.plan.specs.Lists.{exchange}
use Rattle.plan.specs.Decision.{decide, in_force}
use Rattle.recovery.specs.All.{All}

-- From f, any number of power-ups, each cut before the last operation of its list was done, with nothing else writing the flash
-- between. `plan` is the list that a power-up would carry out. (A power-up that its allowance stops is one, too: `stopped_cut`.)
pub data Failures (g : Build) (plan : Flash → List Op) (f : Flash) : Flash → Type 0 where
  never : Failures g plan f f
  again : {f₁ f₂ : Flash} → Failures g plan f f₁ → Cut g (plan f₁) f₁ f₂ → Failures g plan f f₂

-- Power-ups with these allowances, one after the other from f: all are stopped but the last, which comes to the end of its list and
-- leaves `end`. There may be allowances that are no longer needed.
pub data FinishedBy (g : Build) (plan : Flash → List Op) (end : Flash) : List ℕ → Flash → Type 0 where
  at_last : {b : ℕ} {bs : List ℕ} {f : Flash} → length (plan f) ≤ b → run g b (plan f) f ≡ end → FinishedBy g plan end (b ∷ bs) f
  once_more : {b : ℕ} {bs : List ℕ} {f : Flash} → b < length (plan f) → FinishedBy g plan end bs (run g b (plan f) f)
      → FinishedBy g plan end (b ∷ bs) f

-- power-ups with these allowances, one after the other from f, are all stopped
pub data AllStopped (g : Build) (plan : Flash → List Op) : List ℕ → Flash → Type 0 where
  no_more : {f : Flash} → AllStopped g plan [] f
  once_more_stopped : {b : ℕ} {bs : List ℕ} {f : Flash} → b < length (plan f) → AllStopped g plan bs (run g b (plan f) f)
      → AllStopped g plan (b ∷ bs) f

-- the courses that are exchanges, and "p being 1 for permanent and revert and 0 for test"
pub data Exchange : Course → Bool → Type 0 where
  by_test : Exchange Test false
  by_permanent : Exchange Permanent true
  by_revert : Exchange Revert true

-- An exchange is due under C, and its image is accepted. (Scratch's magic is then not Good, or A would have decided: `quiet`.)
pub record Due (check : List ℕ → Bool) (g : Build) (f : Flash) (course : Course) (p : Bool) : Type 0 where
  pub fits : valid g f ≡ true
  pub which : Exchange course p
  pub decided : decide check g f ≡ course

-- the bytes of a sector
unfoldable pub sector_of : Build → Flash → Area → Sector → List ℕ
sector_of g f a i = part (area a f) (start_of (geometry g) i).0 g.sector

-- two sectors are one
abbrev pub same_sector : Area → Sector → Area → Sector → Bool
same_sector a i b k = same_area a b && eqb i.0 k.0

-- the data sectors of the two slots have changed places whole: "demand 3 wants the slots exchanged"
pub record Swapped (g : Build) (f f' : Flash) : Type 0 where
  pub to_slot0 : (i : Sector) → i.0 < data_sectors g slot0 → sector_of g f' slot0 i ≡ sector_of g f slot1 i
  pub to_slot1 : (i : Sector) → i.0 < data_sectors g slot1 → sector_of g f' slot1 i ≡ sector_of g f slot0 i

-- ---- what a power-up leaves

-- the state after the first b operations of a list, with nothing in their way
abbrev pub carried : Build → ℕ → List Op → Flash → State
carried g b ops f = record {
  flash = run g b ops f;
  run = record { left = b - length ops; end = pick (ltb b (length ops)) Stopped Going };
}

-- f is where the failures began, f' where they led, b the allowance of the power-up that follows
pub record AsNeverCut (check : List ℕ → Bool) (g : Build) (p : Bool) (b : ℕ) (f f' : Flash) : Type 0 where
  -- all three areas, as after the exchange's whole list, and as after a power-up that was not cut
  pub whole : run g b (in_force check g f') f' ≡ run_all g (exchange g p) f
  pub areas : run g b (in_force check g f') f' ≡ run g b (in_force check g f) f
  -- and so where the writes are refused that do not meet erased units, with no other operation due
  pub carried : (steps g (in_force check g f') (start b f')).flash ≡ (steps g (in_force check g f) (start b f)).flash
  pub same : (steps g (in_force check g f') (start b f')).flash ≡ run g b (in_force check g f') f'
  pub ended : (steps g (in_force check g f') (start b f')).run.end ≡ Going

-- ---- builds

-- a move between two different data sectors
pub record Proper (g : Build) (m : Move) : Type 0 where
  pub reads : m.from_sector.0 < data_sectors g m.from
  pub writes : m.to_sector.0 < data_sectors g m.to
  pub apart : (same_area m.to m.from && eqb m.to_sector.0 m.from_sector.0) ≡ false

-- What the proof asks of a build, and `base` has: a mark of each value differs from an erased one, the marks find place, and the
-- moves are proper.
pub record Sound (g : Build) : Type 0 where
  pub small : (k : ℕ) → g.value k < 255
  pub places : 3 + length g.moves ≤ 3 * g.sectors
  pub proper : All (Proper g) g.moves
