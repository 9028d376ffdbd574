-- DEMAND 3. Start from flash where an exchange is due under C, its image accepted (`Due`). Let power fail any number of times
-- before the exchange's last write is done, each failure doing the harm that document 01 allows (`Failures`). Then one power-up
-- with an allowance for a whole exchange leaves all three areas, byte for byte, as an exchange that was never cut, and the data
-- sectors of the two slots have changed places whole.
use Rattle.std.proofs.Common.{arith}
use Rattle.std.specs.Prelude.{List, Bool, ℕ, ◌+◌, ◌*◌, ◌-◌, ◌/◌, ◌≤◌, ◌<◌, length}
use Rattle.flash.specs.Build.{Build, Flash}
use Rattle.flash.specs.Operations.{steps, start}
use Rattle.flash.specs.Base.{base}
use Rattle.plan.specs.declared.Course.{Course}
use Rattle.plan.specs.Lists.{exchange}
use Rattle.plan.specs.Decision.{in_force}
use Rattle.recovery.specs.Cuts.{stopped_cut}
use Rattle.recovery.specs.Statement.{Failures, again, Due, Swapped, AsNeverCut, Sound}
use Rattle.recovery.proofs.Bridge.{in_force_steps}
use Rattle.plan.specs.Lengths.{one_if}
use Rattle.recovery.specs.Validity.{Valid, of_valid}
use Rattle.recovery.proofs.NeverLost.{never_lost, steps_ends}
use Rattle.recovery.specs.BaseMoves.{base_sound, base_swaps, length_base}

-- A power-up that its allowance stops is a failure without harm: it may stand among the failures.
pub stopped : (check : List ℕ → Bool) {g : Build} → Sound g → {f f' : Flash} → Failures g (in_force check g) f f' → (b : ℕ)
    → b < length (in_force check g f') → Failures g (in_force check g) f (steps g (in_force check g f') (start b f')).flash
stopped check {g} sound {f' = f'} fs b l =
    rw (in_force_steps check g sound b f') (again fs (stopped_cut g b (in_force check g f') f' l))

-- For document 01's builds, with its formula for what is enough: "3m(s/w + 2) + 8 + 2p + 32/w".
pub demand_3 : (check : List ℕ → Bool) (w s n : ℕ) {f f' : Flash} {course : Course} {p : Bool}
    → Due check (base w s n) f course p → Failures (base w s n) (in_force check (base w s n)) f f'
    → (b : ℕ) → 3 * (n - 1) * (s / w + 2) + 8 + 2 * one_if p + 32 / w ≤ b
    → AsNeverCut check (base w s n) p b f f'
    × Swapped (base w s n) f (steps (base w s n) (in_force check (base w s n) f') (start b f')).flash
unfolding base
demand_3 check w s n {f} {p = p} due fs b l =
    let v : Valid (base w s n) f = of_valid (base w s n) f due.fits in
    let sound : Sound (base w s n) = base_sound w s n (omega (arith, v.geo.two)) in
    let h : length (exchange (base w s n) p) ≤ b = rw (length_base w s n p v.geo) (omega arith) in
    (never_lost check sound due fs b h, rw (steps_ends check sound due fs b h) (base_swaps w s n f p v))
