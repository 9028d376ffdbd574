-- After an exchange that ran to its end, whatever failures came before, the power-up boots the image that was checked: with allowance enough,
-- refusals 3 and 4 cannot follow test, permanent or revert, whether slot 0 is checked or not.
use Rattle.std.specs.Prelude.{◌≡◌, refl, List, Bool, false, ℕ, ◌+◌, ◌*◌, ◌-◌, ◌/◌, ◌≤◌}
use Rattle.std.proofs.Common.{ap, ◌∙◌}
use Rattle.spans.specs.Laws.{pieces}
use Rattle.flash.specs.declared.Geometry.{Geometry}
use Rattle.flash.specs.Geometry.{sector_no}
use Rattle.flash.specs.Build.{Flash}
use Rattle.flash.specs.Base.{base, build}
use Rattle.flash.specs.Operations.{State, start, steps}
use Rattle.causes.specs.Header.{header_size}
use Rattle.causes.specs.Check.{head, check, accepted}
use Rattle.causes.proofs.Theorem.{accepts_images}
use Rattle.plan.specs.declared.Course.{Course}
use Rattle.plan.specs.declared.Course.TheVariants.{Damage, FromLineThree, Resume, Test, Permanent, Revert, Clear, Nothing}
use Rattle.plan.specs.Decision.{decide, in_force}
use Rattle.plan.specs.Lengths.{one_if}
use Rattle.recovery.specs.Statement.{Due, Failures, Swapped, sector_of}
use Rattle.recovery.proofs.NeverLost.{outcome_of}
use Rattle.recovery.proofs.Demand3 as recovery
use Rattle.answers.specs.declared.Answer.{Answer}
use Rattle.answers.specs.declared.Outcome.{Outcome}
use Rattle.loader.specs.PowerUp.{Result, started, data_of, boot_of, ended, answered, is_damage}
use Rattle.demands.specs.Promise.{Start}
use Rattle.demands.proofs.AsListed.{sound, by_state}
use Rattle.demands.proofs.Causes.{at_d, boots}
use Rattle.demands.proofs.Demand2.{exchange_of_image}

-- slot 0's data bytes, once the sectors have changed places, are what slot 1's were
pub swapped_data : (g : Geometry) (f f' : Flash) → Swapped (build g) f f' → data_of g f'.in0 ≡ data_of g f.in1
unfolding data_of sector_of base
swapped_data g f f' s = pieces g.sector (g.sectors - 1) f'.in0 f.in1 (λ i h. s.to_slot0 (sector_no i) h)

pub not_damage : (c : Course) → (c ≡ Damage → ⊥) → is_damage c ≡ false
unfolding is_damage
not_damage Damage n = absurd (n refl)
not_damage (FromLineThree p) n = refl
not_damage (Resume c) n = refl
not_damage Test n = refl
not_damage Permanent n = refl
not_damage Revert n = refl
not_damage Clear n = refl
not_damage Nothing n = refl

-- f is where the failures began, f' where they led (with `never`, f itself)
pub boots_what_was_checked : {checked : Bool} {g : Geometry} {b : ℕ} {f f' : Flash} {course : Course} {p : Bool}
    → Due accepted (build g) f course p → Failures (build g) (in_force accepted (build g)) f f'
    → 3 * (g.sectors - 1) * (g.sector / g.unit + 2) + 8 + 2 * one_if p + 32 / g.unit ≤ b
    → {a : Answer} {end : Flash} → Start checked g b f' a end → a.outcome ≡ Outcome.Boot (header_size (data_of g f.in1))
unfolding answered ended boot_of
boots_what_was_checked {checked} {g} {b} {f} {f'} due fs enough {a} q =
    let xs : List ℕ = data_of g f.in1 in
    let s : State = steps (build g) (in_force accepted (build g) f') (start b f') in
    let c : Course = decide accepted (build g) f' in
    let d = recovery.demand_3 accepted g.unit g.sector g.sectors due fs b enough in
    let way = (outcome_of accepted (sound g f due.fits) due fs).1 in
    let o : a.outcome ≡ ended checked g s.flash s.run.end =
    ap (λ (r : Result). r.answer.outcome)
    (q.promised ∙ by_state checked g b f' c way.fits refl (not_damage c way.undamaged)) in
    o ∙ ap (ended checked g s.flash) d.0.ended
    ∙ ap (λ (ys : List ℕ). started checked (head ys) (check ys)) (swapped_data g f s.flash d.1)
    ∙ boots (at_d xs checked) (accepts_images xs (exchange_of_image g f due.which due.decided))
