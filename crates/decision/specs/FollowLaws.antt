-- B by the number of marks.
use Rattle.std.specs.Prelude.{◌≡◌, List, true, false, ◌&&◌, ℕ, ◌+◌, ◌*◌, ◌≤◌, ◌<◌, eqb, leb}
use Rattle.std.proofs.Math.ListN.{length}
use borrow.Author.Tests.{eq-eqb, ne_eqb, le-leb, lt-leb}
use Rattle.spans.specs.Choice.{pick}
use Rattle.flash.specs.Build.{Build}
use Rattle.trailer.specs.Trailer.{legal}
use Rattle.plan.specs.declared.Course.{Course}
use Rattle.plan.specs.declared.Course.TheVariants.{Damage, Resume}
use Rattle.plan.specs.Decision.{continue}

-- B's answer where the run is legal
unfoldable pub followed : Build → ℕ → Course → Course
followed g c otherwise =
    pick (eqb c 0) otherwise (pick (leb 3 c && leb c (3 + length g.moves)) (Resume c) Damage)

pub continue_legal : (g : Build) (t0 : List ℕ) (c : ℕ) (otherwise : Course) → legal g t0 c 0 (3 * g.sectors) ≡ true
    → continue g t0 c otherwise ≡ followed g c otherwise
unfolding continue followed
continue_legal g t0 c otherwise h = rw h

pub continue_damage : (g : Build) (t0 : List ℕ) (c : ℕ) (otherwise : Course) → legal g t0 c 0 (3 * g.sectors) ≡ false
    → continue g t0 c otherwise ≡ Damage
unfolding continue
continue_damage g t0 c otherwise h = rw h

module _ (g : Build) (c : ℕ) (otherwise : Course) where
  pub none_marked : c ≡ 0 → followed g c otherwise ≡ otherwise
  unfolding followed
  none_marked h = rw (eq-eqb c 0 h)

  pub too_few : (c ≡ 0 → ⊥) → c < 3 → followed g c otherwise ≡ Damage
  unfolding followed
  too_few h l = rw (ne_eqb c 0 h, lt-leb 3 c l)

  pub marks_enough : (c ≡ 0 → ⊥) → 3 ≤ c → c ≤ 3 + length g.moves → followed g c otherwise ≡ Resume c
  unfolding followed
  marks_enough h l m = rw (ne_eqb c 0 h, le-leb 3 c l, le-leb c (3 + length g.moves) m)

  pub too_many : (c ≡ 0 → ⊥) → 3 ≤ c → 3 + length g.moves < c → followed g c otherwise ≡ Damage
  unfolding followed
  too_many h l m = rw (ne_eqb c 0 h, le-leb 3 c l, lt-leb c (3 + length g.moves) m)
