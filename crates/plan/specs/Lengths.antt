-- How many operations the parts of the lists have.
use Rattle.std.specs.Prelude.{◌≡◌, refl, List, Bool, true, false, ℕ, zero, suc, length, drop}
use Rattle.std.proofs.Common.{ap}
use Rattle.flash.specs.declared.Unit.{Unit}
use Rattle.flash.specs.Geometry.{next_unit}
use Rattle.flash.specs.Build.{Area, Build, geometry}
use Rattle.trailer.specs.Trailer.{magic_bytes, magic_units, magic_at}
use Rattle.plan.specs.Lists.{trailer_unit, writes, magic_ops, ok_ops, copies}

-- "p being 1 for permanent and revert and 0 for test"
abbrev pub one_if : Bool → ℕ
one_if true = 1
one_if false = 0

pub length_writes : (g : Build) (a : Area) (u : Unit) (k : ℕ) (bs : List ℕ) → length (writes g a u k bs) ≡ k
unfolding writes
length_writes g a u zero bs = refl
length_writes g a u (suc k) bs = ap suc (length_writes g a (next_unit u) k (drop g.unit bs))

pub length_copies : (a : Area) (v : Unit) (b : Area) (u : Unit) (k : ℕ) → length (copies a v b u k) ≡ k
unfolding copies
length_copies a v b u zero = refl
length_copies a v b u (suc k) = ap suc (length_copies a (next_unit v) b (next_unit u) k)

pub length_ok : (g : Build) (a : Area) (p : Bool) → length (ok_ops g a p) ≡ one_if p
unfolding ok_ops
length_ok g a true = refl
length_ok g a false = refl

pub length_magic : (g : Build) (a : Area) → length (magic_ops g a) ≡ (magic_units (geometry g)).0
unfolding magic_ops
length_magic g a = length_writes g a (trailer_unit g a (magic_at g)) (magic_units (geometry g)).0 magic_bytes
