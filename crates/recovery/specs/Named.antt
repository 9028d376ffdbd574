-- What may change while a list is carried out: the sectors that document 01 names for it, and in a clear-out the bytes.
use Rattle.std.specs.Prelude.{◌≡◌, List, [], ◌∷◌, ◌++◌, false, ℕ, zero, suc, ◌-◌, take, drop}
use Rattle.flash.specs.declared.Sector.{Sector}
use Rattle.flash.specs.Geometry.{byte_count, sector_no, beyond}
use Rattle.flash.specs.Build.{Area, slot0, slot1, scratch, Build, Move, Flash, data_sectors, trailer_sector}
use Rattle.flash.specs.Operations.{Op, run}
use Rattle.flash.specs.Harm.{Cut}
use Rattle.trailer.specs.Trailer.{ok_at}
use Rattle.plan.specs.declared.Course.{Course}
use Rattle.plan.specs.declared.Course.TheVariants.{Damage, FromLineThree, Resume, Test, Permanent, Revert, Clear, Nothing}
use Rattle.plan.specs.Lists.{place_in}
use Rattle.recovery.specs.All.{All}
use Rattle.recovery.specs.Statement.{sector_of, same_sector}

-- f' is met while ops are carried out from f: after some of them, or after a failure among them
pub data During (g : Build) (ops : List Op) (f f' : Flash) : Type 0 where
  after_some : (b : ℕ) → f' ≡ run g b ops f → During g ops f f'
  failed : Cut g ops f f' → During g ops f f'

pub record Place : Type 0 where
  pub in_area : Area
  pub at_sector : Sector

abbrev pub place : Area → Sector → Place
place a i = record { in_area = a; at_sector = i }

-- sector k of area b is none of the named places
abbrev pub Unnamed : List Place → Area → Sector → Type 0
Unnamed named b k = All (λ (p : Place). same_sector p.in_area p.at_sector b k ≡ false) named

-- of the sectors, f' differs from f in the named ones at most
abbrev pub Only : Build → List Place → Flash → Flash → Type 0
Only g named f f' = (b : Area) (k : Sector) → Unnamed named b k → sector_of g f' b k ≡ sector_of g f b k

abbrev pub trailer_of : Build → Area → Place
trailer_of g a = place a (trailer_sector g a)

abbrev pub trailers : Build → List Place
trailers g = trailer_of g slot0 ∷ trailer_of g slot1 ∷ trailer_of g scratch ∷ []

-- the targets of moves
unfoldable pub targets : List Move → List Place
targets [] = []
targets (m ∷ ms) = place m.to m.to_sector ∷ targets ms

-- k sectors from number i on
unfoldable pub places : Area → ℕ → ℕ → List Place
places a i zero = []
places a i (suc k) = place a (sector_no i) ∷ places a (suc i) k

-- the sectors that document 01 names: the three trailer sectors and the moves' targets; slot 0's trailer sector and the targets of
-- the moves that are left; slot 0's trailer sector (in it, image ok alone: `clear_out_only`) and slot 1
unfoldable pub named : Build → Course → List Place
named g Damage = []
named g (FromLineThree p) = trailers g ++ targets g.moves
named g (Resume c) = trailer_of g slot0 ∷ targets (drop (c - 3) g.moves)
named g Test = trailers g ++ targets g.moves
named g Permanent = trailers g ++ targets g.moves
named g Revert = trailers g ++ targets g.moves
named g Clear = trailer_of g slot0 ∷ trailer_of g slot1 ∷ places slot1 0 (data_sectors g slot1)
named g Nothing = []

-- "erase slot 1's data sectors .., write slot 0 image ok 01 if it is Unset, erase slot 1's trailer sector": scratch is as it was,
-- and slot 0 is, before the unit of its image ok and after it
pub record Cleared (g : Build) (f f' : Flash) : Type 0 where
  pub in_scratch : f'.in2 ≡ f.in2
  pub before_ok : take (place_in g slot0 (ok_at g)).0 f'.in0 ≡ take (place_in g slot0 (ok_at g)).0 f.in0
  pub after_ok : drop (beyond (place_in g slot0 (ok_at g)) (byte_count g.unit)).0 f'.in0
      ≡ drop (beyond (place_in g slot0 (ok_at g)) (byte_count g.unit)).0 f.in0
