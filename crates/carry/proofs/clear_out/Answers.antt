use Rattle.std.proofs.Common.{◌≡◌}
use Rattle.flash.specs.Geometry.{last_sector}
use Rattle.flash.specs.Build.{slot0, slot1, trailer_sector}
use Rattle.flash.specs.Base.{base, build}
use Rattle.flash.specs.Operations.{local, erase_in}
use Rattle.writes.specs.InArea.{ok_in, erases_in}
use Rattle.moves.specs.Areas.{cleared}
use Rattle.carry.proofs.clear_out.Goals as goal

pub returns : goal.returns
unfolding base
returns c =
    let given = c.args in
    let sectors = c.erase_sectors-sectors in
    let ok = c.write_ok-ok in
    let erased : local sectors.new.area sectors.result ≡ erases_in given.g 0 (last_sector given.g).0 (local given.slot1.now given.run) = cc in
    let mark : local ok.new.area ok.result ≡ ok_in given.g (trailer_sector (build given.g) slot0) given.unset
    (local given.slot0.now sectors.result) = cc in
    let trailer : local c.erase.new.area c.erase.result ≡ erase_in given.g (trailer_sector (build given.g) slot1)
    (local sectors.new.area ok.result) = cc in
    λ x2. cleared given.g given.unset given.slot0.now given.slot1.now x2 given.run _ _ erased _ _ mark _ _ trailer
