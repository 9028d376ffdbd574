use Rattle.std.proofs.Common.{◌≡◌}
use Rattle.flash.specs.Build.{slot0, slot1, trailer_sector}
use Rattle.flash.specs.Base.{base, build}
use Rattle.flash.specs.Operations.{local, erase_in}
use Rattle.moves.specs.Areas.{lines_three_to_six_lem}
use Rattle.carry.proofs.lines_three_to_six.Goals as goal

pub returns : goal.returns
unfolding base
returns c =
    let given = c.args in
    let three = c.erase-three in
    let four = c.erase-four in
    let line3 : local three.new.area three.result ≡ erase_in given.g (trailer_sector (build given.g) slot1) (local given.slot1.now given.run) = cc in
    let line4 : local four.new.area four.result ≡ erase_in given.g (trailer_sector (build given.g) slot0) (local given.slot0.now three.result) = cc in
    lines_three_to_six_lem given.g given.lasting given.slot0.now given.slot1.now given.scratch.now given.run
    _ _ line3 _ _ line4 _ _ c.line_five-five.ensures _ _ c.erase.ensures
