-- The places of the parts that stand at one distance from a trailer sector's end.
use Rattle.flash.specs.declared.Offset.{Offset}
use Rattle.flash.specs.Build.{Build}
use Rattle.trailer.specs.Trailer.{copy_done_at, ok_at, magic_at}
use Rattle.marks.specs.declared.part.Part.{Part}

abbrev pub part_at : Part → Build → Offset
part_at Part.CopyDone g = copy_done_at g
part_at Part.ImageOk g = ok_at g
part_at Part.Magic g = magic_at g
