use Rattle.pixel.specs.Areas.{first_rows}
use Rattle.pixel.specs.Pictures.{picture_in, RegionTo}
use Rattle.pixel.proofs.areas.copy_region.Given as goal

abbrev pub invariant-loop-r : goal.invariant-loop-r
invariant-loop-r l = RegionTo (picture_in l.initial.bytes l.from l.wide) l.to l.wide l.high (first_rows l.area l.r) l.initial.bytes l.bytes
