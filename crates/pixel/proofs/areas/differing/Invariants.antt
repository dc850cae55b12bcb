use Rattle.pixel.specs.Areas.{Around, AreaIn, first_rows}
use Rattle.pixel.specs.Pictures.{Differs}
use Rattle.pixel.proofs.areas.differing.Given as goal

abbrev pub invariant-loop-r : goal.invariant-loop-r
invariant-loop-r l = Around (Differs l.bytes l.at l.by l.wide (first_rows l.area l.r)) l.found × AreaIn l.wide l.high l.found
