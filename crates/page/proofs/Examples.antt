-- The four worked pages: both sides compute. Assumes nothing.
use Rattle.std.proofs.Common.{refl}
use Rattle.page.specs.Selection.{under_brush, under_stroke}
use Rattle.page.specs.Worked.{Worked}
use Rattle.pixel.specs.Channels.{at_most_255, blended, lerp, mixed, share}
use Rattle.pixel.specs.Pixels.{pixel_lerp, pixel_over}

pub worked : Worked
unfolding at_most_255 share blended lerp mixed pixel_over pixel_lerp under_brush under_stroke
worked = record { page_a = refl; page_b = refl; page_c = refl; page_f = refl }
