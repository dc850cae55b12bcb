use Rattle.std.proofs.Common.{rules}
use Rattle.pixel.specs.Pixels.{pixel_over}
use Rattle.pixel.proofs.pixels.lay_pixel.Goals as goal

pub returns : goal.returns
unfolding pixel_over
returns c = search rules
