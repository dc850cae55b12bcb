use Rattle.std.proofs.Common.{rules}
use Rattle.pixel.specs.Pixels.{pixel_lerp}
use Rattle.pixel.proofs.pixels.lerp_pixel.Goals as goal

pub returns : goal.returns
unfolding pixel_lerp
returns c = search rules
