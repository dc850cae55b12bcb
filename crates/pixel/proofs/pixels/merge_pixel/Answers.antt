use Rattle.std.proofs.Common.{rules}
use Rattle.pixel.specs.Channels.{at_most_255}
use Rattle.pixel.specs.Pixels.{merged, merged_by}
use Rattle.pixel.proofs.pixels.merge_pixel.Goals as goal

pub returns : goal.returns
unfolding merged merged_by at_most_255
returns c = search rules
