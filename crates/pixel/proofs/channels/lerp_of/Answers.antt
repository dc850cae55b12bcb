use Rattle.std.proofs.Common.{rules}
use Rattle.pixel.specs.Channels.{lerp}
use Rattle.pixel.proofs.channels.lerp_of.Goals as goal

pub returns : goal.returns
unfolding lerp
returns c = search rules
