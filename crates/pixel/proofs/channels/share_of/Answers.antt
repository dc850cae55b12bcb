use Rattle.std.proofs.Common.{rules}
use Rattle.pixel.specs.Channels.{share}
use Rattle.pixel.proofs.channels.share_of.Goals as goal

pub returns : goal.returns
unfolding share
returns c = search rules
