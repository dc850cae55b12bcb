use Rattle.std.proofs.Common.{rules}
use Rattle.pixel.specs.Channels.{mixed}
use Rattle.pixel.proofs.channels.mix_of.Goals as goal

pub returns : goal.returns
unfolding mixed
returns c = search rules
