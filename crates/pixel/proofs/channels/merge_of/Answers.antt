use Rattle.std.proofs.Common.{rules}
use Rattle.pixel.specs.Channels.{merged_channel, at_most_255}
use Rattle.pixel.proofs.channels.merge_of.Goals as goal

pub returns-then-both-eq0 : goal.returns-then-both-eq0
unfolding merged_channel at_most_255
returns-then-both-eq0 c = search rules

pub returns : goal.returns
unfolding merged_channel at_most_255
returns c = search rules
