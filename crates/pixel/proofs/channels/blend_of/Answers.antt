-- What the mode makes is the definition at the mode's number.
use Rattle.std.proofs.Common.{rules}
use Rattle.pixel.specs.Channels.{blended, at_most_255}
use Rattle.pixel.proofs.channels.blend_of.Goals.{in-Normal, in-Multiply, in-Screen, in-Darken, in-Lighten, in-Add}
use Rattle.pixel.proofs.channels.blend_of.Goals as goal

pub returns : goal.returns
unfolding blended at_most_255
returns c = elim c.match-mode.branch [ in-Normal w ↦ search rules | in-Multiply w ↦ search rules | in-Screen w ↦ search rules | in-Darken w ↦ search rules | in-Lighten w ↦ search rules | in-Add w ↦ search rules ]
