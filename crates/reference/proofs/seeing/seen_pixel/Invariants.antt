-- what is seen of the layers before
use Rattle.std.proofs.Common.{◌≡◌}
use Rattle.canvas.specs.View.{seen_below}
use Rattle.reference.proofs.seeing.seen_pixel.Given as goal

abbrev pub invariant-loop-layer : goal.invariant-loop-layer
invariant-loop-layer l = l.seen ≡ seen_below l.canvas l.tiles l.layer-index l.x l.y
