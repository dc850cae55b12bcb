-- the tile is what is seen of the layers before
use Rattle.std.proofs.Common.{◌+◌}
use Rattle.canvas.specs.View.{seen_below}
use Rattle.tiles.specs.Laying.{TileTo}
use Rattle.tiles.proofs.layout.Tile.lay_layers.Given as goal

abbrev pub invariant-loop-layer : goal.invariant-loop-layer
invariant-loop-layer l = TileTo (λ c r. seen_below l.self.canvas.now l.initial.tiles l.layer-index (l.self.area.left + c) (l.self.area.top + r)) l.self l.initial.tiles l.tiles
