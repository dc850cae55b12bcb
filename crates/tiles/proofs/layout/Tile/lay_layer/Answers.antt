-- A layer of opacity 0 leaves every pixel as it is; alpha is a byte.
use Rattle.std.proofs.Common.{inl, inr}
use Rattle.tiles.proofs.Seeing.{laid_none}
use Rattle.tiles.proofs.layout.Tile.lay_layer.Goals as goal

pub returns-then-not-layer : goal.returns-then-not-layer
returns-then-not-layer c =
    laid_none c.args.layer c.args.self.now c.args.tiles.now c.type_inv.tiles (elim c.then-not-layer.either [ inl hidden ↦ inl hidden | inr clear ↦ inr clear.1 ])
