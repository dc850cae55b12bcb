-- the tiles that the area meets are built, of the rows of tiles up to ty; and in a row, those up to column tx
use Rattle.std.proofs.Common.{◌<◌}
use Rattle.tiles.specs.Places.{BuiltWhere, InBand, Meets}
use Rattle.tiles.proofs.rebuilding.rebuild.Given as goal

abbrev pub invariant-loop-ty : goal.invariant-loop-ty
invariant-loop-ty l = BuiltWhere (λ x y. Meets l.area x y × (y < l.ty)) l.canvas l.initial.tiles l.tiles

abbrev pub invariant-loop-tx : goal.invariant-loop-tx
invariant-loop-tx l = BuiltWhere (InBand l.ty l.initial.tx l.tx) l.canvas l.initial.tiles l.tiles
