-- the first r rows are laid
use Rattle.std.proofs.Common.{◌+◌, ◌*◌}
use Rattle.pixel.specs.Modes.{mode_number}
use Rattle.pixel.specs.Pixels.{pixel_over}
use Rattle.pixel.specs.Bytes.{pixel_at}
use Rattle.tiles.specs.Grids.{GridTo}
use Rattle.tiles.specs.Laying.{tile_pixel}
use Rattle.tiles.proofs.layout.Tile.lay_rows.Given as goal

abbrev pub invariant-loop-r : goal.invariant-loop-r
invariant-loop-r l =
    GridTo (λ c r. pixel_over (mode_number l.layer.mode) l.layer.opacity (pixel_at l.initial.tiles (l.from + 4 * (r * l.wide) + 4 * c)) (tile_pixel l.self l.initial.tiles c r))
    l.self.at l.self.area.wide l.r l.initial.tiles l.tiles
