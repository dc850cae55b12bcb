-- Layers laid on a tile. Assumes nothing.
use Rattle.std.specs.Prelude.{◌≡◌, ℕ, ◌+◌, ◌*◌, ◌<◌, ◌≤◌, List, length}
use Rattle.pixel.specs.declared.Pixel.{Pixel}
use Rattle.pixel.specs.Modes.{mode_number}
use Rattle.pixel.specs.Pixels.{white, pixel_over}
use Rattle.pixel.specs.Bytes.{pixel_at}
use Rattle.page.specs.Layers.{Layer, layer_over}
use Rattle.canvas.specs.declared.state.Layer.{Layer as Entry}
use Rattle.canvas.specs.View.{layer_of}
use Rattle.tiles.specs.declared.layout.Tile.{Tile}
use Rattle.tiles.specs.Grids.{GridTo}

-- the tile lies within the bytes
abbrev pub LiesIn : Tile → List ℕ → Type 0
LiesIn t xs = t.at + 4 * (t.area.high * t.area.wide) ≤ length xs

-- the pixel in column c and row r of the tile
abbrev pub tile_pixel : Tile → List ℕ → ℕ → ℕ → Pixel
tile_pixel t xs c r = pixel_at xs (t.at + 4 * (r * t.area.wide + c))

abbrev pub White : Tile → List ℕ → Type 0
White t xs = (c r : ℕ) → c < t.area.wide → r < t.area.high → tile_pixel t xs c r ≡ white

-- ys is xs with the tile's pixels written, column c of row r being f c r, and every other byte kept
abbrev pub TileTo : (ℕ → ℕ → Pixel) → Tile → List ℕ → List ℕ → Type 0
TileTo f t xs ys = GridTo f t.at t.area.wide t.area.high xs ys

-- the layer that an entry of the tile's canvas means
abbrev pub layer_in : Tile → List ℕ → Entry → Layer
layer_in t xs e = layer_of t.canvas.now.size.wide t.canvas.now.size.high xs e

-- a layer laid on the tile, and the same as far as it is visible
abbrev pub Over : Entry → Tile → List ℕ → List ℕ → Type 0
Over e t xs ys = TileTo (λ c r. pixel_over (mode_number e.mode) e.opacity ((layer_in t xs e).pixels (t.area.left + c) (t.area.top + r)) (tile_pixel t xs c r)) t xs ys

abbrev pub Laid : Entry → Tile → List ℕ → List ℕ → Type 0
Laid e t xs ys = TileTo (λ c r. layer_over (layer_in t xs e) (t.area.left + c) (t.area.top + r) (tile_pixel t xs c r)) t xs ys
