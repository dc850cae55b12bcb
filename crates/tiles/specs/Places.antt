-- Where the tiles lie, what it is that tiles are built, and what they show. Assumes nothing.
-- THE LAYOUT. Of a page of w by h pixels, n in all, what is seen takes the bytes from 512 n up to 516 n, four to a pixel: behind the planes, before the selection.
-- The page is cut into bands of 32 rows (the last may have fewer), which lie one after the other.
-- A band is cut into tiles of 32 columns (the last may have fewer), which lie one after the other, and a tile's rows lie one after the other.
-- So tile (tx, ty), t rows high, begins at 512 n + 4 (32 ty w + 32 tx t).
use Rattle.std.specs.Prelude.{◌≡◌, ℕ, ◌+◌, ◌-◌, ◌*◌, ◌/◌, ◌%◌, ◌<◌, ◌≤◌, min, if◌then◌else◌, List, length, Some, None, Option}
use Rattle.pixel.specs.declared.Pixel.{Pixel}
use Rattle.pixel.specs.declared.areas.Area.{Area}
use Rattle.pixel.specs.Bytes.{pixel_at, Wrote}
use Rattle.pixel.specs.Areas.{InArea}
use Rattle.page.specs.Edits.{Page, seen}
use Rattle.canvas.specs.declared.state.Canvas.{Canvas}
use Rattle.canvas.specs.View.{view, selection_at, shows}
use Rattle.tiles.specs.Grids.{GridTo}

-- where what is seen begins, in a page of n pixels; it ends where the selection begins
abbrev pub seen_from : ℕ → ℕ
seen_from n = 512 * n

-- the part of the page that a tile shows, by its column and row of tiles
abbrev pub tile_of : ℕ → ℕ → ℕ → ℕ → Area
tile_of w h tx ty = record { left = 32 * tx; top = 32 * ty; wide = min (w - 32 * tx) 32; high = min (h - 32 * ty) 32 }

-- where a tile begins: past the bands above it, and the tiles to its left
abbrev pub begins : ℕ → ℕ → Area → ℕ
begins w h a = seen_from (w * h) + 4 * (a.top * w + a.left * a.high)

-- where a pixel of the page lies: in its tile, by its row and column there
abbrev pub place : ℕ → ℕ → ℕ → ℕ → ℕ
place w h i j = begins w h (tile_of w h (i / 32) (j / 32)) + 4 * (j % 32 * (tile_of w h (i / 32) (j / 32)).wide + i % 32)

-- ys is xs with what is seen of a part of the page written from `at` on, row by row, and every other byte kept
abbrev pub SeenTo : Canvas → Area → ℕ → List ℕ → List ℕ → Type 0
SeenTo s a at xs ys = GridTo (λ c r. seen (view s xs) (a.left + c) (a.top + r)) at a.wide a.high xs ys

-- ys is xs with a tile built: its pixels are what is seen of the page, and every other byte is kept
abbrev pub TileBuilt : Canvas → Area → List ℕ → List ℕ → Type 0
TileBuilt s a xs ys = SeenTo s a (begins s.size.wide s.size.high a) xs ys

-- ys is xs with the tiles built of which D holds, by column and row of tiles: their pixels are what is seen of the page; every other tile, and every byte outside the tiles, is kept
pub record BuiltWhere (D : ℕ → ℕ → Type 0) (s : Canvas) (xs ys : List ℕ) : Type 0 where
  pub wrote : Wrote (seen_from (s.size.wide * s.size.high)) (selection_at (s.size.wide * s.size.high)) xs ys
  pub built : (i j : ℕ) → i < s.size.wide → j < s.size.high → D (i / 32) (j / 32) → pixel_at ys (place s.size.wide s.size.high i j) ≡ seen (view s xs) i j
  pub kept :
      (i j : ℕ) → i < s.size.wide → j < s.size.high → (D (i / 32) (j / 32) → ⊥) → pixel_at ys (place s.size.wide s.size.high i j) ≡ pixel_at xs (place s.size.wide s.size.high i j)

-- along one side: the k-th 32 columns (or rows) begin before the n from `first` on end, and end behind where they begin
abbrev pub Overlaps : ℕ → ℕ → ℕ → Type 0
Overlaps first n k = (first < 32 * k + 32) × (32 * k < first + n)

-- a tile, by its column and row of tiles, and a part of the page meet
abbrev pub Meets : Area → ℕ → ℕ → Type 0
Meets a tx ty = Overlaps a.left a.wide tx × Overlaps a.top a.high ty

-- a tile is in a row of tiles, from column `first` on, up to column n
abbrev pub InBand : ℕ → ℕ → ℕ → ℕ → ℕ → Type 0
InBand row first n tx ty = (ty ≡ row) × ((first ≤ tx) × (tx < n))

-- the tiles show what is seen of the page p
abbrev pub Shown : Canvas → Page → List ℕ → Type 0
Shown s p xs = (i j : ℕ) → i < s.size.wide → j < s.size.high → pixel_at xs (place s.size.wide s.size.high i j) ≡ seen p i j

-- nothing that is seen differs outside a part of the page
abbrev pub OnlyIn : Area → Page → Page → Type 0
OnlyIn a p q = (i j : ℕ) → i < q.wide → j < q.high → (InArea a i j → ⊥) → seen p i j ≡ seen q i j

-- ys is xs with every tile built: they show the page, and every byte outside the tiles is kept
pub record AllBuilt (s : Canvas) (xs ys : List ℕ) : Type 0 where
  pub shown : Shown s (view s ys) ys
  pub wrote : Wrote (seen_from (s.size.wide * s.size.high)) (selection_at (s.size.wide * s.size.high)) xs ys

-- the pixel that the tiles show, of a page that lies wholly in the bytes
abbrev pub shown_at : Canvas → List ℕ → ℕ → ℕ → Option Pixel
shown_at s xs x y = if shows s (length xs) x y then Some (pixel_at xs (place s.size.wide s.size.high x y)) else None
