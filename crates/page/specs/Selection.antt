-- Which pixels a flood and a brush take. Assumes nothing.
use Rattle.std.specs.Prelude.{ℕ, zero, suc, ◌+◌, ◌*◌, Bool, false, if◌then◌else◌, ◌&&◌, ◌||◌, List, [], ◌∷◌, ◌==◌, nat_le, nat_lt}
use Rattle.page.specs.Layers.{Picture}
use Rattle.pixel.specs.Channels.{apart}
use Rattle.pixel.specs.Pixels.{similar}

-- whether r holds at a pixel or at one beside it
abbrev pub left_of : (ℕ → ℕ → Bool) → ℕ → ℕ → Bool
left_of r zero j = false
left_of r (suc i) j = r i j

abbrev pub above : (ℕ → ℕ → Bool) → ℕ → ℕ → Bool
above r i zero = false
above r i (suc j) = r i j

abbrev pub beside : (ℕ → ℕ → Bool) → ℕ → ℕ → Bool
beside r i j = r i j || (left_of r i j || (r (suc i) j || (above r i j || r i (suc j))))

-- flood selection in a picture of w by h: pixels similar to the one at x, y, joined to it by sides, reached within so many steps
unfoldable pub spread : Picture → ℕ → ℕ → ℕ → ℕ → ℕ → (ℕ → ℕ → Bool) → ℕ → ℕ → Bool
spread f w h n x y r i j = (nat_lt i w && nat_lt j h) && (similar n (f i j) (f x y) && beside r i j)

abbrev pub reached : Picture → ℕ → ℕ → ℕ → ℕ → ℕ → ℕ → ℕ → ℕ → Bool
reached f w h n x y zero = λ i j. (i == x) && j == y
reached f w h n x y (suc k) = spread f w h n x y (reached f w h n x y k)

-- a round brush of radius r around a point, and along a row of points
unfoldable pub under_brush : ℕ → ℕ × ℕ → ℕ → ℕ → Bool
under_brush r at i j = nat_le (apart i at.0 * apart i at.0 + apart j at.1 * apart j at.1) (r * r)

unfoldable pub under_stroke : ℕ → List (ℕ × ℕ) → ℕ → ℕ → Bool
under_stroke r [] i j = false
under_stroke r (a ∷ rest) i j = under_brush r a i j || under_stroke r rest i j

abbrev pub mask_of : Bool → ℕ
mask_of b = if b then 255 else 0
