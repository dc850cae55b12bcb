-- What a loop over rows of pixels leaves. Assumes nothing.
use Rattle.std.specs.Prelude.{◌≡◌, ℕ, ◌+◌, ◌*◌, ◌<◌, List}
use Rattle.pixel.specs.declared.Pixel.{Pixel}
use Rattle.pixel.specs.Bytes.{pixel_at, Wrote}

-- ys is xs with h rows of w pixels written from `at` on, one row after the other, column c of row r being f c r, and every other byte kept
pub record GridTo (f : ℕ → ℕ → Pixel) (at w h : ℕ) (xs ys : List ℕ) : Type 0 where
  pub wrote : Wrote at (at + 4 * (h * w)) xs ys
  pub written : (c r : ℕ) → c < w → r < h → pixel_at ys (at + 4 * (r * w + c)) ≡ f c r
