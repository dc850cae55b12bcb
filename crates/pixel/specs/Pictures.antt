-- Pictures in bytes: rows of w pixels one after the other, from `at` on. Assumes nothing.
use Rattle.std.specs.Prelude.{◌≡◌, ℕ, ◌+◌, ◌-◌, ◌*◌, ◌<◌, ◌≤◌, if◌then◌else◌, List, length, ◌≢◌, slice_index}
use Rattle.pixel.specs.declared.Pixel.{Pixel}
use Rattle.pixel.specs.declared.areas.Area.{Area}
use Rattle.pixel.specs.Areas.{Within, InArea, inside, Around}
use Rattle.pixel.specs.Bytes.{pixel_at}

-- the pixel in column i and row j
abbrev pub picture_in : List ℕ → ℕ → ℕ → ℕ → ℕ → Pixel
picture_in xs at w i j = pixel_at xs (at + 4 * (j * w + i))

-- ys is xs with a picture of w by h from `at` on that is f, and every other byte kept
pub record PictureTo (f : ℕ → ℕ → Pixel) (at w h : ℕ) (xs ys : List ℕ) : Type 0 where
  pub long : length ys ≡ length xs
  pub written : (i j : ℕ) → i < w → j < h → picture_in ys at w i j ≡ f i j
  pub before : (q : ℕ) → q < at → slice_index ys q ≡ slice_index xs q
  pub after : (q : ℕ) → at + 4 * (w * h) ≤ q → slice_index ys q ≡ slice_index xs q

-- the same where only a part of the picture is written, and is g
abbrev pub RegionTo : (ℕ → ℕ → Pixel) → ℕ → ℕ → ℕ → Area → List ℕ → List ℕ → Type 0
RegionTo g at w h a xs ys = PictureTo (λ i j. if inside a i j then g i j else picture_in xs at w i j) at w h xs ys

-- two pictures differ at a pixel of a part
abbrev pub Differs : List ℕ → ℕ → ℕ → ℕ → Area → ℕ → ℕ → Type 0
Differs xs at by w a i j = InArea a i j × (picture_in xs at w i j ≢ picture_in xs by w i j)

-- r is the first of n places in which two rows of pixels differ, or n
pub record FirstUnlike (xs : List ℕ) (at by n r : ℕ) : Type 0 where
  pub few : r ≤ n
  pub alike : (k : ℕ) → k < r → pixel_at xs (at + 4 * k) ≡ pixel_at xs (by + 4 * k)
  pub unlike : r < n → pixel_at xs (at + 4 * r) ≢ pixel_at xs (by + 4 * r)

-- r is one past the last, or 0
pub record LastUnlike (xs : List ℕ) (at by n r : ℕ) : Type 0 where
  pub few : r ≤ n
  pub alike : (k : ℕ) → r ≤ k → k < n → pixel_at xs (at + 4 * k) ≡ pixel_at xs (by + 4 * k)
  pub unlike : 0 < r → pixel_at xs (at + 4 * (r - 1)) ≢ pixel_at xs (by + 4 * (r - 1))

-- a pixel of row j, one of the n from column `left` on, in which two rows of pixels differ
abbrev pub Unlike : List ℕ → ℕ → ℕ → ℕ → ℕ → ℕ → ℕ → ℕ → Type 0
Unlike xs at by left n row i j = Within left n i × (j ≡ row) × (pixel_at xs (at + 4 * (i - left)) ≢ pixel_at xs (by + 4 * (i - left)))

-- the smallest part around them lies in the row
pub record RowDiffers (xs : List ℕ) (at by left n row : ℕ) (r : Area) : Type 0 where
  pub around : Around (Unlike xs at by left n row) r
  pub within : r.left + r.wide ≤ left + n
  pub last : r.top + r.high ≤ row + 1
