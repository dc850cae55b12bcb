-- Pixels in bytes, and what a loop over pixels or bytes leaves. Assumes nothing.
use Rattle.std.specs.Prelude.{◌≡◌, ℕ, ◌+◌, ◌*◌, ◌<◌, ◌≤◌, List, length, slice_index, slice_set}
use Rattle.pixel.specs.declared.Pixel.{Pixel}

-- the pixel whose four bytes begin at `at`
abbrev pub pixel_at : List ℕ → ℕ → Pixel
pixel_at xs at = record { red = slice_index xs at; green = slice_index xs (at + 1); blue = slice_index xs (at + 2); alpha = slice_index xs (at + 3) }

abbrev pub put_pixel : List ℕ → ℕ → Pixel → List ℕ
put_pixel xs at p = slice_set (slice_set (slice_set (slice_set xs at p.red) (at + 1) p.green) (at + 2) p.blue) (at + 3) p.alpha

-- ys is xs with the n pixels from `at` on written, the k-th being f k, and every other byte kept: the invariant and the contract of each loop over pixels
pub record PixelsTo (f : ℕ → Pixel) (at n : ℕ) (xs ys : List ℕ) : Type 0 where
  pub long : length ys ≡ length xs
  pub written : (k : ℕ) → k < n → pixel_at ys (at + 4 * k) ≡ f k
  pub before : (q : ℕ) → q < at → slice_index ys q ≡ slice_index xs q
  pub after : (q : ℕ) → at + 4 * n ≤ q → slice_index ys q ≡ slice_index xs q

-- the same where the pixel that is written at a place is one that R allows of its mate, in the same place of the run from `from` on, and of the one that stood there
pub record PixelsBy (R : Pixel → Pixel → Pixel → Type 0) (from at n : ℕ) (xs ys : List ℕ) : Type 0 where
  pub long : length ys ≡ length xs
  pub written : (k : ℕ) → k < n → R (pixel_at xs (from + 4 * k)) (pixel_at xs (at + 4 * k)) (pixel_at ys (at + 4 * k))
  pub before : (q : ℕ) → q < at → slice_index ys q ≡ slice_index xs q
  pub after : (q : ℕ) → at + 4 * n ≤ q → slice_index ys q ≡ slice_index xs q

-- the same of single bytes
pub record BytesTo (f : ℕ → ℕ) (at n : ℕ) (xs ys : List ℕ) : Type 0 where
  pub long : length ys ≡ length xs
  pub written : (k : ℕ) → k < n → slice_index ys (at + k) ≡ f k
  pub before : (q : ℕ) → q < at → slice_index ys q ≡ slice_index xs q
  pub after : (q : ℕ) → at + n ≤ q → slice_index ys q ≡ slice_index xs q

-- ys is xs but for the bytes from a up to e
pub record Wrote (a e : ℕ) (xs ys : List ℕ) : Type 0 where
  pub long : length ys ≡ length xs
  pub before : (q : ℕ) → q < a → slice_index ys q ≡ slice_index xs q
  pub after : (q : ℕ) → e ≤ q → slice_index ys q ≡ slice_index xs q
