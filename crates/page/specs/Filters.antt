-- Filters of a picture of w by h. Assumes nothing.
use Rattle.std.specs.Prelude.{ℕ, zero, suc, ◌+◌, ◌-◌, ◌*◌, ◌/◌, min, if◌then◌else◌, List, ◌==◌, slice_index}
use Rattle.page.specs.Layers.{Picture}
use Rattle.pixel.specs.Channels.{apart, at_most_255}
use Rattle.pixel.specs.Pixels.{by_channels, channel_of}

pub data Filter : Type 0 where
  invert : Filter
  curve : List ℕ → Filter
  box_blur : ℕ → Filter
  edges : Filter

-- the mean over the square of pixels at most r away, as far as the page goes: sums of n pixels in a row, and of n rows
abbrev pub row_sum : (ℕ → ℕ) → ℕ → ℕ → ℕ
row_sum f a zero = 0
row_sum f a (suc n) = f a + row_sum f (suc a) n

abbrev pub square_sum : (ℕ → ℕ → ℕ) → ℕ → ℕ → ℕ → ℕ → ℕ
square_sum f x y w h = row_sum (λ j. row_sum (λ i. f i j) x w) y h

abbrev pub window_start : ℕ → ℕ → ℕ
window_start r a = a - r

abbrev pub window_size : ℕ → ℕ → ℕ → ℕ
window_size r a n = min (a + r + 1) n - (a - r)

unfoldable pub mean : (ℕ → ℕ → ℕ) → ℕ → ℕ → ℕ → ℕ → ℕ → ℕ
mean f r w h i j =
    square_sum f (window_start r i) (window_start r j) (window_size r i w) (window_size r j h) / (window_size r i w * window_size r j h)

-- how a channel changes from a pixel to the next on the right and to the next below
unfoldable pub change : (ℕ → ℕ → ℕ) → ℕ → ℕ → ℕ → ℕ → ℕ
change f w h i j = at_most_255 (apart (f i j) (f (min (suc i) (w - 1)) j) + apart (f i j) (f i (min (suc j) (h - 1))))

abbrev pub filtered : Filter → ℕ → ℕ → Picture → Picture
filtered invert w h f i j = record { red = 255 - (f i j).red; green = 255 - (f i j).green; blue = 255 - (f i j).blue; alpha = (f i j).alpha }
filtered (curve t) w h f i j =
    record { red = slice_index t (f i j).red; green = slice_index t (f i j).green; blue = slice_index t (f i j).blue; alpha = (f i j).alpha }
filtered (box_blur r) w h f i j = by_channels (λ k. mean (λ a b. channel_of k (f a b)) r w h i j)
filtered edges w h f i j = by_channels (λ k. if k == 3 then (f i j).alpha else change (λ a b. channel_of k (f a b)) w h i j)
