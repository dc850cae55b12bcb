-- Rows of bytes, and the part of a row that a rectangle takes. Assumes nothing.
use Rattle.std.specs.Prelude.{◌≡◌, ℕ, ◌+◌, ◌*◌, ◌<◌, ◌≤◌, Bool, ◌&&◌, List, length, nat_le, nat_lt, slice_index}
use Rattle.codec.specs.declared.edits.Rect.{Rect}

abbrev pub in_span : ℕ → ℕ → ℕ → Bool
in_span first last i = nat_le first i && nat_lt i last

abbrev pub in_rect : Rect → ℕ → ℕ → Bool
in_rect r i j = in_span r.x (r.x + r.width) i && in_span r.y (r.y + r.height) j

-- in row j of a page w across the rectangle takes the columns from `first` up to `last`
pub record RowSpan (r : Rect) (w j first last : ℕ) : Type 0 where
  pub forward : first ≤ last
  pub within : last ≤ w
  pub same : (i : ℕ) → i < w → in_span first last i ≡ in_rect r i j

-- ys is xs with h rows of w bytes written from `at` on, column i of row j being f i j, and every other byte kept
pub record RowsTo (f : ℕ → ℕ → ℕ) (at w h : ℕ) (xs ys : List ℕ) : Type 0 where
  pub long : length ys ≡ length xs
  pub written : (i j : ℕ) → i < w → j < h → slice_index ys (at + (j * w + i)) ≡ f i j
  pub before : (q : ℕ) → q < at → slice_index ys q ≡ slice_index xs q
  pub after : (q : ℕ) → at + h * w ≤ q → slice_index ys q ≡ slice_index xs q
