-- The page read off the canvas and the lent bytes, and what each operation on them leaves. Assumes nothing.
use Rattle.std.specs.Prelude.{◌≡◌, ℕ, ◌+◌, ◌*◌, ◌<◌, ◌≤◌, Bool, true, false, ◌&&◌, List, map, length, take, nat_le, nat_lt, slice_index, slice_index_or}
use Rattle.pixel.specs.declared.Pixel.{Pixel}
use Rattle.pixel.specs.declared.sizes.Size.{Size}
use Rattle.pixel.specs.declared.modes.Mode.TheVariants.{Normal}
use Rattle.pixel.specs.Pixels.{white}
use Rattle.pixel.specs.Modes.{mode_number}
use Rattle.pixel.specs.Bytes.{pixel_at, Wrote}
use Rattle.page.specs.Layers.{Layer, composite}
use Rattle.page.specs.Edits.{Page, Edit, edited, blank}
use Rattle.page.specs.Agree.{Agree}
use Rattle.canvas.specs.declared.state.Layer.{Layer as Entry}
use Rattle.canvas.specs.declared.state.Canvas.{Canvas}

-- the lent bytes have room for a page of this size
abbrev pub Room : Size → List ℕ → Type 0
Room z xs = 544 * (z.wide * z.high) ≤ length xs

-- where things lie, in a page of n pixels
abbrev pub plane_at : ℕ → ℕ → ℕ
plane_at n k = 4 * n * k

abbrev pub selection_at : ℕ → ℕ
selection_at n = 516 * n

abbrev pub clipboard_at : ℕ → ℕ
clipboard_at n = 517 * n

-- the entry of a new layer with a plane; and what an array's element reads as beyond its end
abbrev pub fresh : ℕ → Entry
fresh p = record { plane = p; mode = Normal; opacity = 255; visible = true }

abbrev pub no_entry : Entry
no_entry = record { plane = 0; mode = Normal; opacity = 0; visible = false }

-- a layer: its plane, row by row, and how it is laid
abbrev pub layer_of : ℕ → ℕ → List ℕ → Entry → Layer
layer_of w h xs l =
    record { pixels = λ i j. pixel_at xs (plane_at (w * h) l.plane + 4 * (j * w + i)); mode = mode_number l.mode; opacity = l.opacity; visible = l.visible }

abbrev pub layers_of : ℕ → ℕ → List ℕ → List Entry → List Layer
layers_of w h xs ls = map (layer_of w h xs) ls

-- THE PAGE that the canvas and the bytes mean
abbrev pub view : Canvas → List ℕ → Page
view s xs =
    record {
      wide = s.size.wide;
      high = s.size.high;
      layers = layers_of s.size.wide s.size.high xs (take s.count s.layers);
      active = s.active;
      selected = λ i j. slice_index xs (selection_at (s.size.wide * s.size.high) + (j * s.size.wide + i));
      clipboard = λ i j. pixel_at xs (clipboard_at (s.size.wide * s.size.high) + 4 * (j * s.size.wide + i));
    }

-- the page has a pixel in column x and row y, and lies wholly in n bytes
abbrev pub shows : Canvas → ℕ → ℕ → ℕ → Bool
shows s n x y = (nat_lt x s.size.wide && nat_lt y s.size.high) && nat_le (544 * (s.size.wide * s.size.high)) n

-- what is seen of the first k layers at a pixel
abbrev pub seen_below : Canvas → List ℕ → ℕ → ℕ → ℕ → Pixel
seen_below s xs k i j = composite (layers_of s.size.wide s.size.high xs (take k s.layers)) (λ x y. white) i j

-- a canvas of one layer, every plane with its own entry
pub record FreshCanvas (z : Size) (s : Canvas) : Type 0 where
  pub size_is : s.size ≡ z
  pub one_layer : s.count ≡ 1
  pub lowest : s.active ≡ 0
  pub own_planes : (k : ℕ) (d : Entry) → k < 64 → slice_index_or s.layers k d ≡ fresh k

-- the blank page: in bytes the first plane, the selection and the clipboard; all others stay
pub record BlankMade (z : Size) (xs ys : List ℕ) (s : Canvas) : Type 0 where
  pub canvas : FreshCanvas z s
  pub agrees : Agree (view s ys) (blank z.wide z.high)
  pub long : length ys ≡ length xs
  pub between : (q : ℕ) → 4 * (z.wide * z.high) ≤ q → q < selection_at (z.wide * z.high) → slice_index ys q ≡ slice_index xs q
  pub beyond : (q : ℕ) → 521 * (z.wide * z.high) ≤ q → slice_index ys q ≡ slice_index xs q

-- an edit of the selection: its bytes alone are written
pub record Reselected (s : Canvas) (e : Edit) (xs ys : List ℕ) : Type 0 where
  pub agrees : Agree (view s ys) (edited (view s xs) e)
  pub wrote : Wrote (selection_at (s.size.wide * s.size.high)) (clipboard_at (s.size.wide * s.size.high)) xs ys

-- an edit of the active layer's pixels: its plane alone is written
pub record PlaneEdited (s : Canvas) (e : Edit) (xs ys : List ℕ) : Type 0 where
  pub agrees : Agree (view s ys) (edited (view s xs) e)
  pub wrote :
      Wrote (plane_at (s.size.wide * s.size.high) (slice_index_or s.layers s.active no_entry).plane)
      (plane_at (s.size.wide * s.size.high) (slice_index_or s.layers s.active no_entry).plane + 4 * (s.size.wide * s.size.high)) xs ys
