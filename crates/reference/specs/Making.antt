-- What the plain engine makes of a list of edits. Assumes nothing.
use Rattle.std.specs.Prelude.{◌≡◌, ℕ, ◌<◌, if◌then◌else◌, List, length, Some, None, Option}
use Rattle.pixel.specs.declared.Pixel.{Pixel}
use Rattle.pixel.specs.declared.sizes.Size.{Size}
use Rattle.page.specs.Edits as page
use Rattle.page.specs.Edits.{blank, after, seen}
use Rattle.page.specs.Agree.{Agree}
use Rattle.canvas.specs.declared.state.Canvas.{Canvas}
use Rattle.canvas.specs.View.{view, shows}

-- everything made anew from the blank page
pub record Replayed (z : Size) (es : List page.Edit) (xs ys : List ℕ) (s : Canvas) : Type 0 where
  pub size_is : s.size ≡ z
  pub agrees : Agree (view s ys) (after (blank z.wide z.high) es)
  pub long : length ys ≡ length xs
  pub shows : (i j : ℕ) → i < z.wide → j < z.high → seen (view s ys) i j ≡ seen (after (blank z.wide z.high) es) i j

-- what is seen at a pixel, of a page that lies wholly in the bytes
abbrev pub seen_at : Canvas → List ℕ → ℕ → ℕ → Option Pixel
seen_at s xs i j = if shows s (length xs) i j then Some (seen (view s xs) i j) else None
