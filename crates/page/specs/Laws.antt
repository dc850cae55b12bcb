-- Laws of the definitions: statements, each asked for by a function of src/. Assumes nothing.
use Rattle.std.specs.Prelude.{◌≡◌, ℕ, ◌<◌, Bool, List, [], ◌∷◌, ◌++◌}
use Rattle.pixel.specs.declared.Pixel.{Pixel}
use Rattle.page.specs.Filters.{Filter}
use Rattle.page.specs.Edits.{Page, Edit, edited, seen, layer, fill, stroke, apply_filter, paste}
use Rattle.page.specs.History.{Turn, does, undo, redo, page}
use Rattle.page.specs.Fits.{AllFit}
use Rattle.pixel.specs.Pixels.{PixelFits}

-- undo brings back what was, exactly; redo what was undone
abbrev pub ThereAndBack : Type 0
ThereAndBack =
    (w h : ℕ) (ts : List Turn) (e : Edit) → (page w h (ts ++ does e ∷ undo ∷ []) ≡ page w h ts) × (page w h (ts ++ does e ∷ undo ∷ redo ∷ []) ≡ page w h (ts ++ does e ∷ []))

-- outside the selection an edit of pixels changes no pixel of any layer
abbrev pub OnlySelected : Type 0
OnlySelected =
    (p : Page) (i j k : ℕ) (d : Pixel) (r x y : ℕ) (ats : List (ℕ × ℕ)) (f : Filter) → p.selected i j ≡ 0 →
    ((layer (edited p (fill d)) k).pixels i j ≡ (layer p k).pixels i j) × ((layer (edited p (stroke d r ats)) k).pixels i j ≡ (layer p k).pixels i j)
    × ((layer (edited p (apply_filter f)) k).pixels i j ≡ (layer p k).pixels i j) × ((layer (edited p (paste x y)) k).pixels i j ≡ (layer p k).pixels i j)

-- a channel stays one, in what is seen, in every layer and in the clipboard
abbrev pub Colours : Type 0
Colours =
    (w h i j : ℕ) (built : ℕ → Bool) (ts : List Turn) → AllFit built ts → i < w → j < h →
    PixelFits (seen (page w h ts) i j) × ((k : ℕ) → PixelFits ((layer (page w h ts) k).pixels i j)) × PixelFits ((page w h ts).clipboard i j)
