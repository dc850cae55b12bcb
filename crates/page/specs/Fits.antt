-- Which edits bytes can carry, and their kinds. Assumes nothing.
use Rattle.std.specs.Prelude.{◌≡◌, ℕ, ◌<◌, ◌≤◌, Bool, true, List, [], ◌∷◌, length, slice_index, slice_index_or}
use Rattle.page.specs.Filters.{Filter, invert, curve, box_blur, edges}
use Rattle.page.specs.Edits.{Edit, add_layer, drop_layer, choose_layer, raise_layer, set_mode, set_opacity, set_visible, merge_down, select_all, select_rect, select_similar, select_inverse, fill, stroke, apply_filter, copy, paste}
use Rattle.page.specs.History.{Turn, does, undo, redo}
use Rattle.pixel.specs.Channels.{Channel}
use Rattle.pixel.specs.Pixels.{PixelFits}

abbrev pub FilterFits : Filter → Type 0
FilterFits invert = Unit {0}
FilterFits (curve t) = (length t ≡ 256) × ((k : ℕ) → Channel (slice_index t k))
FilterFits (box_blur r) = r ≤ 64
FilterFits edges = Unit {0}

abbrev pub Fits : Edit → Type 0
Fits add_layer = Unit {0}
Fits drop_layer = Unit {0}
Fits (choose_layer k) = k < 256
Fits raise_layer = Unit {0}
Fits (set_mode m) = m < 256
Fits (set_opacity a) = a < 65536
Fits (set_visible b) = Unit {0}
Fits merge_down = Unit {0}
Fits select_all = Unit {0}
Fits (select_rect x y w h) = (x < 65536) × (y < 65536) × (w < 65536) × (h < 65536)
Fits (select_similar n x y) = Channel n × (x < 65536) × (y < 65536)
Fits select_inverse = Unit {0}
Fits (fill d) = PixelFits d
Fits (stroke d r ats) = PixelFits d × (r ≤ 255) × (length ats ≤ 1024) × ((k : ℕ) → k < length ats → ((slice_index_or ats k (0, 0)).0 < 65536) × ((slice_index_or ats k (0, 0)).1 < 65536))
Fits (apply_filter f) = FilterFits f
Fits copy = Unit {0}
Fits (paste x y) = (x < 65536) × (y < 65536)

-- the number of an edit's kind
unfoldable pub kind : Edit → ℕ
kind add_layer = 0
kind drop_layer = 1
kind (choose_layer k) = 2
kind raise_layer = 3
kind (set_mode m) = 4
kind (set_opacity a) = 5
kind (set_visible b) = 6
kind merge_down = 7
kind select_all = 8
kind (select_rect x y w h) = 9
kind (select_similar n x y) = 10
kind select_inverse = 11
kind (fill d) = 12
kind (stroke d r ats) = 13
kind (apply_filter f) = 14
kind copy = 15
kind (paste x y) = 16

-- turns that bytes can carry, of kinds that are built
abbrev pub AllFit : (ℕ → Bool) → List Turn → Type 0
AllFit built [] = Unit {0}
AllFit built (does e ∷ ts) = Fits e × (built (kind e) ≡ true) × AllFit built ts
AllFit built (undo ∷ ts) = AllFit built ts
AllFit built (redo ∷ ts) = AllFit built ts
