-- The bytes that write an edit and a turn, numbers low byte first. Assumes nothing.
use Rattle.std.specs.Prelude.{ℕ, ◌/◌, ◌%◌, Bool, if◌then◌else◌, List, [], ◌∷◌, ◌++◌, length}
use Rattle.pixel.specs.declared.Pixel.{Pixel}
use Rattle.page.specs.Edits as page
use Rattle.page.specs.Edits.{add_layer, drop_layer, choose_layer, raise_layer, set_mode, set_opacity, set_visible, merge_down, select_all, select_rect, select_similar, select_inverse, fill, stroke, apply_filter, copy, paste}
use Rattle.page.specs.Filters as filters
use Rattle.page.specs.Filters.{invert, curve, box_blur, edges}
use Rattle.page.specs.History as history
use Rattle.page.specs.History.{does, undo, redo}

abbrev pub two : ℕ → List ℕ
two x = x % 256 ∷ x / 256 ∷ []

abbrev pub four : Pixel → List ℕ
four d = d.red ∷ d.green ∷ d.blue ∷ d.alpha ∷ []

abbrev pub points : List (ℕ × ℕ) → List ℕ
points [] = []
points (a ∷ ats) = two a.0 ++ (two a.1 ++ points ats)

abbrev pub flag : Bool → ℕ
flag b = if b then 1 else 0

abbrev pub filter_written : filters.Filter → List ℕ
filter_written invert = 0 ∷ []
filter_written (curve t) = 1 ∷ t
filter_written (box_blur r) = 2 ∷ r ∷ []
filter_written edges = 3 ∷ []

abbrev pub written : page.Edit → List ℕ
written add_layer = 0 ∷ []
written drop_layer = 1 ∷ []
written (choose_layer k) = 2 ∷ k ∷ []
written raise_layer = 3 ∷ []
written (set_mode m) = 4 ∷ m ∷ []
written (set_opacity a) = 5 ∷ two a
written (set_visible b) = 6 ∷ flag b ∷ []
written merge_down = 7 ∷ []
written select_all = 8 ∷ []
written (select_rect x y w h) = 9 ∷ (two x ++ (two y ++ (two w ++ two h)))
written (select_similar n x y) = 10 ∷ n ∷ (two x ++ two y)
written select_inverse = 11 ∷ []
written (fill d) = 12 ∷ four d
written (stroke d r ats) = 13 ∷ (four d ++ (r ∷ (two (length ats) ++ points ats)))
written (apply_filter f) = 14 ∷ filter_written f
written copy = 15 ∷ []
written (paste x y) = 16 ∷ (two x ++ two y)

abbrev pub written_turn : history.Turn → List ℕ
written_turn (does e) = written e
written_turn undo = 17 ∷ []
written_turn redo = 18 ∷ []
