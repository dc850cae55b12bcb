-- What the code's values mean over the bytes that they were read from. Assumes nothing.
use Rattle.std.specs.Prelude.{ℕ, zero, suc, ◌+◌, ◌*◌, ◌<◌, ◌≤◌, List, [], ◌∷◌, length, take, drop, slice_index}
use Rattle.std.proofs.Props.{props}
use Rattle.page.specs.Edits as page
use Rattle.page.specs.Edits.{add_layer, drop_layer, choose_layer, raise_layer, set_mode, set_opacity, set_visible, merge_down, select_all, select_rect, select_similar, select_inverse, fill, stroke, apply_filter, copy, paste}
use Rattle.page.specs.Filters as filters
use Rattle.page.specs.Filters.{invert, curve, box_blur, edges}
use Rattle.page.specs.History as history
use Rattle.page.specs.History.{does, undo, redo}
use Rattle.codec.specs.declared.edits.Edit.{Edit}
use Rattle.codec.specs.declared.edits.Edit.TheVariants.{AddLayer, DropLayer, ChooseLayer, RaiseLayer, SetMode, SetOpacity, SetVisible, MergeDown, SelectAll, SelectRect, SelectSimilar, SelectInverse, Fill, Stroke, ApplyFilter, Copy, Paste}
use Rattle.codec.specs.declared.edits.Filter.{Filter}
use Rattle.codec.specs.declared.edits.Filter.TheVariants.{Invert, Curve, BoxBlur, Edges}
use Rattle.codec.specs.declared.edits.Turn.{Turn}
use Rattle.codec.specs.declared.edits.Turn.TheVariants.{Does, Undo, Redo}

-- the number that two bytes write, the low one first
abbrev pub two_at : List ℕ → ℕ → ℕ
two_at bs i = slice_index bs i + 256 * slice_index bs (i + 1)

-- n points from byte i on
abbrev pub points_at : List ℕ → ℕ → ℕ → List (ℕ × ℕ)
points_at bs i zero = []
points_at bs i (suc n) = (two_at bs i, two_at bs (i + 2)) ∷ points_at bs (i + 4) n

abbrev pub filter_of : List ℕ → Filter → filters.Filter
filter_of bs Invert = invert
filter_of bs (Curve start) = curve (take 256 (drop start bs))
filter_of bs (BoxBlur r) = box_blur r
filter_of bs Edges = edges

abbrev pub edit_of : List ℕ → Edit → page.Edit
edit_of bs AddLayer = add_layer
edit_of bs DropLayer = drop_layer
edit_of bs (ChooseLayer k) = choose_layer k
edit_of bs RaiseLayer = raise_layer
edit_of bs (SetMode m) = set_mode m
edit_of bs (SetOpacity a) = set_opacity a
edit_of bs (SetVisible b) = set_visible b
edit_of bs MergeDown = merge_down
edit_of bs SelectAll = select_all
edit_of bs (SelectRect r) = select_rect r.x r.y r.width r.height
edit_of bs (SelectSimilar n x y) = select_similar n x y
edit_of bs SelectInverse = select_inverse
edit_of bs (Fill d) = fill d
edit_of bs (Stroke d r start count) = stroke d r (points_at bs start count)
edit_of bs (ApplyFilter f) = apply_filter (filter_of bs f)
edit_of bs Copy = copy
edit_of bs (Paste x y) = paste x y

abbrev pub turn_of : List ℕ → Turn → history.Turn
turn_of bs (Does e) = does (edit_of bs e)
turn_of bs Undo = undo
turn_of bs Redo = redo

-- the bytes hold the points of a stroke and the numbers of a curve
abbrev pub FilterHeld : List ℕ → Filter → Type 0
FilterHeld bs Invert = Unit {0}
FilterHeld bs (Curve start) = start + 256 ≤ length bs
FilterHeld bs (BoxBlur r) = Unit {0}
FilterHeld bs Edges = Unit {0}

abbrev pub Held : List ℕ → Edit → Type 0
Held bs AddLayer = Unit {0}
Held bs DropLayer = Unit {0}
Held bs (ChooseLayer k) = Unit {0}
Held bs RaiseLayer = Unit {0}
Held bs (SetMode m) = Unit {0}
Held bs (SetOpacity a) = Unit {0}
Held bs (SetVisible b) = Unit {0}
Held bs MergeDown = Unit {0}
Held bs SelectAll = Unit {0}
Held bs (SelectRect r) = Unit {0}
Held bs (SelectSimilar n x y) = Unit {0}
Held bs SelectInverse = Unit {0}
Held bs (Fill d) = Unit {0}
Held bs (Stroke d r start count) = start + 4 * count ≤ length bs
Held bs (ApplyFilter f) = FilterHeld bs f
Held bs Copy = Unit {0}
Held bs (Paste x y) = Unit {0}

-- it is a fact and nothing more
filter_held_prop : (bs : List ℕ) (f : Filter) → IsProp (FilterHeld bs f)
filter_held_prop bs Invert = hlevel props
filter_held_prop bs (Curve start) = hlevel props
filter_held_prop bs (BoxBlur r) = hlevel props
filter_held_prop bs Edges = hlevel props

pub held_prop : (bs : List ℕ) (e : Edit) → IsProp (Held bs e)
held_prop bs AddLayer = hlevel props
held_prop bs DropLayer = hlevel props
held_prop bs (ChooseLayer k) = hlevel props
held_prop bs RaiseLayer = hlevel props
held_prop bs (SetMode m) = hlevel props
held_prop bs (SetOpacity a) = hlevel props
held_prop bs (SetVisible b) = hlevel props
held_prop bs MergeDown = hlevel props
held_prop bs SelectAll = hlevel props
held_prop bs (SelectRect r) = hlevel props
held_prop bs (SelectSimilar n x y) = hlevel props
held_prop bs SelectInverse = hlevel props
held_prop bs (Fill d) = hlevel props
held_prop bs (Stroke d r start count) = hlevel props
held_prop bs (ApplyFilter f) = filter_held_prop bs f
held_prop bs Copy = hlevel props
held_prop bs (Paste x y) = hlevel props

abbrev pub TurnHeld : List ℕ → Turn → Type 0
TurnHeld bs (Does e) = Held bs e
TurnHeld bs Undo = Unit {0}
TurnHeld bs Redo = Unit {0}

-- each is a byte, as in every slice of u8
abbrev pub Bytes : List ℕ → Type 0
Bytes bs = (k : ℕ) → slice_index bs k < 256
