-- Where the points of a stroke and the numbers of a curve end in the bytes that hold them. Assumes nothing.
use Rattle.std.specs.Prelude.{ℕ, ◌+◌, ◌*◌}
use Rattle.codec.specs.declared.edits.Edit.{Edit}
use Rattle.codec.specs.declared.edits.Edit.TheVariants.{AddLayer, DropLayer, ChooseLayer, RaiseLayer, SetMode, SetOpacity, SetVisible, MergeDown, SelectAll, SelectRect, SelectSimilar, SelectInverse, Fill, Stroke, ApplyFilter, Copy, Paste}
use Rattle.codec.specs.declared.edits.Filter.{Filter}
use Rattle.codec.specs.declared.edits.Filter.TheVariants.{Invert, Curve, BoxBlur, Edges}

abbrev pub filter_reach : Filter → ℕ
filter_reach Invert = 0
filter_reach (Curve start) = start + 256
filter_reach (BoxBlur r) = 0
filter_reach Edges = 0

abbrev pub reach : Edit → ℕ
reach AddLayer = 0
reach DropLayer = 0
reach (ChooseLayer k) = 0
reach RaiseLayer = 0
reach (SetMode m) = 0
reach (SetOpacity a) = 0
reach (SetVisible b) = 0
reach MergeDown = 0
reach SelectAll = 0
reach (SelectRect r) = 0
reach (SelectSimilar n x y) = 0
reach SelectInverse = 0
reach (Fill d) = 0
reach (Stroke d r start count) = start + 4 * count
reach (ApplyFilter f) = filter_reach f
reach Copy = 0
reach (Paste x y) = 0
