-- The kinds of edits that there are, and those that are built yet: one place, for code and contracts. Assumes nothing.
use Rattle.std.specs.Prelude.{◌≡◌, ℕ, ◌<◌, Bool, ◌||◌, List, ◌++◌, codes, decimal, ◌==◌, Result, MatchResult, nat_lt}
use Rattle.codec.specs.declared.kinds.Kind.{Kind}
use Rattle.codec.specs.declared.kinds.Kind.TheVariants.{AddLayer, DropLayer, ChooseLayer, RaiseLayer, SetMode, SetOpacity, SetVisible, MergeDown, SelectAll, SelectRect, SelectSimilar, SelectInverse, Fill, Stroke, ApplyFilter, Copy, Paste}
use Rattle.codec.specs.declared.kinds.FilterKind.{FilterKind}
use Rattle.codec.specs.declared.kinds.FilterKind.TheVariants.{Invert, Curve, BoxBlur, Edges}
use Rattle.codec.specs.declared.kinds.UnknownKind.{UnknownKind}

-- those of the layers; select all, a rectangle, the inverse; fill
abbrev pub built : ℕ → Bool
built k = nat_lt k 10 || (k == 11 || k == 12)

-- the byte that writes a kind
abbrev pub kind_number : Kind → ℕ
kind_number AddLayer = 0
kind_number DropLayer = 1
kind_number ChooseLayer = 2
kind_number RaiseLayer = 3
kind_number SetMode = 4
kind_number SetOpacity = 5
kind_number SetVisible = 6
kind_number MergeDown = 7
kind_number SelectAll = 8
kind_number SelectRect = 9
kind_number SelectSimilar = 10
kind_number SelectInverse = 11
kind_number Fill = 12
kind_number Stroke = 13
kind_number ApplyFilter = 14
kind_number Copy = 15
kind_number Paste = 16

-- the kind that a byte writes, or that byte where it writes none
abbrev pub KindOf : ℕ → Result Kind UnknownKind → Type 0
KindOf byte r = MatchResult r (λ k. kind_number k ≡ byte) (λ e. (e.0 ≡ byte) × (16 < byte))

-- the same of filters
abbrev pub filter_number : FilterKind → ℕ
filter_number Invert = 0
filter_number Curve = 1
filter_number BoxBlur = 2
filter_number Edges = 3

abbrev pub FilterKindOf : ℕ → Result FilterKind UnknownKind → Type 0
FilterKindOf byte r = MatchResult r (λ k. filter_number k ≡ byte) (λ e. (e.0 ≡ byte) × (3 < byte))

-- what is said of a byte that writes no kind
abbrev pub unknown_text : UnknownKind → List ℕ
unknown_text e = codes "no kind has the number " ++ decimal e.0
