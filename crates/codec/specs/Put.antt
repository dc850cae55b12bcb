-- Bytes put into others, and what the writer puts. Assumes nothing.
use Rattle.std.specs.Prelude.{ℕ, ◌+◌, ◌-◌, ◌*◌, if◌then◌else◌, List, [], ◌∷◌, ◌++◌, map, length, take, drop, Ok, Err, Result, nat_le}
use Rattle.codec.specs.declared.edits.Edit.{Edit}
use Rattle.codec.specs.declared.file.File.{File as Head}
use Rattle.codec.specs.declared.listing.Listing.{Listing}
use Rattle.codec.specs.declared.edits.Edit.TheVariants.{AddLayer, DropLayer, ChooseLayer, RaiseLayer, SetMode, SetOpacity, SetVisible, MergeDown, SelectAll, SelectRect, SelectSimilar, SelectInverse, Fill, Stroke, ApplyFilter, Copy, Paste}
use Rattle.codec.specs.declared.edits.Filter.{Filter}
use Rattle.codec.specs.declared.edits.Filter.TheVariants.{Invert, Curve, BoxBlur, Edges}
use Rattle.codec.specs.declared.edits.Lent.TheVariants.{File}
use Rattle.codec.specs.declared.edits.Refusal.{Refusal}
use Rattle.codec.specs.declared.edits.Refusal.TheVariants.{Short}
use Rattle.codec.specs.Written.{two, four, flag}
use Rattle.codec.specs.Meaning.{edit_of}
use Rattle.codec.specs.Files.{file_written}

-- ys in xs from `at` on
abbrev pub put_at : List ℕ → ℕ → List ℕ → List ℕ
put_at xs at ys = take at xs ++ (ys ++ drop (at + length ys) xs)

-- what stands before the points of a stroke or the numbers of a curve
abbrev pub filter_head : Filter → List ℕ
filter_head Invert = 14 ∷ 0 ∷ []
filter_head (Curve start) = 14 ∷ 1 ∷ []
filter_head (BoxBlur r) = 14 ∷ 2 ∷ r ∷ []
filter_head Edges = 14 ∷ 3 ∷ []

abbrev pub head_of : Edit → List ℕ
head_of AddLayer = 0 ∷ []
head_of DropLayer = 1 ∷ []
head_of (ChooseLayer k) = 2 ∷ k ∷ []
head_of RaiseLayer = 3 ∷ []
head_of (SetMode m) = 4 ∷ m ∷ []
head_of (SetOpacity a) = 5 ∷ two a
head_of (SetVisible b) = 6 ∷ flag b ∷ []
head_of MergeDown = 7 ∷ []
head_of SelectAll = 8 ∷ []
head_of (SelectRect r) = 9 ∷ (two r.x ++ (two r.y ++ (two r.width ++ two r.height)))
head_of (SelectSimilar n x y) = 10 ∷ n ∷ (two x ++ two y)
head_of SelectInverse = 11 ∷ []
head_of (Fill d) = 12 ∷ four d
head_of (Stroke d r start count) = 13 ∷ (four d ++ (r ∷ two count))
head_of (ApplyFilter f) = filter_head f
head_of Copy = 15 ∷ []
head_of (Paste x y) = 16 ∷ (two x ++ two y)

abbrev pub filter_tail : List ℕ → Filter → List ℕ
filter_tail bs Invert = []
filter_tail bs (Curve start) = take 256 (drop start bs)
filter_tail bs (BoxBlur r) = []
filter_tail bs Edges = []

abbrev pub tail_of : List ℕ → Edit → List ℕ
tail_of bs AddLayer = []
tail_of bs DropLayer = []
tail_of bs (ChooseLayer k) = []
tail_of bs RaiseLayer = []
tail_of bs (SetMode m) = []
tail_of bs (SetOpacity a) = []
tail_of bs (SetVisible b) = []
tail_of bs MergeDown = []
tail_of bs SelectAll = []
tail_of bs (SelectRect r) = []
tail_of bs (SelectSimilar n x y) = []
tail_of bs SelectInverse = []
tail_of bs (Fill d) = []
tail_of bs (Stroke d r start count) = take (4 * count) (drop start bs)
tail_of bs (ApplyFilter f) = filter_tail bs f
tail_of bs Copy = []
tail_of bs (Paste x y) = []

-- the file of some edits, the first so many of which are done, over the bytes that they were read from
abbrev pub file_of : List ℕ → ℕ → ℕ → List Edit → ℕ → List ℕ
file_of bs w h edits done = file_written w h (map (edit_of bs) (take done edits)) (map (edit_of bs) (drop done edits))

abbrev pub file_listed : Listing → List ℕ
file_listed l = file_of l.source.now l.width l.height l.edits.now l.done

-- what stands in it before the edits
abbrev pub listed_head : Listing → Head
listed_head l = record { width = l.width; height = l.height; done = l.done; undone = length l.edits.now - l.done }

-- what is lent for it
abbrev pub file_room : List Edit → ℕ
file_room edits = 16 + 8192 * length edits

-- what the bytes are after it is written, and what the writer says: nothing is written where too little is lent
abbrev pub file_put : List ℕ → List ℕ → List Edit → List ℕ
file_put out file edits = if nat_le (file_room edits) (length out) then put_at out 0 file else out

abbrev pub file_answer : List ℕ → List ℕ → List Edit → Result ℕ Refusal
file_answer out file edits = if nat_le (file_room edits) (length out) then Ok (length file) else Err (Short File)
