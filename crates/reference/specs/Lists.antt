-- Lists of edits over the bytes that hold their points and numbers, and the history that such a list is. Assumes nothing.
use Rattle.std.specs.Prelude.{◌≡◌, ℕ, ◌≤◌, true, List, [], map, length, take, drop}
use Rattle.page.specs.Edits as page
use Rattle.page.specs.History.{History, in_order}
use Rattle.page.specs.Fits.{Fits, kind}
use Rattle.codec.specs.declared.edits.Edit.{Edit}
use Rattle.codec.specs.Meaning.{edit_of}
use Rattle.codec.specs.Reach.{reach}
use Rattle.codec.specs.Kinds.{built}

-- what a list of edits means
abbrev pub meanings : List ℕ → List Edit → List page.Edit
meanings bs es = map (edit_of bs) es

-- an edit of a kind that there is, whose points or numbers lie in the bytes;
-- and bytes can carry it (between the bars, which make it a fact with one proof)
abbrev pub Good : List ℕ → Edit → Type 0
Good bs e = (built (kind (edit_of bs e)) ≡ true) × (reach e ≤ length bs) × ∥ Fits (edit_of bs e) ∥₁

-- the history: the first d edits are done, the rest undone
abbrev pub history_of : List ℕ → List Edit → ℕ → History
history_of bs es d = record { done = in_order (meanings bs (take d es)) []; undone = meanings bs (drop d es) }
