-- A whole row of turns, as the lines of a script say them: which are taken, and what is shown then. Assumes nothing.
use Rattle.std.specs.Prelude.{◌≡◌, ℕ, ◌+◌, ◌<◌, List, [], ◌∷◌, ◌++◌, length, Some, Ok, Err, Option, Result}
use Rattle.page.specs.Edits.{seen}
use Rattle.page.specs.History.{Turn, page}
use Rattle.codec.specs.declared.edits.Turn.{Turn as Read}
use Rattle.codec.specs.declared.edits.Refusal.{Refusal}
use Rattle.codec.specs.Meaning.{turn_of}
use Rattle.codec.specs.Read.{read_turn}
use Rattle.words.specs.Lines.{Says, blank, turn, unknown, understood}
use Rattle.words.specs.Script.{lines_of}
use Rattle.editor.specs.Promises.{pixels, against_next}
use Rattle.editor.specs.Runs.{Desk, Comes, shown}

-- the turns that lines say, by their bytes
abbrev pub with_line : Says → List (List ℕ) → List (List ℕ)
with_line blank rest = rest
with_line unknown rest = rest
with_line (turn bs) rest = bs ∷ rest

abbrev pub said_by : List (List ℕ) → List (List ℕ)
said_by [] = []
said_by (l ∷ ls) = with_line (understood l) (said_by ls)

-- of turns by their bytes those that are taken, after n others: each is taken or refused by itself
abbrev pub by_answer : Result Read Refusal → (Read → List Turn) → List Turn → List Turn
by_answer (Ok t) some none = some t
by_answer (Err f) some none = none

abbrev pub taken_of : (ℕ → Option Refusal) → ℕ → List (List ℕ) → List Turn
taken_of g n [] = []
taken_of g n (bs ∷ rest) = by_answer (read_turn bs (g n)) (λ t. turn_of bs t ∷ taken_of g (n + 1) rest) (taken_of g n rest)

-- the turns of a script that a desk takes
abbrev pub row : Desk → List ℕ → List Turn
row d script = taken_of (against_next (pixels d.editor) (length d.turns) (length d.tiles) (length d.work)) d.editor.taken (said_by (lines_of script))

-- THE MAIN THEOREM'S SENTENCE about a row of turns: where the desk came about by some turns, it comes about by those and then the row, and shows their page
pub record Ran (w h : ℕ) (ts : List Turn) (d' : Desk) : Type 0 where
  pub comes : Comes w h ts d'
  pub shows : (i j : ℕ) → i < w → j < h → shown d' i j ≡ Some (seen (page w h ts) i j)

abbrev pub RunsRow : List ℕ → Desk → Desk → Type 0
RunsRow script d d' = (w h : ℕ) (ts : List Turn) → Comes w h ts d → Ran w h (ts ++ row d script) d'
