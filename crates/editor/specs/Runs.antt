-- Whole runs: the editor with the memory that is lent to it, from the blank page on, by turns, and by files that are written and read again. Assumes nothing.
use Rattle.std.specs.Prelude.{◌≡◌, ℕ, ◌<◌, List, [], ◌∷◌, ◌++◌, length, take, Some, Ok, Option, Result}
use Rattle.pixel.specs.declared.Pixel.{Pixel}
use Rattle.page.specs.Edits.{seen}
use Rattle.page.specs.History.{Turn, page}
use Rattle.codec.specs.declared.edits.Refusal.{Refusal}
use Rattle.codec.specs.Laws.{TurnFits, TurnBuilt}
use Rattle.codec.specs.Written.{written_turn}
use Rattle.codec.specs.Read.{read_turn}
use Rattle.codec.specs.Files.{read_file}
use Rattle.tiles.specs.Places.{shown_at}
use Rattle.editor.specs.declared.state.Editor.{Editor}
use Rattle.editor.specs.Promises.{begin_refusal, BeginEnds, against, TurnEnds, write_refusal, WriteEnds, lengths, ReadEnds}

-- the slices that are lent: turns, tiles and files in bytes, work in words of 32 bits
pub record Lent : Type 0 where
  pub turns : List ℕ
  pub tiles : List ℕ
  pub work : List ℕ
  pub file : List ℕ

-- the editor with the slices that are lent to it
pub record Desk : Type 0 where
  pub editor : Editor
  pub turns : List ℕ
  pub tiles : List ℕ
  pub work : List ℕ
  pub file : List ℕ

-- THE CONTRACTS of the five functions, word for word, over desks: each says what it comes to, and with which answer
abbrev pub Begins : ℕ → ℕ → Lent → Desk → Result Editor Refusal → Type 0
Begins w h m d r =
    BeginEnds (begin_refusal w h (length m.tiles) (length m.work)) w h m.turns m.tiles m.work d.turns d.tiles d.work r

abbrev pub Takes : Desk → List ℕ → Desk → Result (Unit {0}) Refusal → Type 0
Takes d bs d' r =
    TurnEnds bs (read_turn bs (against d.editor (length d.turns) (length d.tiles) (length d.work))) d.editor d.turns d.tiles d.work
    d'.editor d'.turns d'.tiles d'.work r

abbrev pub shown : Desk → ℕ → ℕ → Option Pixel
shown d i j = shown_at d.editor.timeline.canvas d.tiles i j

abbrev pub Writes : Desk → List ℕ → List ℕ → Result ℕ Refusal → Type 0
Writes d file file' r = WriteEnds (write_refusal d.editor (length d.turns) (length file)) d.editor d.turns file file' r

abbrev pub Reads : List ℕ → Lent → Desk → Result Editor Refusal → Type 0
Reads bs m d r =
    ReadEnds bs (read_file bs (lengths m.turns m.tiles m.work)) m.turns m.tiles m.work d.turns d.tiles d.work r

-- THE DESKS THAT COME ABOUT on a page of w by h, and by which turns: begun in whatever was lent; one turn further; or written into whatever file slice,
-- and read again from it, in whatever is lent then. A turn that is refused leaves all as it was, so that it needs no step.
pub data Comes (w h : ℕ) : List Turn → Desk → Type 0 where
  begins : (m : Lent) (d : Desk) → Begins w h m d (Ok d.editor) → Comes w h [] d
  takes : (ts : List Turn) (t : Turn) (d d' : Desk) → Comes w h ts d → TurnFits t → TurnBuilt t → Takes d (written_turn t) d' (Ok tt) → Comes w h (ts ++ t ∷ []) d'
  reopens : (ts : List Turn) (d d' : Desk) (file file' : List ℕ) (n : ℕ) (m : Lent) →
      Comes w h ts d → Writes d file file' (Ok n) → Reads (take n file') m d' (Ok d'.editor) → Comes w h ts d'

-- THE MAIN THEOREM: what is shown at every pixel is what is seen there of the page that the turns come to
abbrev pub ShowsThePage : Type 0
ShowsThePage =
    (w h i j : ℕ) (ts : List Turn) (d : Desk) → Comes w h ts d → i < w → j < h → shown d i j ≡ Some (seen (page w h ts) i j)
