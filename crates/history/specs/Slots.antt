-- The history read off the slots of the turns. Assumes nothing.
-- Slot k begins at 8192 k with an edit's bytes. The first slots hold the done edits, from the first; the undone ones, the next to redo first, are behind them.
use Rattle.std.specs.Prelude.{◌≡◌, ℕ, zero, suc, ◌*◌, ◌≤◌, List, [], ◌∷◌, length, drop, ◌≢◌}
use Rattle.std.specs.List.{All}
use Rattle.pixel.specs.declared.sizes.Size.{Size}
use Rattle.page.specs.Edits.{Page, Edit, blank, after}
use Rattle.page.specs.Fits.{Fits}
use Rattle.page.specs.History.{History, in_order}
use Rattle.page.specs.Agree.{Agree}
use Rattle.codec.specs.Files.{all_written, Built}
use Rattle.codec.specs.Laws.{EditBytes}
use Rattle.codec.specs.Meaning.{edit_of}
use Rattle.codec.specs.Read.{edit_and_end}
use Rattle.canvas.specs.declared.state.Canvas.{Canvas}
use Rattle.canvas.specs.View.{view}
use Rattle.canvas.specs.Applying.{known}
use Rattle.tiles.specs.Places.{Shown}

abbrev pub slot_at : ℕ → ℕ
slot_at k = 8192 * k

-- the turns are long enough for the first n slots
abbrev pub Slots : ℕ → List ℕ → Type 0
Slots n turns = 8192 * n ≤ length turns

-- the edit in a slot; where none of a kind that there is stands there, one that changes nothing
abbrev pub slot_edit : List ℕ → ℕ → Edit
slot_edit xs k = known (edit_of xs (edit_and_end xs (slot_at k)).0)

-- the edits in the first n slots, the last first; and those in n slots from k on, the first first
abbrev pub latest_in : List ℕ → ℕ → List Edit
latest_in xs zero = []
latest_in xs (suc n) = slot_edit xs n ∷ latest_in xs n

abbrev pub edits_in : List ℕ → ℕ → ℕ → List Edit
edits_in xs k zero = []
edits_in xs k (suc n) = slot_edit xs k ∷ edits_in xs (suc k) n

abbrev pub history_in : List ℕ → ℕ → ℕ → History
history_in xs done undone = record { done = latest_in xs done; undone = edits_in xs done undone }

-- the page that a row of edits makes of the blank one, given the last first
abbrev pub made_by : ℕ → ℕ → List Edit → Page
made_by w h es = after (blank w h) (in_order es [])

-- the canvas and the bytes are the page that the edits make, and the tiles show it
pub record Holds (s : Canvas) (es : List Edit) (tiles : List ℕ) : Type 0 where
  pub agrees : Agree (view s tiles) (made_by s.size.wide s.size.high es)
  pub shown : Shown s (made_by s.size.wide s.size.high es) tiles

-- a page made anew from its slots
pub record Replayed (z : Size) (es : List Edit) (tiles tiles' : List ℕ) (s : Canvas) : Type 0 where
  pub size_is : s.size ≡ z
  pub agrees : Agree (view s tiles') (made_by z.wide z.high es)
  pub long : length tiles' ≡ length tiles

-- and its tiles too
pub record Remade (z : Size) (es : List Edit) (tiles tiles' : List ℕ) (s : Canvas) : Type 0 where
  pub size_is : s.size ≡ z
  pub holds : Holds s es tiles'
  pub long : length tiles' ≡ length tiles

-- the bytes bs put into slot k: the edit that they are stands there, and every other slot keeps its own
pub record SlotPut (bs : List ℕ) (k : ℕ) (turns turns' : List ℕ) : Type 0 where
  pub long : length turns' ≡ length turns
  pub here : (e : Edit) → EditBytes bs e → slot_edit turns' k ≡ e
  pub others : (j : ℕ) → (j ≢ k) → slot_edit turns' j ≡ slot_edit turns j

-- the bytes from `at` on are the writing of these edits and nothing else
pub record RowStands (bs : List ℕ) (at : ℕ) (es : List Edit) : Type 0 where
  pub is : drop at bs ≡ all_written es
  pub fit : All Fits es
  pub are_built : All Built es
