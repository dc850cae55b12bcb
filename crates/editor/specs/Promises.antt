-- The contracts of the five public functions, over the editor's numbers and the lent memory. Assumes nothing.
use Rattle.std.specs.Prelude.{◌≡◌, ℕ, ◌+◌, ◌*◌, ◌≤◌, List, [], ◌++◌, length, drop, Some, None, Ok, Err, Option, Result, if◌then◌else◌, nat_lt}
use Rattle.page.specs.History.{History, Turn, turned, empty, in_order}
use Rattle.codec.specs.declared.edits.Turn.{Turn as Read}
use Rattle.codec.specs.declared.edits.Lent.TheVariants.{Turns, File as FileSlice}
use Rattle.codec.specs.declared.edits.Refusal.{Refusal}
use Rattle.codec.specs.declared.edits.Refusal.TheVariants.{Short}
use Rattle.codec.specs.declared.file.File.{File}
use Rattle.codec.specs.declared.file.Lengths.{Lengths}
use Rattle.codec.specs.Meaning.{turn_of}
use Rattle.codec.specs.Files.{file_written, done_of, undone_of, size_refusal, short_for, against_edit}
use Rattle.std.specs.Option.{option_or}
use Rattle.history.specs.Slots.{latest_in, history_in, Holds}
use Rattle.editor.specs.declared.state.Editor.{Editor}

-- how many pixels the page has
abbrev pub pixels : Editor → ℕ
pixels s = s.timeline.canvas.size.wide * s.timeline.canvas.size.high

-- the history that the editor's counts and the slots of the turns are
abbrev pub history : Editor → List ℕ → History
history s turns = history_in turns s.timeline.done s.timeline.undone

-- SOUND: there is room for the page, the bytes mean the page that the done edits make of the blank one, and the tiles show it
pub record Sound (s : Editor) (turns tiles : List ℕ) : Type 0 where
  pub room : 544 * pixels s ≤ length tiles
  pub holds : Holds s.timeline.canvas (latest_in turns s.timeline.done) tiles

abbrev pub lent_for : ℕ → ℕ → ℕ → Lengths
lent_for turns tiles work = record { turns = turns; tiles = tiles; work = work }

-- BEGIN: a size that is refused, as a file's would be, and then slices that are too short
abbrev pub begin_refusal : ℕ → ℕ → ℕ → ℕ → Option Refusal
begin_refusal w h tiles work = option_or (size_refusal w h) (short_for (lent_for 0 tiles work) (w * h))

pub record Begun (w h : ℕ) (s : Editor) (turns tiles : List ℕ) : Type 0 where
  pub wide_is : s.timeline.canvas.size.wide ≡ w
  pub high_is : s.timeline.canvas.size.high ≡ h
  pub none_taken : s.taken ≡ 0
  pub no_history : history s turns ≡ empty
  pub sound : Sound s turns tiles

abbrev pub BeginEnds : Option Refusal → ℕ → ℕ → List ℕ → List ℕ → List ℕ → List ℕ → List ℕ → List ℕ → Result Editor Refusal → Type 0
BeginEnds None w h turns tiles work turns' tiles' work' (Ok s) = (turns' ≡ turns) × (length tiles' ≡ length tiles) × (length work' ≡ length work) × Begun w h s turns' tiles'
BeginEnds None w h turns tiles work turns' tiles' work' (Err f) = ⊥
BeginEnds (Some why) w h turns tiles work turns' tiles' work' (Ok s) = ⊥
BeginEnds (Some why) w h turns tiles work turns' tiles' work' (Err f) = (f ≡ why) × (turns' ≡ turns) × (tiles' ≡ tiles) × (work' ≡ work)

-- TURN: what is against the next turn after n at its first byte, on a page of so many pixels, with slices so long
abbrev pub against_next : ℕ → ℕ → ℕ → ℕ → ℕ → Option Refusal
against_next px turns tiles work n = option_or (against_edit turns n 0) (short_for (lent_for turns tiles work) px)

abbrev pub against : Editor → ℕ → ℕ → ℕ → Option Refusal
against s turns tiles work = against_next (pixels s) turns tiles work s.taken

-- the history is the old one with the turn t, and what was sound is sound
pub record Turned (s : Editor) (t : Turn) (turns tiles work : List ℕ) (s' : Editor) (turns' tiles' work' : List ℕ) : Type 0 where
  pub same_size : s'.timeline.canvas.size ≡ s.timeline.canvas.size
  pub one_taken : s'.taken ≡ s.taken + 1
  pub turns_long : length turns' ≡ length turns
  pub tiles_long : length tiles' ≡ length tiles
  pub work_long : length work' ≡ length work
  pub history_next : history s' turns' ≡ turned (history s turns) t
  pub sound_next : Sound s turns tiles → Sound s' turns' tiles'

abbrev pub TurnEnds : List ℕ → Result Read Refusal → Editor → List ℕ → List ℕ → List ℕ → Editor → List ℕ → List ℕ → List ℕ → Result (Unit {0}) Refusal → Type 0
TurnEnds bs (Ok t) s turns tiles work s' turns' tiles' work' r = (r ≡ Ok tt) × Turned s (turn_of bs t) turns tiles work s' turns' tiles' work'
TurnEnds bs (Err why) s turns tiles work s' turns' tiles' work' r = (r ≡ Err why) × (s' ≡ s) × (turns' ≡ turns) × (tiles' ≡ tiles) × (work' ≡ work)

-- WRITE: slices that are too short
abbrev pub write_refusal : Editor → ℕ → ℕ → Option Refusal
write_refusal s turns file =
    if nat_lt turns (8192 * (s.timeline.done + s.timeline.undone)) then Some (Short Turns)
    else if nat_lt file (16 + 8192 * (s.timeline.done + s.timeline.undone)) then Some (Short FileSlice)
    else None

-- the bytes of the editor's file: its size, the done edits from the first, and the undone ones
abbrev pub file_of : Editor → List ℕ → List ℕ
file_of s turns = file_written s.timeline.canvas.size.wide s.timeline.canvas.size.high (in_order (history s turns).done []) (history s turns).undone

abbrev pub WriteEnds : Option Refusal → Editor → List ℕ → List ℕ → List ℕ → Result ℕ Refusal → Type 0
WriteEnds None s turns file file' (Ok n) = (n ≡ length (file_of s turns)) × (file' ≡ file_of s turns ++ drop n file)
WriteEnds None s turns file file' (Err f) = ⊥
WriteEnds (Some why) s turns file file' (Ok n) = ⊥
WriteEnds (Some why) s turns file file' (Err f) = (f ≡ why) × (file' ≡ file)

-- READ: an editor with the file's size and history; each of its edits counts as a turn
pub record Opened (bs : List ℕ) (f : File) (s : Editor) (turns tiles : List ℕ) : Type 0 where
  pub wide_is : s.timeline.canvas.size.wide ≡ f.width
  pub high_is : s.timeline.canvas.size.high ≡ f.height
  pub all_taken : s.taken ≡ f.done + f.undone
  pub done_is : (history s turns).done ≡ in_order (done_of bs f) []
  pub undone_is : (history s turns).undone ≡ undone_of bs f
  pub sound : Sound s turns tiles

abbrev pub lengths : List ℕ → List ℕ → List ℕ → Lengths
lengths turns tiles work = lent_for (length turns) (length tiles) (length work)

abbrev pub ReadEnds : List ℕ → Result File Refusal → List ℕ → List ℕ → List ℕ → List ℕ → List ℕ → List ℕ → Result Editor Refusal → Type 0
ReadEnds bs (Ok f) turns tiles work turns' tiles' work' (Ok s) =
    (length turns' ≡ length turns) × (length tiles' ≡ length tiles) × (length work' ≡ length work) × Opened bs f s turns' tiles'
ReadEnds bs (Ok f) turns tiles work turns' tiles' work' (Err g) = ⊥
ReadEnds bs (Err f) turns tiles work turns' tiles' work' (Ok s) = ⊥
ReadEnds bs (Err f) turns tiles work turns' tiles' work' (Err g) = (g ≡ f) × (turns' ≡ turns) × (tiles' ≡ tiles) × (work' ≡ work)
