-- A script: turns one after the other in bytes, played from the blank page on. Assumes nothing.
use Rattle.std.specs.Prelude.{◌≡◌, ℕ, ◌+◌, ◌<◌, ◌≤◌, if◌then◌else◌, ◌&&◌, ◌||◌, ◌⊎◌, List, [], length, take, Some, None, Ok, Err, Option, Result, ◌==◌, nat_lt, slice_index}
use Rattle.std.specs.List.{between, flat_map}
use Rattle.pixel.specs.declared.Pixel.{Pixel}
use Rattle.page.specs.Edits.{seen}
use Rattle.page.specs.Fits.{AllFit}
use Rattle.page.specs.History.{Turn, page}
use Rattle.codec.specs.declared.edits.Refusal.{Refusal}
use Rattle.codec.specs.Kinds.{built}
use Rattle.codec.specs.Scan.{End, end_of}
use Rattle.codec.specs.Read.{read_turn}
use Rattle.codec.specs.Written.{written_turn}
use Rattle.editor.specs.declared.state.Editor.{Editor}
use Rattle.editor.specs.Promises.{begin_refusal, against}
use Rattle.editor.specs.Runs.{Lent, Desk, Comes}
use Rattle.editor.specs.Main.{EnoughLent, Sized}

-- the bytes of turns, one after the other
abbrev pub all_turns : List Turn → List ℕ
all_turns ts = flat_map written_turn ts

-- where the turn ends that starts at `at`: undo and redo are one byte; where there is none, the script's end
abbrev pub end_or_all : List ℕ → End → ℕ
end_or_all bs (Ok n) = n
end_or_all bs (Err f) = length bs

abbrev pub turn_end : List ℕ → ℕ → ℕ
turn_end bs at = if slice_index bs at == 17 || slice_index bs at == 18 then at + 1 else end_or_all bs (end_of bs at)

pub record Cut (bs : List ℕ) (at n : ℕ) : Type 0 where
  pub is : n ≡ turn_end bs at
  pub onward : at < n
  pub within : n ≤ length bs

-- the turns ts are the script up to `at`, and the desk came about by them
pub record Come (w h at : ℕ) (script : List ℕ) (ts : List Turn) (d : Desk) : Type 0 where
  pub comes : Comes w h ts d
  pub is : take at script ≡ all_turns ts

abbrev pub desk : Editor → List ℕ → List ℕ → List ℕ → Desk
desk s turns tiles work = record { editor = s; turns = turns; tiles = tiles; work = work; file = [] }

-- what is seen of the page at a pixel, if it is on the page
abbrev pub pixel_seen : ℕ → ℕ → List Turn → ℕ → ℕ → Option Pixel
pixel_seen w h ts x y = if nat_lt x w && nat_lt y h then Some (seen (page w h ts) x y) else None

-- the whole script was played: it is the bytes of the turns ts, and the pixel is that of their page
pub record Played (w h x y : ℕ) (script : List ℕ) (o : Option Pixel) (turns tiles work : List ℕ) : Type 0 where
  pub editor : Editor
  pub all : List Turn
  pub comes : Comes w h all (desk editor turns tiles work)
  pub is : script ≡ all_turns all
  pub shows : o ≡ pixel_seen w h all x y

-- the turns before `at` were taken, and the one that starts there was refused
pub record Stopped (w h : ℕ) (script : List ℕ) (f : Refusal) (turns tiles work : List ℕ) : Type 0 where
  pub editor : Editor
  pub before : List Turn
  pub at : ℕ
  pub come : Come w h at script before (desk editor turns tiles work)
  pub some : at < length script
  pub refused : read_turn (between at (turn_end script at) script) (against editor (length turns) (length tiles) (length work)) ≡ Err f

-- the page was refused, and nothing was written
pub record NotBegun (w h : ℕ) (f : Refusal) (turns tiles work turns' tiles' work' : List ℕ) : Type 0 where
  pub refused : begin_refusal w h (length tiles) (length work) ≡ Some f
  pub same_turns : turns' ≡ turns
  pub same_tiles : tiles' ≡ tiles
  pub same_work : work' ≡ work

-- slices that are as long as they were
pub record Long (turns tiles work turns' tiles' work' : List ℕ) : Type 0 where
  pub turns_long : length turns' ≡ length turns
  pub tiles_long : length tiles' ≡ length tiles
  pub work_long : length work' ≡ length work

abbrev pub PlayEnds : ℕ → ℕ → ℕ → ℕ → List ℕ → List ℕ → List ℕ → List ℕ → List ℕ → List ℕ → List ℕ → Result (Option Pixel) Refusal → Type 0
PlayEnds w h x y script turns tiles work turns' tiles' work' (Ok o) = Long turns tiles work turns' tiles' work' × Played w h x y script o turns' tiles' work'
PlayEnds w h x y script turns tiles work turns' tiles' work' (Err f) =
    NotBegun w h f turns tiles work turns' tiles' work' ⊎ (Long turns tiles work turns' tiles' work' × Stopped w h script f turns' tiles' work')

-- A SCRIPT OF TURNS IS PLAYED: where it is the bytes of turns that fit, and enough is lent for them, what comes of it is the pixel of their page
abbrev pub ScriptPlayed : Type 0
ScriptPlayed =
    (w h x y : ℕ) (ts : List Turn) (m : Lent) (turns tiles work : List ℕ) (r : Result (Option Pixel) Refusal) →
    Sized w h → EnoughLent w h (length ts) m → length ts ≤ 65536 → AllFit built ts →
    PlayEnds w h x y (all_turns ts) m.turns m.tiles m.work turns tiles work r → r ≡ Ok (pixel_seen w h ts x y)
