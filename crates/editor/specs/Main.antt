-- The main promise, of any functions that meet the five contracts: what they show is what the turns mean, and files keep it. Assumes nothing.
use Rattle.std.specs.Prelude.{◌≡◌, ℕ, ◌+◌, ◌*◌, ◌<◌, ◌≤◌, List, [], ◌∷◌, ◌++◌, length, take, Some, Ok, Result, slice_index, slice_index_or}
use Rattle.pixel.specs.declared.Pixel.{Pixel}
use Rattle.page.specs.Edits.{seen}
use Rattle.page.specs.Fits.{AllFit}
use Rattle.page.specs.History.{Turn, page}
use Rattle.codec.specs.declared.edits.Refusal.{Refusal}
use Rattle.codec.specs.Kinds.{built}
use Rattle.codec.specs.Laws.{TurnFits}
use Rattle.codec.specs.Written.{written_turn}
use Rattle.canvas.specs.declared.state.Layer.{Layer}
use Rattle.editor.specs.declared.state.Editor.{Editor}
use Rattle.editor.specs.Runs.{Lent, Desk, Begins, Takes, shown, Writes, Reads}

-- WHAT CODE CAN HOLD: a slice of bytes, and one of words, no longer than a slice can be; of an editor its layers' opacities, the rest being its own
abbrev pub ByteSlice : List ℕ → Type 0
ByteSlice xs = ((k : ℕ) → slice_index xs k < 256) × (length xs < 9223372036854775808)

abbrev pub WordSlice : List ℕ → Type 0
WordSlice xs = ((k : ℕ) → slice_index xs k < 4294967296) × (4 * length xs < 9223372036854775808)

pub record LentFits (m : Lent) : Type 0 where
  pub turns_fit : ByteSlice m.turns
  pub tiles_fit : ByteSlice m.tiles
  pub work_fits : WordSlice m.work
  pub file_fits : ByteSlice m.file

pub record DeskFits (d : Desk) : Type 0 where
  pub turns_fit : ByteSlice d.turns
  pub tiles_fit : ByteSlice d.tiles
  pub work_fits : WordSlice d.work
  pub file_fits : ByteSlice d.file
  pub opacities : (k : ℕ) (l : Layer) → k < 64 → (slice_index_or d.editor.timeline.canvas.layers k l).opacity < 256

-- the desk on which an editor stands that was made in the slices m; the slice for files is not lent to what makes it
pub record Made (m : Lent) (s : Editor) (d : Desk) : Type 0 where
  pub editor_is : d.editor ≡ s
  pub same_file : d.file ≡ m.file
  pub fits : DeskFits d

-- FUNCTIONS THAT MEET THE CONTRACTS, on all that code can hold. They are total: where begin or read refuses, the desk's editor may be any
pub record Meets (start : ℕ → ℕ → Lent → Desk) (happens : Desk → Turn → Desk) (shows : Desk → ℕ → ℕ → Pixel) (writes : Desk → List ℕ) (reads : Lent → List ℕ → Desk) : Type 0 where
  pub begin_meets :
      (w h : ℕ) (m : Lent) → LentFits m →
      (r : Result Editor Refusal) × Begins w h m (start w h m) r × ((s : Editor) → r ≡ Ok s → Made m s (start w h m))
  pub turn_meets :
      (d : Desk) (t : Turn) → DeskFits d → TurnFits t →
      (r : Result (Unit {0}) Refusal) × Takes d (written_turn t) (happens d t) r × ((happens d t).file ≡ d.file) × DeskFits (happens d t)
  pub show_meets : (d : Desk) (x y : ℕ) (p : Pixel) → DeskFits d → shown d x y ≡ Some p → shows d x y ≡ p
  pub write_meets :
      (d : Desk) → DeskFits d →
      (r : Result ℕ Refusal) × ((file : List ℕ) × Writes d d.file file r × ((n : ℕ) → r ≡ Ok n → (writes d ≡ take n file) × ByteSlice (writes d)))
  pub read_meets :
      (m : Lent) (bs : List ℕ) → LentFits m → ByteSlice bs →
      (r : Result Editor Refusal) × Reads bs m (reads m bs) r × ((s : Editor) → r ≡ Ok s → Made m s (reads m bs))

-- slices that are enough for a page of w by h and n turns; work is counted in words
pub record EnoughLent (w h n : ℕ) (m : Lent) : Type 0 where
  pub for_turns : 8192 * n ≤ length m.turns
  pub for_tiles : 544 * (w * h) ≤ length m.tiles
  pub for_work : w * h ≤ length m.work
  pub for_file : 16 + 8192 * n ≤ length m.file

-- a size that a page can have
pub record Sized (w h : ℕ) : Type 0 where
  pub some_wide : 1 ≤ w
  pub most_wide : w ≤ 4096
  pub some_high : 1 ≤ h
  pub most_high : h ≤ 4096

abbrev pub joined : List (List Turn) → List Turn
joined [] = []
joined (ts ∷ tss) = ts ++ joined tss

module _ (start : ℕ → ℕ → Lent → Desk) (happens : Desk → Turn → Desk) (shows : Desk → ℕ → ℕ → Pixel) (writes : Desk → List ℕ) (reads : Lent → List ℕ → Desk) where
  -- turn after turn
  abbrev pub goes : Desk → List Turn → Desk
  goes d [] = d
  goes d (t ∷ ts) = goes (happens d t) ts

  abbrev pub SameSeen : Type 0
  SameSeen =
      (w h i j : ℕ) (m : Lent) (ts : List Turn) → Sized w h → LentFits m → EnoughLent w h (length ts) m → AllFit built ts → length ts ≤ 65536 → i < w → j < h →
      shows (goes (start w h m) ts) i j ≡ seen (page w h ts) i j

  -- worked on, written and read, again and again
  abbrev pub saved : Lent → Desk → List (List Turn) → Desk
  saved m d [] = d
  saved m d (ts ∷ tss) = saved m (reads m (writes (goes d ts))) tss

  abbrev pub KeptInFiles : Type 0
  KeptInFiles =
      (w h i j : ℕ) (m : Lent) (tss : List (List Turn)) (us : List Turn) → Sized w h → LentFits m → EnoughLent w h (length (joined tss) + length us) m →
      AllFit built (joined tss) → AllFit built us → length (joined tss) + length us ≤ 65536 → i < w → j < h →
      shows (goes (saved m (start w h m) tss) us) i j ≡ seen (page w h (joined tss ++ us)) i j

abbrev pub MainPromise : Type 0
MainPromise =
    (start : ℕ → ℕ → Lent → Desk) (happens : Desk → Turn → Desk) (shows : Desk → ℕ → ℕ → Pixel) (writes : Desk → List ℕ) (reads : Lent → List ℕ → Desk) →
    Meets start happens shows writes reads → SameSeen start happens shows writes reads × KeptInFiles start happens shows writes reads
