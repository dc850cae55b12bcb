-- What reading and writing of edits and turns have to do with each other. Assumes nothing.
use Rattle.std.specs.Prelude.{◌≡◌, ℕ, ◌+◌, ◌≤◌, true, false, ◌⊎◌, List, ◌++◌, length, drop, IfErr, Some, None, Ok, Option, Result, MatchResult}
use Rattle.page.specs.Edits as page
use Rattle.page.specs.History as history
use Rattle.page.specs.History.{does, undo, redo}
use Rattle.page.specs.Fits.{Fits, kind}
use Rattle.codec.specs.declared.edits.Edit.{Edit}
use Rattle.codec.specs.declared.edits.Turn.{Turn}
use Rattle.codec.specs.declared.edits.Refusal.{Refusal}
use Rattle.codec.specs.declared.edits.Refusal.TheVariants.{NoKind}
use Rattle.codec.specs.Kinds.{built}
use Rattle.codec.specs.Written.{written, written_turn}
use Rattle.codec.specs.Meaning.{edit_of, turn_of, Held, TurnHeld, Bytes}
use Rattle.codec.specs.Refusals.{number, place}
use Rattle.codec.specs.Scan.{end_of, edit_at}
use Rattle.codec.specs.Read.{read_turn}

-- what is read is what was written: from `at` to n stands the writing of an edit that fits, the one that is read
abbrev pub ReadsWritten : Type 0
ReadsWritten =
    (bs : List ℕ) (at n : ℕ) → Bytes bs → end_of bs at ≡ Ok n →
    (drop at bs ≡ written (edit_of bs (edit_at bs at)) ++ drop n bs)
    × Fits (edit_of bs (edit_at bs at)) × (n ≤ length bs) × Held bs (edit_at bs at)

-- what is written is read, wherever it stands
abbrev pub WrittenRead : Type 0
WrittenRead =
    (bs rest : List ℕ) (at : ℕ) (e : page.Edit) → Fits e → drop at bs ≡ written e ++ rest →
    (end_of bs at ≡ Ok (at + length (written e))) × (edit_of bs (edit_at bs at) ≡ e)

-- what is true of the edit at hand
pub record EditGood (bs : List ℕ) (e : Edit) : Type 0 where
  pub fits : Fits (edit_of bs e)
  pub held : Held bs e

-- the bytes are those of the edit e, of a kind that is built
pub record EditBytes (bs : List ℕ) (e : page.Edit) : Type 0 where
  pub fits : Fits e
  pub is_built : built (kind e) ≡ true
  pub is : bs ≡ written e

abbrev pub TurnFits : history.Turn → Type 0
TurnFits (does e) = Fits e
TurnFits undo = Unit {0}
TurnFits redo = Unit {0}

-- a turn of a kind that is built, and one of a kind that is not
abbrev pub TurnBuilt : history.Turn → Type 0
TurnBuilt (does e) = built (kind e) ≡ true
TurnBuilt undo = Unit {0}
TurnBuilt redo = Unit {0}

abbrev pub TurnUnbuilt : history.Turn → Type 0
TurnUnbuilt (does e) = built (kind e) ≡ false
TurnUnbuilt undo = ⊥
TurnUnbuilt redo = ⊥

-- a turn that is taken: the bytes are its writing and nothing else, and nothing was against it
pub record Taken (bs : List ℕ) (against : Option Refusal) (t : Turn) : Type 0 where
  pub is : bs ≡ written_turn (turn_of bs t)
  pub fits : TurnFits (turn_of bs t)
  pub is_built : TurnBuilt (turn_of bs t)
  pub held : TurnHeld bs t
  pub free : against ≡ None

-- a refusal is what the caller had against any turn; or the bytes are the writing of none, but for one of a kind that is not built
abbrev pub Refused : List ℕ → Option Refusal → Refusal → Type 0
Refused bs against f =
    (against ≡ Some f) ⊎ ((t : history.Turn) → TurnFits t → bs ≡ written_turn t → TurnUnbuilt t × (f ≡ NoKind 0))

abbrev pub TurnRead : List ℕ → Option Refusal → Result Turn Refusal → Type 0
TurnRead bs against r = MatchResult r (Taken bs against) (Refused bs against)

-- a turn that is written is read as the same turn
abbrev pub TurnWrittenRead : Type 0
TurnWrittenRead =
    (t : history.Turn) → TurnFits t → TurnBuilt t →
    MatchResult (read_turn (written_turn t) None) (λ s. turn_of (written_turn t) s ≡ t) (λ f. ⊥)

-- every row of bytes is a turn, or is refused by one number, 1 or 3, at one of its places
abbrev pub TurnAnswered : Type 0
TurnAnswered =
    (bs : List ℕ) → IfErr (read_turn bs None) (λ f. ((number f ≡ 1) ⊎ (number f ≡ 3)) × (place f ≤ length bs))
