-- How bytes are read as a turn: at a first byte the kind comes first, then what the caller has against any turn there, then the bytes behind. Assumes nothing.
use Rattle.std.specs.Prelude.{ℕ, if◌then◌else◌, List, length, Some, None, Ok, Err, Option, Result, ◌==◌, nat_lt, slice_index}
use Rattle.codec.specs.declared.edits.Edit.{Edit}
use Rattle.codec.specs.declared.edits.Edit.TheVariants.{SetMode}
use Rattle.codec.specs.declared.edits.Turn.{Turn}
use Rattle.codec.specs.declared.edits.Turn.TheVariants.{Does, Undo, Redo}
use Rattle.codec.specs.declared.edits.Refusal.{Refusal}
use Rattle.codec.specs.declared.edits.Refusal.TheVariants.{GoesOn, NoKind}
use Rattle.codec.specs.Kinds.{built}
use Rattle.codec.specs.Scan.{End, need, end_of, edit_at}

-- what is found against it, or else the answer
abbrev pub unless : {A : Type 0} → Option Refusal → Result A Refusal → Result A Refusal
unless None r = r
unless (Some f) r = Err f

-- the end of the edit that starts at `at`, of a kind that is built
abbrev pub taken_end : List ℕ → ℕ → Option Refusal → End
taken_end bs at against =
    need bs at 1 (if built (slice_index bs at) then unless against (end_of bs at) else Err (NoKind at))

-- the turn t where the bytes end at n
abbrev pub whole_turn : List ℕ → Turn → ℕ → Result Turn Refusal
whole_turn bs t n = if nat_lt n (length bs) then Err (GoesOn n) else Ok t

abbrev pub whole_edit : List ℕ → End → Result Turn Refusal
whole_edit bs (Ok n) = whole_turn bs (Does (edit_at bs 0)) n
whole_edit bs (Err f) = Err f

abbrev pub turn_by : List ℕ → Option Refusal → ℕ → Result Turn Refusal
turn_by bs against k =
    if k == 17 then unless against (whole_turn bs Undo 1)
    else (if k == 18 then unless against (whole_turn bs Redo 1) else whole_edit bs (taken_end bs 0 against))

abbrev pub read_turn : List ℕ → Option Refusal → Result Turn Refusal
read_turn bs against = turn_by bs against (slice_index bs 0)

-- the edit that starts at `at`, and where it ends; where none does, one that changes nothing, and `at`
abbrev pub edit_or_none : List ℕ → ℕ → End → Edit × ℕ
edit_or_none bs at (Ok n) = (edit_at bs at, n)
edit_or_none bs at (Err f) = (SetMode 255, at)

abbrev pub edit_and_end : List ℕ → ℕ → Edit × ℕ
edit_and_end bs at = edit_or_none bs at (end_of bs at)
