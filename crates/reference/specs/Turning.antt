-- What a turn makes of the plain engine. Assumes nothing.
use Rattle.std.specs.Prelude.{◌≡◌, ℕ, ◌+◌, ◌*◌, ◌<◌, if◌then◌else◌, List, [], length, Some, None, Ok, Err, vec_items, Option, Result, nat_lt}
use Rattle.page.specs.Edits.{Page, blank, after}
use Rattle.page.specs.History.{History, Turn, turned, in_order, empty}
use Rattle.codec.specs.declared.edits.Turn.{Turn as Read}
use Rattle.codec.specs.declared.edits.Lent.TheVariants.{Tiles}
use Rattle.codec.specs.declared.edits.Refusal.{Refusal}
use Rattle.codec.specs.declared.edits.Refusal.TheVariants.{TooMany, Short}
use Rattle.codec.specs.Meaning.{turn_of}
use Rattle.codec.specs.Read.{read_turn}
use Rattle.canvas.specs.declared.state.Canvas.{Canvas}
use Rattle.canvas.specs.View.{Room}
use Rattle.reference.specs.declared.state.Engine.{Engine}
use Rattle.words.specs.declared.taking.Fault.{Fault}
use Rattle.words.specs.declared.taking.Fault.TheVariants.{Refused, NoMemory}
use Rattle.reference.specs.Lists.{history_of}
use Rattle.reference.specs.Making.{Replayed}

-- the history of an engine, and the page that its done edits make of the blank one
abbrev pub history : Engine → History
history s = history_of (vec_items s.bytes) (vec_items s.edits) s.done

abbrev pub page_of : Engine → Page
page_of s = after (blank s.size.wide s.size.high) (in_order (history s).done [])

-- what is against any turn at its first byte: there are at most 65,536
abbrev pub against : ℕ → Option Refusal
against taken = if nat_lt taken 65536 then None else Some (TooMany 0)

-- a new engine: the blank page, with an empty history
pub record Begun (w h : ℕ) (s : Engine) : Type 0 where
  pub wide_is : s.size.wide ≡ w
  pub high_is : s.size.high ≡ h
  pub none_taken : s.taken ≡ 0
  pub no_history : history s ≡ empty

abbrev pub Begins : Option Refusal → ℕ → ℕ → Result Engine Refusal → Type 0
Begins None w h (Ok s) = Begun w h s
Begins None w h (Err f) = ⊥
Begins (Some why) w h (Ok s) = ⊥
Begins (Some why) w h (Err f) = f ≡ why

-- the history is another, and nothing else is
pub record Steps (s : Engine) (h : History) (s' : Engine) : Type 0 where
  pub same_size : s'.size ≡ s.size
  pub same_taken : s'.taken ≡ s.taken
  pub history_is : history s' ≡ h

-- the history is the old one with this turn
pub record Moved (s : Engine) (t : Turn) (s' : Engine) : Type 0 where
  pub same_size : s'.size ≡ s.size
  pub one_taken : s'.taken ≡ s.taken + 1
  pub history_next : history s' ≡ turned (history s) t

-- a turn that is refused leaves the engine as it was; one that finds no memory leaves what it means
abbrev pub TurnedBy : List ℕ → Result Read Refusal → Engine → Engine → Result (Unit {0}) Fault → Type 0
TurnedBy bs (Ok t) s s' (Ok u) = Moved s (turn_of bs t) s'
TurnedBy bs (Ok t) s s' (Err (Refused f)) = ⊥
TurnedBy bs (Ok t) s s' (Err NoMemory) = Steps s (history s) s'
TurnedBy bs (Err f) s s' (Ok u) = ⊥
TurnedBy bs (Err f) s s' (Err (Refused g)) = (g ≡ f) × (s' ≡ s)
TurnedBy bs (Err f) s s' (Err NoMemory) = ⊥

abbrev pub Turns : List ℕ → Engine → Engine → Result (Unit {0}) Fault → Type 0
Turns bs s s' r = TurnedBy bs (read_turn bs (against s.taken)) s s' r

-- everything made anew, or too few bytes for it
abbrev pub Remade : Engine → List ℕ → List ℕ → Result Canvas Refusal → Type 0
Remade s xs ys (Ok c) = Room s.size xs × Replayed s.size (in_order (history s).done []) xs ys c
Remade s xs ys (Err f) = (length xs < 544 * (s.size.wide * s.size.high)) × (f ≡ Short Tiles) × (ys ≡ xs)
