-- What is true of desks that come about, besides what they show: statements, each asked for by a function of src/. Assumes nothing.
use Rattle.std.specs.Prelude.{◌≡◌, ℕ, ◌+◌, ◌*◌, ◌<◌, ◌≤◌, List, [], ◌∷◌, ◌++◌, length, Ok, Result}
use Rattle.pixel.specs.declared.Pixel.{Pixel}
use Rattle.page.specs.Filters.{Filter}
use Rattle.page.specs.Edits.{Page, Edit, layer, fill, stroke, apply_filter, paste}
use Rattle.page.specs.History.{Turn, does, undo, redo}
use Rattle.codec.specs.declared.edits.Refusal.{Refusal}
use Rattle.codec.specs.Laws.{TurnFits, TurnBuilt}
use Rattle.codec.specs.Written.{written_turn}
use Rattle.canvas.specs.View.{view}
use Rattle.editor.specs.Promises.{pixels}
use Rattle.editor.specs.Runs.{Desk, Takes, shown, Comes}

-- some turns and then one more
abbrev pub then : List Turn → Turn → List Turn
then ts t = ts ++ t ∷ []

-- the page that the desk's bytes mean
abbrev pub held : Desk → Page
held d = view d.editor.timeline.canvas d.tiles

-- slices that are long enough for n turns more, and not too many turns
pub record Ready (n : ℕ) (d : Desk) : Type 0 where
  pub few : d.editor.taken + n ≤ 65536
  pub for_turns : 8192 * (d.editor.taken + n) ≤ length d.turns
  pub for_tiles : 544 * pixels d.editor ≤ length d.tiles
  pub for_work : pixels d.editor ≤ length d.work

-- A TURN IS CARRIED OUT where the slices are long enough for it, sound or not, and leaves them long enough for as many as before but one
abbrev pub CarriedOut : Type 0
CarriedOut =
    (n : ℕ) (t : Turn) (d d' : Desk) (r : Result (Unit {0}) Refusal) → TurnFits t → TurnBuilt t → Ready (n + 1) d → Takes d (written_turn t) d' r →
    (r ≡ Ok tt) × Ready n d'

-- no more turns are counted than there were, also where a file was read: slices for all turns of a run suffice
abbrev pub StillReady : Type 0
StillReady =
    (w h n : ℕ) (ts : List Turn) (d : Desk) → Comes w h ts d → length ts + n ≤ 65536 → 8192 * (length ts + n) ≤ length d.turns → w * h ≤ length d.work → Ready n d

-- UNDO shows what was shown before the edit, and redo what was shown after it
abbrev pub UndoneAndRedone : Type 0
UndoneAndRedone =
    (w h i j : ℕ) (ts : List Turn) (e : Edit) (before edited undone redone : Desk) → i < w → j < h →
    Comes w h ts before → Comes w h (then ts (does e)) edited → Comes w h (then (then ts (does e)) undo) undone → Comes w h (then (then (then ts (does e)) undo) redo) redone →
    (shown undone i j ≡ shown before i j) × (shown redone i j ≡ shown edited i j)

-- the edits that paint
pub data Paints : Edit → Type 0 where
  fills : (d : Pixel) → Paints (fill d)
  strokes : (d : Pixel) (r : ℕ) (ats : List (ℕ × ℕ)) → Paints (stroke d r ats)
  filters : (f : Filter) → Paints (apply_filter f)
  pastes : (x y : ℕ) → Paints (paste x y)

-- OUTSIDE THE SELECTION an edit that paints leaves every pixel of every layer, in the bytes
abbrev pub OutsideStays : Type 0
OutsideStays =
    (w h i j k : ℕ) (ts : List Turn) (e : Edit) (d d' : Desk) → Paints e → i < w → j < h →
    Comes w h ts d → Comes w h (then ts (does e)) d' → (held d).selected i j ≡ 0 → (layer (held d') k).pixels i j ≡ (layer (held d) k).pixels i j

-- WHATEVER WAS LENT, and however often it was saved and opened: by the same turns the same is shown
abbrev pub WhateverWasLent : Type 0
WhateverWasLent =
    (w h i j : ℕ) (ts : List Turn) (d d' : Desk) → i < w → j < h → Comes w h ts d → Comes w h ts d' → shown d i j ≡ shown d' i j
