-- What a turn makes of a page in its row of edits and of the lent bytes. Assumes nothing.
use Rattle.std.specs.Prelude.{◌≡◌, ℕ, ◌+◌, ◌*◌, ◌≤◌, List, length}
use Rattle.page.specs.History.{Turn, turned}
use Rattle.canvas.specs.View.{Room}
use Rattle.history.specs.declared.moves.Timeline.{Timeline}
use Rattle.history.specs.Slots.{latest_in, history_in, Holds}

-- from one page in its row of edits, turns and tiles to others by the turn t: the history is the old one with this turn, and tiles that held the page hold it
pub record Moved (t : Turn) (s : Timeline) (turns tiles : List ℕ) (s' : Timeline) (turns' tiles' : List ℕ) : Type 0 where
  pub same_size : s'.canvas.size ≡ s.canvas.size
  pub turns_long : length turns' ≡ length turns
  pub tiles_long : length tiles' ≡ length tiles
  pub few : s'.done + s'.undone ≤ s.done + s.undone + 1
  pub history_next : history_in turns' s'.done s'.undone ≡ turned (history_in turns s.done s.undone) t
  pub holds_next : Holds s.canvas (latest_in turns s.done) tiles → Holds s'.canvas (latest_in turns' s'.done) tiles'

-- bytes enough for the page and for one edit more
pub record Lends (s : Timeline) (turns tiles : List ℕ) : Type 0 where
  pub for_tiles : Room s.canvas.size tiles
  pub for_turns : 8192 * (s.done + s.undone + 1) ≤ length turns
