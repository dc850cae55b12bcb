use Rattle.std.proofs.Common.{◌≡◌}
use Rattle.page.specs.Agree.{Agree}
use Rattle.canvas.specs.View.{view}
use Rattle.history.specs.Slots.{latest_in, made_by}
use Rattle.history.proofs.slots.replay.Given as goal

-- the page is what the first k edits make of the blank one
abbrev pub invariant-loop-k : goal.invariant-loop-k
invariant-loop-k l =
    (l.canvas.size ≡ l.fn.size) × Agree (view l.canvas l.tiles) (made_by l.fn.size.wide l.fn.size.high (latest_in l.turns l.k))
