use Rattle.std.proofs.Common.{◌≡◌, take}
use Rattle.page.specs.Edits.{blank, after}
use Rattle.page.specs.Agree.{Agree}
use Rattle.canvas.specs.View.{view}
use Rattle.reference.specs.Lists.{meanings}
use Rattle.reference.proofs.applying.replay.Given as goal

-- the page is what the edits so far make of the blank one
abbrev pub invariant-loop-edit : goal.invariant-loop-edit
invariant-loop-edit l =
    (l.canvas.size ≡ l.fn.size) × Agree (view l.canvas l.tiles) (after (blank l.fn.size.wide l.fn.size.high) (meanings l.source (take l.edit-index l.edits)))
