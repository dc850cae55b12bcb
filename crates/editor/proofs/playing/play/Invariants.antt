use Rattle.std.proofs.Common.{◌-◌, List, length}
use Rattle.page.specs.History.{Turn}
use Rattle.editor.specs.Script.{Come, desk}
use Rattle.editor.proofs.playing.play.Given as goal

-- the turns up to `at` are those that the desk came about by
abbrev pub invariant-loop-at : goal.invariant-loop-at
invariant-loop-at l = (ts : List Turn) × Come l.width l.height l.at l.script ts (desk l.editor l.turns l.tiles l.work)

abbrev pub decreases-loop-at : goal.decreases-loop-at
decreases-loop-at l = length l.script - l.at
