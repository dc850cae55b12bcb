use Rattle.std.proofs.Common.{◌≤◌}
use Rattle.draw.proofs.lines_in.Given as goal

-- no more line feeds than bytes
abbrev pub invariant-loop-b : goal.invariant-loop-b
invariant-loop-b l = l.feeds ≤ l.b-index
