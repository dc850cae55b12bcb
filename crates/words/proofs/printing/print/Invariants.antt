use Rattle.std.proofs.Common.{◌≡◌, ◌++◌, vec_items}
use Rattle.words.specs.Printing.{heading, rows}
use Rattle.words.proofs.printing.print.Given as goal

abbrev pub invariant-loop-y : goal.invariant-loop-y
invariant-loop-y g l = vec_items l.out ≡ heading l.format l.wide l.high ++ rows l.format l.wide l.y (g.P.Shows.seen l.page)
