use Rattle.std.proofs.Common.{◌≡◌, ◌++◌, vec_items}
use Rattle.words.specs.Printing.{cells}
use Rattle.words.proofs.printing.write_cells.Given as goal

abbrev pub invariant-loop-x : goal.invariant-loop-x
invariant-loop-x g l = vec_items l.out ≡ vec_items l.initial.out ++ cells l.format l.x (λ x. g.P.Shows.seen l.page x l.y)
