use Rattle.std.proofs.Common.{vec_items}
use Rattle.reference.proofs.Opening.{SoFar}
use Rattle.reference.proofs.files.edits_in.Given as goal

abbrev pub invariant-loop : goal.invariant-loop
invariant-loop l = SoFar l.bytes l.counter l.at (vec_items l.edits)
