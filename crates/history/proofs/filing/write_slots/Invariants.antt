use Rattle.codec.proofs.Writes.{PutRow}
use Rattle.history.specs.Slots.{edits_in}
use Rattle.history.proofs.filing.write_slots.Given as goal

-- the edits of the first k slots are put
abbrev pub invariant-loop-k : goal.invariant-loop-k
invariant-loop-k l = PutRow l.initial.out l.out l.start l.at (edits_in l.turns 0 l.k)
