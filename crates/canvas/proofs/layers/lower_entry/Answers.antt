use Rattle.std.proofs.Common.{arith}
use Rattle.canvas.proofs.Moving.{lowered}
use Rattle.canvas.proofs.layers.lower_entry.Goals as goal

pub returns : goal.returns
returns c = lowered c.args.lo c.args.hi _ _ (omega arith) (omega arith) c.rotate_right.ensures.len c.rotate_right.ensures.by_index
