use Rattle.std.proofs.Common.{arith}
use Rattle.canvas.proofs.Moving.{raised}
use Rattle.canvas.proofs.layers.raise_entry.Goals as goal

pub returns : goal.returns
returns c = raised c.args.lo c.args.hi _ _ (omega arith) (omega arith) c.rotate_left.ensures.len c.rotate_left.ensures.by_index
