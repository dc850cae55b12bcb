use Rattle.std.proofs.Common.{arith}
use Rattle.pixel.proofs.runs.no_bytes.Goals as goal

pub returns : goal.returns
returns c = record { is = c.is_empty.ensures; small = λ k. omega (arith, c.type_inv.bytes k) }
