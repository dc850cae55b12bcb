use Rattle.std.proofs.Common.{arith}
use Rattle.canvas.proofs.Arranged.{dropped}
use Rattle.canvas.proofs.state.Canvas.drop_layer.Goals as goal

pub returns-then-self-gt1 : goal.returns-then-self-gt1
returns-then-self-gt1 c = dropped c.args.self.now _ c.take_out.ensures (omega arith)
