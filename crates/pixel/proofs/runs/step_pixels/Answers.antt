use Rattle.std.proofs.Common.{arith}
use Rattle.pixel.proofs.Steps.{pixels_by_none, pixels_by_step}
use Rattle.pixel.proofs.runs.step_pixels.Goals as goal

pub loop-k-init : goal.loop-k-init
loop-k-init g c = pixels_by_none _ _ _ _

pub loop-k-preserved : goal.loop-k-preserved
loop-k-preserved g c =
    pixels_by_step _ c.args.from c.args.at c.args.n c.loop-k.k c.args.bytes.now c.loop-k.bytes c.write_pixel.new.bytes c.step.result (omega arith) (omega arith) c.requires.lies.1.1
    c.write_pixel.ensures c.loop-k.invariant c.read_pixel-mate.ensures c.read_pixel-here.ensures c.step.ensures
