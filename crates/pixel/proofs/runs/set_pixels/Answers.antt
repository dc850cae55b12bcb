use Rattle.std.proofs.Common.{refl, arith}
use Rattle.pixel.proofs.Steps.{pixels_step}
use Rattle.pixel.proofs.runs.set_pixels.Goals as goal

pub loop-k-preserved : goal.loop-k-preserved
loop-k-preserved c =
    pixels_step (λ k. c.args.p) c.args.at c.loop-k.k c.args.bytes.now c.loop-k.bytes c.write_pixel.new.bytes c.args.p (omega arith) c.write_pixel.ensures refl c.loop-k.invariant
