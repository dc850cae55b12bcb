use Rattle.pixel.specs.Bytes.{PixelsTo}
use Rattle.pixel.proofs.runs.set_pixels.Given as goal

abbrev pub invariant-loop-k : goal.invariant-loop-k
invariant-loop-k l = PixelsTo (λ k. l.p) l.at l.k l.initial.bytes l.bytes
