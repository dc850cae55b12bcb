use Rattle.pixel.specs.Bytes.{PixelsBy}
use Rattle.pixel.proofs.runs.step_pixels.Given as goal

abbrev pub invariant-loop-k : goal.invariant-loop-k
invariant-loop-k g l = PixelsBy (λ a b r. goal.F-post g l.step a b r) l.from l.at l.k l.initial.bytes l.bytes
