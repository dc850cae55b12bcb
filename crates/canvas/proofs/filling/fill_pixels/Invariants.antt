use Rattle.std.proofs.Common.{◌+◌, ◌*◌, get_or}
use Rattle.pixel.specs.Pixels.{pixel_lerp}
use Rattle.pixel.specs.Bytes.{pixel_at, PixelsTo}
use Rattle.canvas.proofs.filling.fill_pixels.Given as goal

abbrev pub invariant-loop-k : goal.invariant-loop-k
invariant-loop-k l = PixelsTo (λ k. pixel_lerp (get_or l.initial.by-items k 0) l.p (pixel_at l.initial.planes (l.at + 4 * k))) l.at l.k l.initial.planes l.planes
