use Rattle.std.proofs.Common.{◌≡◌, ℕ, ◌+◌, ◌*◌, ◌<◌, ◌≤◌}
use Rattle.pixel.specs.Bytes.{pixel_at}
use Rattle.pixel.proofs.areas.last_unlike.Given as goal

abbrev pub invariant-loop-k : goal.invariant-loop-k
invariant-loop-k l = (k : ℕ) → l.k ≤ k → k < l.n → pixel_at l.bytes (l.at + 4 * k) ≡ pixel_at l.bytes (l.by + 4 * k)
