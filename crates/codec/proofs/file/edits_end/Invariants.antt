use Rattle.std.proofs.Common.{◌≡◌, ◌+◌, ◌-◌}
use Rattle.codec.specs.Files.{edits_end}
use Rattle.codec.proofs.file.edits_end.Given as goal

-- what is left ends where all does
abbrev pub invariant-loop-k : goal.invariant-loop-k
invariant-loop-k l = edits_end l.bytes l.turns l.k (l.fn.before + l.count - l.k) l.at ≡ edits_end l.bytes l.turns l.fn.before l.count l.start
