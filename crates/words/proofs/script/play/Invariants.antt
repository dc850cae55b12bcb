use Rattle.std.proofs.Common.{◌+◌, ◌≤◌, length, string_bytes}
use Rattle.words.specs.Script.{lines_of}
use Rattle.words.proofs.Playing.{Onward}
use Rattle.words.proofs.script.play.Given as goal

abbrev pub invariant-loop-line : goal.invariant-loop-line
invariant-loop-line g l =
    (l.number + length l.rest ≤ length l.script)
    × Onward g.P.Takes.steps (l.number + 1) (lines_of l.rest) l.page (string_bytes l.messages) l.all (lines_of l.script) l.initial.page (string_bytes l.initial.messages)

abbrev pub decreases-loop-line : goal.decreases-loop-line
decreases-loop-line g l = length l.rest
