use Rattle.std.proofs.Common.{◌≡◌, length, Some, vec_items}
use Rattle.std.specs.Fmt.{option_append}
use Rattle.words.specs.Digits.{hex_bytes}
use Rattle.words.proofs.lines.read_hex.Given as goal

abbrev pub invariant-loop-rest : goal.invariant-loop-rest
invariant-loop-rest l = option_append (Some (vec_items l.turn)) (hex_bytes l.rest) ≡ option_append (Some (vec_items l.initial.turn)) (hex_bytes l.word)

abbrev pub decreases-loop-rest : goal.decreases-loop-rest
decreases-loop-rest l = length l.rest
