use Rattle.std.proofs.Common.{◌≡◌, length, Some, vec_items}
use Rattle.std.specs.Fmt.{option_append}
use Rattle.words.specs.Split.{words_of}
use Rattle.words.specs.Lines.{hex_words}
use Rattle.words.proofs.lines.read_hex_words.Given as goal

abbrev pub invariant-loop-word : goal.invariant-loop-word
invariant-loop-word l =
    option_append (Some (vec_items l.turn)) (hex_words (words_of l.rest))
    ≡ option_append (Some (vec_items l.initial.turn)) (hex_words (words_of l.initial.rest))

abbrev pub decreases-loop-word : goal.decreases-loop-word
decreases-loop-word l = length (words_of l.rest)
