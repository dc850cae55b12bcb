use Rattle.std.proofs.Common.{◌≡◌, drop, Some, vec_items}
use Rattle.std.specs.Fmt.{option_append}
use Rattle.words.specs.Split.{words_of}
use Rattle.words.specs.Table.{fields_bytes}
use Rattle.words.proofs.lines.read_fields.Given as goal

abbrev pub invariant-loop-field : goal.invariant-loop-field
invariant-loop-field l =
    option_append (Some (vec_items l.turn)) (fields_bytes (drop l.field-index l.fields) (words_of l.rest))
    ≡ option_append (Some (vec_items l.initial.turn)) (fields_bytes l.fields (words_of l.line))
