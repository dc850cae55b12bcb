use Rattle.std.proofs.Common.{◌≡◌, ◌++◌, length, drop, vec_items}
use Rattle.words.specs.Split.{spaced}
use Rattle.words.specs.Table.{sizes, field_words}
use Rattle.words.proofs.turns.write_fields.Given as goal

abbrev pub invariant-loop-field : goal.invariant-loop-field
invariant-loop-field l =
    (length l.rest ≡ sizes (drop l.field-index l.fields))
    × (vec_items l.out ++ spaced (field_words (drop l.field-index l.fields) l.rest)
    ≡ vec_items l.initial.out ++ spaced (field_words l.fields l.bytes))
