use Rattle.std.proofs.Common.{◌≡◌, ◌+◌, drop}
use Rattle.words.specs.Table.{sizes}
use Rattle.words.proofs.table.have_size.Given as goal

abbrev pub invariant-loop-field : goal.invariant-loop-field
invariant-loop-field l = l.left + sizes l.fields ≡ l.bytes + sizes (drop l.field-index l.fields)
