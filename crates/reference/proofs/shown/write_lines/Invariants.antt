use Rattle.std.proofs.Common.{◌≡◌, ◌++◌, take, vec_items}
use Rattle.std.specs.List.{flat_map}
use Rattle.reference.specs.Lists.{meanings}
use Rattle.reference.specs.Shown.{edit_line}
use Rattle.reference.proofs.shown.write_lines.Given as goal

abbrev pub invariant-loop-edit : goal.invariant-loop-edit
invariant-loop-edit l = vec_items l.out ≡ vec_items l.initial.out ++ flat_map edit_line (meanings l.source (take l.edit-index l.edits))
