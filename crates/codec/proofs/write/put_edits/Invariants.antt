use Rattle.std.proofs.Common.{map, take}
use Rattle.codec.specs.Meaning.{edit_of}
use Rattle.codec.specs.Files.{all_written}
use Rattle.codec.proofs.write.put_edits.Given as goal

-- the edits so far are put
abbrev pub invariant-loop-edit : goal.invariant-loop-edit
invariant-loop-edit g l = g.S.Sink.puts l.initial.sink (all_written (map (edit_of l.source) (take l.edit-index l.edits))) l.sink
