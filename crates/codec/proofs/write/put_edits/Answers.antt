use Rattle.std.proofs.Common.{map, take}
use Rattle.codec.specs.declared.edits.Edit.TheVariants.{AddLayer}
use Rattle.codec.specs.Meaning.{edit_of}
use Rattle.codec.specs.Files.{all_written}
use Rattle.codec.proofs.Writes.{rows_within}
use Rattle.codec.proofs.write.put_edits.Goals as goal

pub put_edit-requires-clause-room : goal.put_edit-requires-clause-room
put_edit-requires-clause-room g c =
    let bs = c.args.source.now in let edits = c.args.edits.now in let i = c.loop-edit.edit-index in
    g.met.S.Sink.fits_rest c.args.sink.now c.loop-edit.sink (all_written (map (edit_of bs) (take i edits))) _
    (g.met.S.Sink.fits_fewer c.args.sink.now _ _ (rows_within bs edits i AddLayer c.loop-edit-test.true) c.requires.room) c.loop-edit.invariant
