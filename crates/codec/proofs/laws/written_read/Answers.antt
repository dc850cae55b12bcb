use Rattle.codec.proofs.Complete.{written_read}
use Rattle.codec.proofs.Means.{written_turn_read}
use Rattle.codec.proofs.Files.{file_written_read}
use Rattle.codec.proofs.laws.written_read.Goals as goal

pub returns : goal.returns
returns c = record { edits = written_read; turns = written_turn_read; files = file_written_read }
