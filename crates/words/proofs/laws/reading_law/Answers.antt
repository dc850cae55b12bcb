use Rattle.words.proofs.Reading.{reads_back}
use Rattle.words.proofs.laws.reading_law.Goals as goal

pub returns : goal.returns
returns c = reads_back
