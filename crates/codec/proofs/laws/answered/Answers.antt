use Rattle.codec.proofs.Told.{turn_answered, file_answered}
use Rattle.codec.proofs.laws.answered.Goals as goal

pub returns : goal.returns
returns c = record { turns = turn_answered; files = file_answered }
