use Rattle.reference.proofs.Keeping.{kept_in_files}
use Rattle.reference.proofs.laws.kept_in_files.Goals as goal

pub returns : goal.returns
returns c = kept_in_files
