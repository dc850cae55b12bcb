use Rattle.editor.proofs.Theorems.{outside_stays}
use Rattle.editor.proofs.laws.outside_stays.Goals as goal

pub returns : goal.returns
returns c = outside_stays
