use Rattle.std.proofs.Common.{refl}
use Rattle.words.specs.Table.{table}
use Rattle.words.proofs.table.forms.Goals as goal

pub returns : goal.returns
unfolding table
returns c = refl
