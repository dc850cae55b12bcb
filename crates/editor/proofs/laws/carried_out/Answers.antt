use Rattle.editor.proofs.Theorems.{carried_out, still_ready}
use Rattle.editor.proofs.laws.carried_out.Goals as goal

pub returns : goal.returns
returns c = record { one = carried_out; run = still_ready }
