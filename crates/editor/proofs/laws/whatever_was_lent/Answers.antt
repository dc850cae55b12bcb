use Rattle.editor.proofs.Theorems.{whatever_was_lent}
use Rattle.editor.proofs.laws.whatever_was_lent.Goals as goal

pub returns : goal.returns
returns c = whatever_was_lent
