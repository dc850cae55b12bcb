use Rattle.editor.proofs.Theorems.{undone_and_redone}
use Rattle.editor.proofs.laws.undone_and_redone.Goals as goal

pub returns : goal.returns
returns c = undone_and_redone
