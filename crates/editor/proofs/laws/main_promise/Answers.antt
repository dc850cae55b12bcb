use Rattle.editor.proofs.Promised.{main_promise}
use Rattle.editor.proofs.laws.main_promise.Goals as goal

pub returns : goal.returns
returns c = main_promise
