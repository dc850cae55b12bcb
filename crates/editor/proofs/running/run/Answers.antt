use Rattle.editor.proofs.Onward.{runs_row}
use Rattle.editor.proofs.running.run.Goals as goal

pub returns-clause-shown : goal.returns-clause-shown
returns-clause-shown c = runs_row c.args.script.now c.args.desk.now c.play.new.page _ _ _ c.in_ok-all.ensures
