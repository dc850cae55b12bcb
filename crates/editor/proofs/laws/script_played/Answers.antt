use Rattle.editor.proofs.Decoding.{script_played}
use Rattle.editor.proofs.laws.script_played.Goals as goal

pub returns : goal.returns
returns c = script_played
