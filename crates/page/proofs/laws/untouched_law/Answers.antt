use Rattle.page.proofs.Touching.{untouched_seen}
use Rattle.page.proofs.laws.untouched_law.Goals as goal

pub returns : goal.returns
returns c = untouched_seen
