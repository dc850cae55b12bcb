use Rattle.editor.proofs.Coming.{shows_the_page}
use Rattle.editor.proofs.laws.shows_the_page.Goals as goal

pub returns : goal.returns
returns c = shows_the_page
