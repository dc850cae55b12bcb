use Rattle.codec.proofs.Rows.{edits_in_order}
use Rattle.codec.proofs.laws.edits_in_order.Goals as goal

pub returns : goal.returns
returns c = edits_in_order
