use Rattle.std.proofs.Common.{refl, arith}
use Rattle.pixel.proofs.Differing.{row_none, row_some}
use Rattle.pixel.proofs.areas.unlike_in_row.Goals as goal

pub returns-in_default : goal.returns-in_default
returns-in_default c = row_none _ _ _ _ _ _ c.args.n c.in_default.ensures refl

pub returns : goal.returns
returns c = row_some _ _ _ _ _ _ c.in-Some.first c.last_unlike-end.result c.in-Some.ensures.0 (λ e. omega (arith, c.in-Some.ensures.1)) c.last_unlike-end.ensures
