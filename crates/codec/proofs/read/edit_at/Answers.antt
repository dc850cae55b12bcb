use Rattle.std.proofs.Common.{sym, subst, arith}
use Rattle.codec.specs.Laws.{EditGood}
use Rattle.codec.proofs.Means.{good_at}
use Rattle.codec.proofs.read.edit_at.Goals as goal

pub returns-in-Ok-clause-good : goal.returns-in-Ok-clause-good
returns-in-Ok-clause-good c =
    let bs = c.args.bytes.now in
    subst (EditGood bs) (sym c.edit_in.ensures) (good_at bs c.args.at c.in-Ok.end (λ k. omega (arith, c.type_inv.bytes k)) (sym c.in-Ok.ensures))
