use Rattle.std.proofs.Common.{rules, sym, arith}
use Rattle.std.proofs.lemmas.Grind.{common_steps}
use Rattle.codec.proofs.Sound.{headed}
use Rattle.codec.proofs.Means.{of_taken, read_turn_means}
use Rattle.codec.proofs.read.read_turn.Goals as goal

pub edit_in-requires : goal.edit_in-requires
edit_in-requires c =
    let bs = c.args.bytes.now in let end = c.in_ok-end-in_default.end in
    (headed bs 0 end (of_taken bs 0 c.args.against end (sym c.in_ok-end-in_default.ensures)).end).0

pub returns-in_err-end-in_default-clause-means : goal.returns-in_err-end-in_default-clause-means
returns-in_err-end-in_default-clause-means c = read_turn_means c.args.bytes.now c.args.against _ (search rules) (λ k. omega (arith, c.type_inv.bytes k))

pub returns-in_ok-end-in_default-clause-means : goal.returns-in_ok-end-in_default-clause-means
returns-in_ok-end-in_default-clause-means c = read_turn_means c.args.bytes.now c.args.against _ (grind (arith, common_steps)) (λ k. omega (arith, c.type_inv.bytes k))
