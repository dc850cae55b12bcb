use Rattle.std.proofs.Common.{Ok, Err, arith, rules}
use Rattle.codec.specs.declared.edits.Refusal.TheVariants.{GoesOn}
use Rattle.codec.proofs.Files.{read_file_means}
use Rattle.codec.proofs.file.read_file.Goals as goal

pub returns-then-end-bytes-clause-means : goal.returns-then-end-bytes-clause-means
returns-then-end-bytes-clause-means c =
    read_file_means c.args.bytes.now c.args.lent (Err (GoesOn c.in_ok-end.end)) (search rules) (λ k. omega (arith, c.type_inv.bytes k))

pub returns-clause-means : goal.returns-clause-means
returns-clause-means c =
    read_file_means c.args.bytes.now c.args.lent (Ok (record { width = c.two.result; height = c.two-2.result; done = c.four.result; undone = c.four-2.result })) (search rules)
    (λ k. omega (arith, c.type_inv.bytes k))
