use Rattle.std.proofs.Common.{subst, arith}
use Rattle.std.proofs.lemmas.Result.{on_ok_weaker}
use Rattle.codec.specs.Put.{head_of, tail_of}
use Rattle.codec.proofs.Writes.{head_tail}
use Rattle.codec.proofs.write.put_edit.Goals as goal

pub returns : goal.returns
returns g c =
    let bs = c.args.source.now in let e = c.args.edit in let S = g.S.Sink in
    on_ok_weaker c.put.result
    (λ put. subst (λ l. S.puts c.args.sink.now l c.put.new.self) (head_tail bs e (λ k. omega (arith, c.type_inv.source k)) c.requires.held)
    (g.met.S.Sink.puts_both c.args.sink.now c.put_edit_head.new.sink c.put.new.self (head_of e) (tail_of bs e) c.in_ok-put_edit_head.ensures
    (subst (λ l. S.puts c.put_edit_head.new.sink l c.put.new.self) c.tail.ensures put)))
    c.put.ensures
