use Rattle.std.proofs.Common.{◌+◌, length, ap, ◌∙◌, arith}
use Rattle.codec.specs.Put.{put_at}
use Rattle.codec.proofs.Writes.{then_room, then_put, then_end}
use Rattle.codec.proofs.write.write_edit.Goals as goal

pub put-requires : goal.put-requires
put-requires c =
    let head = c.write_edit_head-then in
    omega (
      arith,
      ap length c.tail.ensures,
      head.ensures.end,
      then_room c.args.source.now c.args.edit (λ k. omega (arith, c.type_inv.source k)) c.requires.held c.args.out.now head.new.out c.args.at head.result c.requires.fits head.ensures.after head.ensures.end,
    )

pub returns-clause-after : goal.returns-clause-after
returns-clause-after c =
    let head = c.write_edit_head-then in
    c.put.ensures.after ∙ (ap (put_at head.new.out head.result) c.tail.ensures
    ∙ then_put c.args.source.now c.args.edit (λ k. omega (arith, c.type_inv.source k)) c.requires.held c.args.out.now head.new.out c.args.at head.result c.requires.fits head.ensures.after head.ensures.end)

pub returns-clause-end : goal.returns-clause-end
returns-clause-end c =
    let head = c.write_edit_head-then in
    c.put.ensures.end ∙ (ap (λ bs. head.result + length bs) c.tail.ensures
    ∙ then_end c.args.source.now c.args.edit (λ k. omega (arith, c.type_inv.source k)) c.requires.held c.args.out.now head.new.out c.args.at head.result c.requires.fits head.ensures.after head.ensures.end)
