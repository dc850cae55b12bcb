use Rattle.std.proofs.Common.{arith}
use Rattle.editor.proofs.Filing.{written_ends}
use Rattle.editor.proofs.files.write.Goals as goal

pub returns : goal.returns
returns c =
    written_ends c.args.editor.now c.args.turns.now c.args.file.now c.write_head-start.new.out c.write_slots.new.out c.write_head-start.result c.write_slots.result (omega arith) (omega arith)
    c.write_head-start.ensures.after c.write_head-start.ensures.end c.write_slots.ensures.after c.write_slots.ensures.end
