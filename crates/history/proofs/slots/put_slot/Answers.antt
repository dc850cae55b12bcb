use Rattle.std.proofs.Common.{rules, arith}
use Rattle.history.proofs.Histories.{slot_put}
use Rattle.history.proofs.slots.put_slot.Goals as goal

pub returns : goal.returns
returns c = slot_put c.args.bytes.now c.args.turns.now c.copy_bytes.new.bytes c.args.k (search rules) (λ k. omega (arith, c.type_inv.turns k)) c.requires.0 c.requires.1 c.copy_bytes.ensures
