use Rattle.std.proofs.Common.{◌+◌, vec_items, sym, subst}
use Rattle.reference.proofs.Opening.{SoFar, read_more}
use Rattle.reference.proofs.files.edits_in.Goals as goal

pub loop-preserved : goal.loop-preserved
loop-preserved c =
    subst (SoFar c.args.bytes.now (c.loop.counter + 1) c.edit_at-edit.result.1) (sym c.in_ok-push.ensures.items)
    (read_more c.args.bytes.now c.loop.counter c.loop.at (vec_items c.loop.edits) c.edit_at-edit.result c.loop.invariant c.edit_at-edit.ensures.is c.edit_at-edit.ensures.good)
