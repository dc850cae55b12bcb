use Rattle.std.proofs.Common.{vec_items, ◌∙◌}
use Rattle.reference.proofs.Adding.{appended}
use Rattle.reference.proofs.engine.append_turn.Goals as goal

pub returns-clause-reads : goal.returns-clause-reads
returns-clause-reads c = λ m b.
    let bytes = c.in_ok-extend_from_slice.ensures.items in
    let held = c.as_slice.ensures.value in
    appended (vec_items c.args.bytes.now) c.args.turn.now _ c.len-at.result c.edit_at-edit.result bytes (c.len-at.ensures ∙ c.args.bytes.now.ok.0)
    (rw held at c.edit_at-edit.ensures.is) (rw held at c.edit_at-edit.ensures.good) m b
