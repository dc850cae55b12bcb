use Rattle.std.proofs.Common.{take, drop, vec_items, ap, ◌∙◌}
use Rattle.reference.proofs.Texts.{text_pieces}
use Rattle.reference.proofs.state.Engine.edits_text.Goals as goal

pub returns : goal.returns
returns c =
    let s = c.args.self.now in
    text_pieces s (vec_items c.new-out.result) (vec_items c.write_lines.new.out) (vec_items c.extend_from_slice.new.self) (vec_items c.write_lines-2.new.out) c.as_slice-source.result.now c.split_at.result.0.now c.split_at.result.1.now
    c.new-out.ensures.items c.as_slice-source.ensures.value (c.split_at.ensures.front ∙ ap (take s.done) c.as_slice.ensures.value) (c.split_at.ensures.back ∙ ap (drop s.done) c.as_slice.ensures.value)
    c.in_ok-write_lines.ensures c.in_ok-extend_from_slice.ensures.items c.in_ok-write_lines-2.ensures
