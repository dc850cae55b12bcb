use Rattle.std.proofs.Common.{vec_items, ◌∙◌}
use Rattle.reference.proofs.Keeping.{engine_pieces}
use Rattle.reference.proofs.state.Engine.file.Goals as goal

pub returns : goal.returns
returns c =
    let s = c.args.self.now in
    c.in_ok-append_file.ensures ∙ engine_pieces s (vec_items c.new-out.result) c.as_slice-2.result.now c.as_slice.result.now c.new-out.ensures.items c.as_slice-2.ensures.value c.as_slice.ensures.value
