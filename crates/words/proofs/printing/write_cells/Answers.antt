use Rattle.std.proofs.Common.{◌++◌, vec_items, ap, ◌∙◌}
use Rattle.words.specs.Printing.{cell}
use Rattle.words.proofs.Pieces.{one_more}
use Rattle.words.proofs.printing.write_cells.Goals as goal

pub loop-x-preserved : goal.loop-x-preserved
loop-x-preserved g c =
    let format = c.args.format in
    one_more (λ x. cell format x (g.P.Shows.seen c.args.page.now x c.args.y)) c.loop-x.x (vec_items c.args.out.now) (vec_items c.loop-x.out) (vec_items c.write_cell.new.out) c.loop-x.invariant
    (c.in_ok-write_cell.ensures ∙ ap (λ p. vec_items c.loop-x.out ++ cell format c.loop-x.x p) c.pixel.ensures)
