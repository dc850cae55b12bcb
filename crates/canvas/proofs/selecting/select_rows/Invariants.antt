use Rattle.page.specs.Selection.{mask_of}
use Rattle.canvas.specs.Rows.{in_rect, RowsTo}
use Rattle.canvas.proofs.selecting.select_rows.Given as goal

abbrev pub invariant-loop-j : goal.invariant-loop-j
invariant-loop-j l = RowsTo (λ i j. mask_of (in_rect l.rect i j)) l.at l.size.wide l.j l.initial.tiles l.tiles
