use Rattle.std.proofs.Common.{ap}
use Rattle.page.specs.Selection.{mask_of}
use Rattle.canvas.proofs.Rowing.{rows_more}
use Rattle.canvas.proofs.selecting.select_rows.Goals as goal

pub loop-j-preserved : goal.loop-j-preserved
loop-j-preserved c =
    rows_more _ _ c.args.at c.args.size.wide c.loop-j.j _ _ _ c.loop-j.invariant c.select_columns.ensures (λ i iw. ap mask_of (c.columns_of-columns.ensures.same i iw))
