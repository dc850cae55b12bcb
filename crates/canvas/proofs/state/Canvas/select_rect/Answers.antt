use Rattle.std.proofs.Common.{refl}
use Rattle.page.specs.Edits.{select_rect}
use Rattle.canvas.proofs.Views.{rows_reselected}
use Rattle.canvas.proofs.state.Canvas.select_rect.Goals as goal

pub returns : goal.returns
returns c =
    let r = c.args.rect in
    rows_reselected c.args.self.now (select_rect r.x r.y r.width r.height) c.area-n.result _ _ _ refl c.area-n.ensures.is c.select_rows.ensures
