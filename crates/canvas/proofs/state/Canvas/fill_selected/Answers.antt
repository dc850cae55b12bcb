use Rattle.canvas.proofs.Views.{filled}
use Rattle.canvas.proofs.state.Canvas.fill_selected.Goals as goal

pub returns : goal.returns
returns c =
    filled c.args.self.now c.area-n.result c.plane_of.result _ _ c.args.p c.area-n.ensures.is c.plane_of.ensures.is c.fill_pixels.ensures
