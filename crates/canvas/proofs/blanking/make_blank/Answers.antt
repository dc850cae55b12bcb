use Rattle.canvas.proofs.Views.{blanked}
use Rattle.canvas.proofs.blanking.make_blank.Goals as goal

pub returns : goal.returns
returns c =
    blanked c.args.size c.area-n.result c.new_canvas.result _ _ _ _ c.area-n.ensures.is c.new_canvas.ensures c.set_pixels.ensures c.set_bytes.ensures c.set_pixels-2.ensures
