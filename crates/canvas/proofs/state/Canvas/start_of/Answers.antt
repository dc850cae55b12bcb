use Rattle.std.proofs.Common.{◌≡◌, ◌*◌, ap₂, arith}
use Rattle.canvas.specs.View.{plane_at}
use Rattle.canvas.proofs.Views.{plane_in}
use Rattle.canvas.proofs.state.Canvas.start_of.Goals as goal

pub returns : goal.returns
returns c =
    let s = c.args.self.now in
    let plane = c.args.layer.plane in
    let is : 4 * c.area.result * c.from.result ≡ plane_at (s.size.wide * s.size.high) plane = ap₂ plane_at c.area.ensures.is c.from.ensures in
    record { is = is; ends = omega (arith, is, plane_in (s.size.wide * s.size.high) plane (omega arith)) }
