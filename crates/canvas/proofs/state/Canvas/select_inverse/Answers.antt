use Rattle.std.proofs.Common.{◌+◌, ◌-◌, ◌*◌, get_or, refl, ap}
use Rattle.page.specs.Edits.{select_inverse}
use Rattle.canvas.proofs.Views.{bytes_reselected}
use Rattle.canvas.proofs.state.Canvas.select_inverse.Goals as goal

pub returns : goal.returns
returns c =
    let s = c.args.self.now in
    let xs = c.args.tiles.now in
    bytes_reselected s select_inverse c.area-n.result _ _ _ (λ i j. 255 - get_or xs (516 * (s.size.wide * s.size.high) + (j * s.size.wide + i)) 0) refl c.area-n.ensures.is c.invert_bytes.ensures
    (λ i j iw jh. ap (λ n. 255 - get_or xs (516 * n + (j * s.size.wide + i)) 0) c.area-n.ensures.is)
