use Rattle.std.proofs.Common.{refl}
use Rattle.page.specs.Edits.{select_all}
use Rattle.canvas.proofs.Views.{bytes_reselected}
use Rattle.canvas.proofs.state.Canvas.select_all.Goals as goal

pub returns : goal.returns
returns c = bytes_reselected c.args.self.now select_all c.area-n.result _ _ (λ k. 255) (λ i j. 255) refl c.area-n.ensures.is c.set_bytes.ensures (λ i j iw jh. refl)
