use Rattle.std.proofs.Common.{refl}
use Rattle.page.specs.Edits.{set_visible}
use Rattle.page.specs.Layers.{Layer}
use Rattle.canvas.proofs.Arranged.{edit_by}
use Rattle.canvas.proofs.Setting.{entry_edited}
use Rattle.canvas.proofs.state.Canvas.set_visible.Goals as goal

pub returns : goal.returns
returns c =
    let s = c.args.self.now in
    let e = set_visible c.args.b in
    λ xs. edit_by s _ e xs xs refl (entry_edited s e _ (λ (l : Layer). record { pixels = l.pixels; mode = l.mode; opacity = l.opacity; visible = c.args.b }) xs refl refl)
