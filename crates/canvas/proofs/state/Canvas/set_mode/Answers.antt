use Rattle.std.proofs.Common.{ℕ, get_or, refl, ap, arith}
use Rattle.std.proofs.lemmas.Bool.{cond-true, lt-ltb}
use Rattle.page.specs.Edits.{set_mode}
use Rattle.page.specs.Layers.{Layer}
use Rattle.canvas.specs.View.{no_entry, layer_of}
use Rattle.canvas.proofs.Arranged.{edit_by, not_mode}
use Rattle.canvas.proofs.Setting.{mode_small, entry_edited}
use Rattle.canvas.proofs.state.Canvas.set_mode.Goals as goal

pub returns-in_default : goal.returns-in_default
returns-in_default c = λ xs. not_mode c.args.self.now xs c.args.m c.in_default.ensures.1

pub returns : goal.returns
returns c =
    let s = c.args.self.now in
    let m = c.args.m in
    let small = mode_small c.in-Ok.mode in
    let set : ℕ → Layer → Layer = λ n l. record { pixels = l.pixels; mode = n; opacity = l.opacity; visible = l.visible } in
    λ xs. edit_by s _ (set_mode m) xs xs refl (entry_edited s (set_mode m) _ (set m) xs (ap (λ n. set n (layer_of s.size.wide s.size.high xs (get_or s.layers s.active no_entry))) c.in-Ok.ensures)
    (cond-true _ _ _ (lt-ltb m 6 (omega arith))))
