use Rattle.std.proofs.Common.{ℕ, get_or, refl, ap, arith}
use Rattle.std.proofs.lemmas.Bool.{cond-true, lt-ltb}
use Rattle.page.specs.Edits.{set_opacity}
use Rattle.page.specs.Layers.{Layer}
use Rattle.canvas.specs.View.{no_entry, layer_of}
use Rattle.canvas.proofs.Arranged.{edit_by, not_opacity}
use Rattle.canvas.proofs.Setting.{entry_edited}
use Rattle.canvas.proofs.state.Canvas.set_opacity.Goals as goal

pub returns-in_default : goal.returns-in_default
returns-in_default c = λ xs. not_opacity c.args.self.now xs c.args.a (omega (arith, c.in_default.ensures))

pub returns : goal.returns
returns c =
    let s = c.args.self.now in
    let a = c.args.a in
    let set : ℕ → Layer → Layer = λ n l. record { pixels = l.pixels; mode = l.mode; opacity = n; visible = l.visible } in
    λ xs. edit_by s _ (set_opacity a) xs xs refl (entry_edited s (set_opacity a) _ (set a) xs (ap (λ n. set n (layer_of s.size.wide s.size.high xs (get_or s.layers s.active no_entry))) c.in-Ok.ensures.1)
    (cond-true _ _ _ (lt-ltb a 256 c.in-Ok.ensures.0)))
