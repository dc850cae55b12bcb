use Rattle.std.proofs.Common.{◌≡◌, ◌*◌, ◌<◌, ◌≤◌, get_or, take, length, sym, refl, ap, ◌∙◌, arith, rules}
use Rattle.std.proofs.lemmas.List.{get_or-take}
use Rattle.std.proofs.lemmas.Nat.{mul-add-lt}
use Rattle.pixel.specs.Pixels.{white}
use Rattle.page.specs.Layers.{layer_over}
use Rattle.canvas.specs.View.{layer_of, no_entry}
use Rattle.canvas.proofs.Layering.{composite_more}
use Rattle.reference.proofs.seeing.seen_pixel.Goals as goal
use Rattle.reference.proofs.seeing.seen_pixel.Goals.{then-layer, else-layer}

pub read_pixel-requires : goal.read_pixel-requires
read_pixel-requires c =
    let s = c.args.canvas.now in
    let there : c.args.x < s.size.wide = grind arith in
    let below : c.args.y < s.size.high = search rules in
    let room : 544 * (s.size.wide * s.size.high) ≤ length c.args.tiles.now = search rules in
    omega (arith, room, c.start_of.ensures.ends, mul-add-lt c.args.y s.size.wide c.args.x s.size.high below there)

pub loop-layer-preserved : goal.loop-layer-preserved
loop-layer-preserved c =
    let s = c.args.canvas.now in
    let xs = c.args.tiles.now in
    let k = c.loop-layer.layer-index in
    let is : get_or (take s.count s.layers) k no_entry ≡ get_or s.layers k no_entry = get_or-take s.count s.layers k no_entry (omega arith) in
    let new : c.if-layer.seen ≡ layer_over (layer_of s.size.wide s.size.high xs (get_or (take s.count s.layers) k no_entry)) c.args.x c.args.y c.loop-layer.seen
    = elim c.if-layer.branch [
      | then-layer w ↦ rw (w.seen-is, w.lay_pixel-seen.ensures, w.read_pixel.ensures, w.start_of.ensures.is, w.if-layer.true) refl
      | else-layer w ↦ rw (w.seen-is, w.if-layer.false) refl
    ] in
    new
    ∙ ap (λ e. layer_over (layer_of s.size.wide s.size.high xs e) c.args.x c.args.y c.loop-layer.seen) is
    ∙ ap (layer_over (layer_of s.size.wide s.size.high xs (get_or s.layers k no_entry)) c.args.x c.args.y) c.loop-layer.invariant
    ∙ sym (composite_more s.size.wide s.size.high xs s.layers k no_entry (λ i j. white) c.args.x c.args.y (omega arith))
