-- One layer more: its plane is as it was before the first.
use Rattle.std.proofs.Common.{◌+◌, get_or, sym, ◌∙◌, subst, arith}
use Rattle.std.proofs.lemmas.List.{get_or-take}
use Rattle.canvas.specs.declared.state.Layer.{Layer as Entry}
use Rattle.canvas.specs.View.{no_entry}
use Rattle.tiles.specs.Laying.{Laid}
use Rattle.tiles.proofs.Grids.{grid_again}
use Rattle.tiles.proofs.Seeing.{layer_same, seen_more, planes_kept}
use Rattle.tiles.proofs.layout.Tile.lay_layers.Goals as goal

pub loop-layer-preserved : goal.loop-layer-preserved
loop-layer-preserved c =
    let t = c.args.self.now in
    let a = t.area in
    let s = t.canvas.now in
    let k = c.loop-layer.layer-index in
    let xs = c.args.tiles.now in
    let ys = c.loop-layer.tiles in
    let e = get_or s.layers k no_entry in
    let laid : Laid e t ys c.lay_layer.new.tiles
    = subst (λ (d : Entry). Laid d t ys c.lay_layer.new.tiles) (get_or-take s.count s.layers k no_entry (omega arith)) c.lay_layer.ensures in
    grid_again t.at a.wide _ _ a.high xs ys c.lay_layer.new.tiles c.loop-layer.invariant.wrote laid
    (λ i j iw jh.
    layer_same s xs ys e (a.left + i) (a.top + j) _ _ (s.planes k no_entry (omega arith))
    (planes_kept s _ _ xs ys (a.left + i) (a.top + j) (omega arith) (omega arith) (omega arith) c.loop-layer.invariant.wrote) (c.loop-layer.invariant.written i j iw jh)
    ∙ sym (seen_more s xs k (a.left + i) (a.top + j) (omega arith)))
