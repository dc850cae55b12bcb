use Rattle.std.proofs.Common.{rules}
use Rattle.page.specs.Fits.{kind}
use Rattle.codec.specs.Meaning.{edit_of}
use Rattle.canvas.proofs.Unbuilt.{others_unbuilt, not_known}
use Rattle.canvas.proofs.applying.apply.Goals as goal

-- an edit of the layers writes no bytes
pub returns-in-DropLayer : goal.returns-in-DropLayer
unfolding kind
returns-in-DropLayer c = let so = c.drop_layer.ensures c.args.tiles.now in search rules

pub returns-in-ChooseLayer : goal.returns-in-ChooseLayer
unfolding kind
returns-in-ChooseLayer c = let so = c.choose_layer.ensures c.args.tiles.now in search rules

pub returns-in-RaiseLayer : goal.returns-in-RaiseLayer
unfolding kind
returns-in-RaiseLayer c = let so = c.raise_layer.ensures c.args.tiles.now in search rules

pub returns-in-SetMode : goal.returns-in-SetMode
unfolding kind
returns-in-SetMode c = let so = c.set_mode.ensures c.args.tiles.now in search rules

pub returns-in-SetOpacity : goal.returns-in-SetOpacity
unfolding kind
returns-in-SetOpacity c = let so = c.set_opacity.ensures c.args.tiles.now in search rules

pub returns-in-SetVisible : goal.returns-in-SetVisible
unfolding kind
returns-in-SetVisible c = let so = c.set_visible.ensures c.args.tiles.now in search rules

-- an edit of another kind is not built
pub returns-in-SelectSimilar : goal.returns-in-SelectSimilar
returns-in-SelectSimilar c =
    let bs = c.args.source.now in
    not_known c.args.canvas.now c.args.tiles.now (edit_of bs c.args.edit) (others_unbuilt bs c.args.edit c.in-SelectSimilar.is)
