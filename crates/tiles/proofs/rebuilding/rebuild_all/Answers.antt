-- Every tile meets the whole page.
use Rattle.tiles.proofs.Kept.{shown_all}
use Rattle.tiles.proofs.rebuilding.rebuild_all.Goals as goal

pub returns : goal.returns
returns c =
    let built = c.rebuild.ensures.built in
    record { shown = shown_all c.args.canvas.now c.args.tiles.now c.rebuild.new.tiles built; wrote = built.wrote }
