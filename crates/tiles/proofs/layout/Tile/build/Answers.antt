-- The tile is made white, which leaves the planes, and so what is seen.
use Rattle.std.proofs.Common.{ℕ, ◌+◌, ◌-◌, ◌*◌, subst, arith}
use borrow.Rule.Slice.PartMut.{put_mid}
use Rattle.tiles.specs.Places.{SeenTo}
use Rattle.tiles.proofs.Grids.{grid_white, grid_again}
use Rattle.tiles.proofs.Offsets.{tile_fits}
use Rattle.tiles.proofs.Seeing.{seen_same, planes_kept}
use Rattle.tiles.proofs.layout.Tile.build.Goals as goal

pub lay_layers-requires : goal.lay_layers-requires
lay_layers-requires c =
    let t = c.args.self.now in
    let a = t.area in
    let z = t.canvas.now.size in
    let fits = tile_fits z.wide z.high a (omega arith) (omega arith) in
    let white = grid_white t.at a.wide a.high _ c.args.tiles.now c.whiten.new.tile (omega arith) (omega (arith, fits)) c.whiten.auto.tile c.whiten.ensures in
    (omega (arith, white.wrote.long), white.written)

pub returns : goal.returns
returns c =
    let t = c.args.self.now in
    let a = t.area in
    let s = t.canvas.now in
    let xs = c.args.tiles.now in
    let n = t.at + 4 * (a.high * a.wide) - t.at in
    let ys = put_mid t.at n xs c.whiten.new.tile in
    let fits = tile_fits s.size.wide s.size.high a (omega arith) (omega arith) in
    let white = grid_white t.at a.wide a.high n xs c.whiten.new.tile (omega arith) (omega (arith, fits)) c.whiten.auto.tile c.whiten.ensures in
    let seen = grid_again t.at a.wide _ _ a.high xs ys c.lay_layers.new.tiles white.wrote c.lay_layers.ensures
    (λ i j iw jh. seen_same s xs ys (a.left + i) (a.top + j) (planes_kept s _ _ xs ys (a.left + i) (a.top + j) (omega arith) (omega arith) (omega arith) white.wrote)) in
    subst (λ (q : ℕ). SeenTo s a q xs c.lay_layers.new.tiles) t.placed seen
