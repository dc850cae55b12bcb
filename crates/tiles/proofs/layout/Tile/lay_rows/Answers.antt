-- A turn lays a row of the plane, which lies below the tile, on a row that none before it has written.
use Rattle.std.proofs.Common.{◌≡◌, ℕ, ◌+◌, ◌*◌, ap, ◌∙◌, ap₂, inl, inr, mul-le-mul_right, arith, rules}
use Rattle.pixel.specs.Modes.{mode_number}
use Rattle.pixel.specs.Pixels.{pixel_over}
use Rattle.pixel.specs.Bytes.{pixel_at}
use Rattle.pixel.proofs.Steps.{pixel_kept, pixels_by_one}
use Rattle.tiles.specs.Laying.{tile_pixel}
use Rattle.tiles.proofs.Grids.{grid_more, grid_after, grid_is}
use Rattle.tiles.proofs.Offsets.{tile_fits}
use Rattle.tiles.proofs.layout.Tile.lay_rows.Goals as goal

pub step_pixels-requires-clause-lies : goal.step_pixels-requires-clause-lies
step_pixels-requires-clause-lies c =
    let t = c.args.self.now in
    let a = t.area in
    let r = c.loop-r.r in
    let z = t.canvas.now.size in
    let row = mul-le-mul_right {m = r + 1} {n = a.high} a.wide (omega arith) in
    let plane = mul-le-mul_right {m = a.top + r + 1} {n = z.high} z.wide (omega arith) in
    let fits = tile_fits z.wide z.high a (omega arith) (omega arith) in
    (omega (arith, row, fits), (omega (arith, plane), inr (omega (arith, plane))))

pub loop-r-preserved : goal.loop-r-preserved
loop-r-preserved c =
    let t = c.args.self.now in
    let a = t.area in
    let r = c.loop-r.r in
    let z = t.canvas.now.size in
    let xs = c.args.tiles.now in
    let ys = c.loop-r.tiles in
    let over = pixel_over (mode_number c.args.layer.mode) c.args.layer.opacity in
    let from = c.start_of.result + 4 * (a.top * z.wide + a.left) + 4 * (r * z.wide) in
    let row = pixels_by_one _ over from (t.at + 4 * (r * a.wide)) a.wide ys c.step_pixels.new.bytes (λ k l so. search rules) c.step_pixels.ensures in
    grid_more t.at a.wide _ _ r xs ys c.step_pixels.new.bytes c.loop-r.invariant row
    (λ i iw.
    let to : t.at + 4 * (r * a.wide) + 4 * i ≡ t.at + 4 * (r * a.wide + i) = omega arith in
    ap₂ over
    (pixel_kept _ _ xs ys (from + 4 * i) c.loop-r.invariant.wrote (inl (omega (arith, mul-le-mul_right {m = a.top + r + 1} {n = z.high} z.wide (omega arith)))))
    (grid_after t.at a.wide _ r xs ys (t.at + 4 * (r * a.wide) + 4 * i) c.loop-r.invariant (omega arith) ∙ ap (pixel_at xs) to))

pub returns : goal.returns
returns c =
    let t = c.args.self.now in
    let a = t.area in
    let z = t.canvas.now.size in
    let xs = c.args.tiles.now in
    let over = pixel_over (mode_number c.args.layer.mode) c.args.layer.opacity in
    grid_is t.at a.wide _ _ c.loop-r.r a.high xs c.loop-r.tiles (omega arith)
    (λ i j iw jh.
    let from : c.start_of.result + 4 * (a.top * z.wide + a.left) + 4 * (j * z.wide) + 4 * i ≡ c.start_of.result + 4 * ((a.top + j) * z.wide + (a.left + i)) = omega arith in
    ap (λ (q : ℕ). over (pixel_at xs q) (tile_pixel t xs i j))
    (from ∙ ap (λ (q : ℕ). q + 4 * ((a.top + j) * z.wide + (a.left + i))) c.start_of.ensures.is))
    c.loop-r.invariant
