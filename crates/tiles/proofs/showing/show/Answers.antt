-- The pixel lies in its tile, and so within the bytes.
use Rattle.std.proofs.Common.{◌+◌, ◌*◌, ◌%◌, ◌<◌, ◌≤◌, length, ap₂, arith, rules}
use Rattle.pixel.specs.declared.areas.Area.{Area}
use Rattle.canvas.specs.declared.state.Canvas.{Canvas}
use Rattle.tiles.specs.Places.{begins}
use Rattle.tiles.proofs.Offsets.{place_ends}
use Rattle.tiles.proofs.showing.show.Goals as goal

pub read_pixel-requires : goal.read_pixel-requires
read_pixel-requires c =
    let s = c.args.canvas.now in
    let t = c.new-tile in
    let there : c.args.x < s.size.wide = grind arith in
    let below : c.args.y < s.size.high = search rules in
    let room : 544 * (s.size.wide * s.size.high) ≤ length c.args.tiles.now = search rules in
    let lies = place_ends s.size.wide s.size.high c.args.x c.args.y there below in
    let is = ap₂ (λ (d : Canvas) (a : Area). begins d.size.wide d.size.high a + 4 * (c.args.y % 32 * a.wide + c.args.x % 32)) t.ensures.canvas t.ensures.area in
    omega (arith, lies, t.result.placed, is)
