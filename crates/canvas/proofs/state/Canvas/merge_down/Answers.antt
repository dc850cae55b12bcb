use Rattle.std.proofs.Common.{◌≡◌, ◌+◌, ◌*◌, ◌≤◌, ◌≢◌, ◌⊎◌, get_or, inl, inr, arith, rules}
use Rattle.pixel.specs.Pixels.{merged}
use Rattle.pixel.proofs.Steps.{pixels_by_one}
use Rattle.canvas.specs.View.{no_entry}
use Rattle.canvas.proofs.Arranged.{merged_down, not_merged}
use Rattle.canvas.proofs.Views.{two_planes}
use Rattle.canvas.proofs.state.Canvas.merge_down.Goals as goal

-- the planes of two layers lie apart
pub step_pixels-requires-clause-lies : goal.step_pixels-requires-clause-lies
step_pixels-requires-clause-lies c =
    let s = c.args.self.now in
    let n = s.size.wide * s.size.high in
    let below = c.in-Some.below in
    let one = c.in-Some.ensures in
    let other : (get_or s.layers below no_entry).plane ≢ (get_or s.layers s.active no_entry).plane
    = λ e. let same : below ≡ s.active = s.distinct (below, s.active, no_entry) (omega arith, omega arith, e) in omega arith in
    let apart : (c.plane_of-at.result + 4 * c.area-n.result ≤ c.plane_of-from.result) ⊎ (c.plane_of-from.result + 4 * c.area-n.result ≤ c.plane_of-at.result)
    = elim (two_planes n (get_or s.layers below no_entry).plane (get_or s.layers s.active no_entry).plane other) [ inl l ↦ inl (omega arith) | inr l ↦ inr (omega arith) ] in
    (omega arith, (omega arith, apart))

pub returns-in_default : goal.returns-in_default
returns-in_default c = not_merged c.args.self.now c.args.tiles.now c.in_default.ensures

pub returns : goal.returns
returns c =
    let opacity = (get_or c.args.self.now.layers c.args.self.now.active no_entry).opacity in
    merged_down c.args.self.now _ _ _ c.in-Some.below c.area-n.result c.plane_of-at.result c.plane_of-from.result c.in-Some.ensures c.area-n.ensures.is c.plane_of-at.ensures.is
    c.plane_of-from.ensures.is c.take_out.ensures (pixels_by_one _ (merged opacity) _ _ _ _ _ (λ k l so. search rules) c.step_pixels.ensures)
