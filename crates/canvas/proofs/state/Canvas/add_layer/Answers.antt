use Rattle.std.proofs.Common.{◌+◌, get_or, set, refl, ◌∙◌, subst, subst₂, arith, length-set}
use Rattle.pixel.specs.Pixels.{clear}
use Rattle.pixel.specs.Bytes.{PixelsTo}
use Rattle.canvas.specs.declared.state.Layer.{Layer as Entry}
use Rattle.canvas.specs.Arranging.{from_lowered, Reordered}
use Rattle.canvas.specs.View.{no_entry, fresh}
use Rattle.canvas.proofs.Moving.{own_set, own_lowered}
use Rattle.canvas.proofs.Arranged.{added, not_added}
use Rattle.canvas.proofs.state.Canvas.add_layer.Goals as goal

pub returns-then-count-ge64 : goal.returns-then-count-ge64
returns-then-count-ge64 c = not_added c.args.self.now c.args.tiles.now (omega arith)

pub invariant_of-self : goal.invariant_of-self
invariant_of-self c =
    let s = c.args.self.now in
    let n = s.count in
    let ls = s.layers in
    let new = fresh (get_or ls n no_entry).plane in
    let long = length-set ls n new ∙ s.full in
    let moved = subst (λ (e : Entry). Reordered (from_lowered (s.active + 1) n) (set ls n e) c.lower_entry.new.layers) c.fresh.ensures c.lower_entry.ensures in
    let own = own_lowered (s.active + 1) n (set ls n new) _ (omega arith) (omega arith) long moved (own_set ls n new (omega arith) refl (s.planes, s.distinct)) in
    record { full = moved.long ∙ long; counted = (omega arith, omega arith); planes = own.0; distinct = own.1 }

pub returns : goal.returns
returns c =
    let s = c.args.self.now in
    let moved = subst (λ (e : Entry). Reordered (from_lowered (s.active + 1) s.count) (set s.layers s.count e) c.lower_entry.new.layers) c.fresh.ensures c.lower_entry.ensures in
    added s _ c.args.tiles.now c.set_pixels.new.bytes (omega arith) (record { size_is = refl; count_is = refl; active_is = refl; entries = moved })
    (subst₂ (λ a m. PixelsTo (λ k. clear) a m c.args.tiles.now c.set_pixels.new.bytes) c.plane_of.ensures.is c.area-n.ensures.is c.set_pixels.ensures)
