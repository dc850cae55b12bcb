use Rattle.std.proofs.Common.{◌∙◌, arith}
use Rattle.canvas.proofs.Moving.{own_raised}
use Rattle.canvas.proofs.state.Canvas.take_out.Goals as goal

pub invariant_of-self : goal.invariant_of-self
invariant_of-self c =
    let s = c.args.self.now in
    let own = own_raised s.active _ s.layers _ (omega arith) (omega arith) s.full c.raise_entry.ensures (s.planes, s.distinct) in
    record { full = c.raise_entry.ensures.long ∙ s.full; counted = (omega arith, omega arith); planes = own.0; distinct = own.1 }
