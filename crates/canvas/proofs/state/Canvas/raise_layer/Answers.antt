use Rattle.std.proofs.Common.{refl, ◌∙◌, arith}
use Rattle.canvas.proofs.Moving.{own_raised}
use Rattle.canvas.proofs.Arranged.{raised, not_raised}
use Rattle.canvas.proofs.state.Canvas.raise_layer.Goals as goal

pub returns-in_default : goal.returns-in_default
returns-in_default c = λ xs. not_raised c.args.self.now xs c.in_default.ensures

pub invariant_of-self : goal.invariant_of-self
invariant_of-self c =
    let s = c.args.self.now in
    let own = own_raised s.active _ s.layers _ (omega arith) (omega arith) s.full c.raise_entry.ensures (s.planes, s.distinct) in
    record { full = c.raise_entry.ensures.long ∙ s.full; counted = (omega arith, omega arith); planes = own.0; distinct = own.1 }

pub returns : goal.returns
returns c = raised c.args.self.now _ _ c.in-Some.ensures.0 (record { size_is = refl; count_is = refl; active_is = refl; entries = c.raise_entry.ensures }) c.in-Some.ensures.1
