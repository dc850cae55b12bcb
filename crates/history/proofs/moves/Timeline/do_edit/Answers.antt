use Rattle.std.proofs.Common.{◌*◌, ap, arith}
use Rattle.pixel.specs.declared.sizes.Size.{Size}
use Rattle.codec.specs.Meaning.{edit_of}
use Rattle.canvas.specs.Applying.{known}
use Rattle.history.proofs.Histories.{bytes_short, did_edit}
use Rattle.history.proofs.moves.Timeline.do_edit.Goals as goal

pub put_slot-requires : goal.put_slot-requires
put_slot-requires c =
    let short = bytes_short c.args.bytes.now c.requires.1.0 c.requires.1.1 in
    (omega (arith, c.requires.0.for_turns, short), omega (arith, short))

-- the page has the size that it had
pub rebuild_all-requires : goal.rebuild_all-requires
rebuild_all-requires c =
    let area = ap (λ (z : Size). z.wide * z.high) c.apply.ensures.same_size in omega (arith, area, c.requires.0.for_tiles, c.apply.ensures.long)

pub returns : goal.returns
returns c = λ e b.
    did_edit c.args.bytes.now c.args.turns.now c.put_slot.new.turns c.args.tiles.now c.apply.new.tiles c.rebuild_all.new.tiles c.args.self.now c.apply.new.canvas e _ b c.put_slot.ensures
    (ap (λ r. known (edit_of c.put_slot.new.turns r.0)) c.edit_at-edit.ensures.is) c.apply.ensures c.rebuild_all.ensures
