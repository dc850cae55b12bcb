use Rattle.std.proofs.Common.{◌≡◌, ◌+◌, length, ap, ◌∙◌, arith}
use Rattle.codec.specs.Meaning.{edit_of}
use Rattle.codec.specs.Files.{all_written}
use Rattle.codec.specs.Put.{put_at}
use Rattle.codec.proofs.Writes.{put_none}
use Rattle.history.specs.Slots.{edits_in}
use Rattle.history.proofs.Rows.{put_slot_row, slot_room}
use Rattle.history.proofs.filing.write_slots.Goals as goal

pub write_edit-at-requires : goal.write_edit-at-requires
write_edit-at-requires c =
    let xs = c.args.turns.now in
    record {
      held = c.slot_edit.ensures.good.held;
      fits = slot_room c.args.out.now c.loop-k.out xs c.args.start c.loop-k.at c.loop-k.k c.args.count (edit_of xs c.slot_edit.result) c.slot_edit.ensures.good.fits (omega arith) c.requires.1 c.loop-k.auto.out c.loop-k.invariant;
    }

pub loop-k-init : goal.loop-k-init
loop-k-init c = put_none c.args.out.now c.args.start

pub loop-k-preserved : goal.loop-k-preserved
loop-k-preserved c =
    let xs = c.args.turns.now in
    put_slot_row c.args.out.now c.loop-k.out _ xs c.args.start c.loop-k.at _ c.loop-k.k c.args.count (edit_of xs c.slot_edit.result) c.slot_edit.ensures.means c.slot_edit.ensures.good.fits (omega arith) c.requires.1 c.loop-k.invariant
    c.write_edit-at.ensures.after c.write_edit-at.ensures.end

pub returns : goal.returns
returns c =
    let xs = c.args.turns.now in
    let all : c.loop-k.k ≡ c.args.count = omega arith in
    record {
      after = c.loop-k.invariant.after ∙ ap (λ n. put_at c.args.out.now c.args.start (all_written (edits_in xs 0 n))) all;
      end = c.loop-k.invariant.end ∙ ap (λ n. c.args.start + length (all_written (edits_in xs 0 n))) all;
    }
