use Rattle.std.proofs.Common.{◌+◌, take, ap, ◌∙◌, arith}
use Rattle.reference.proofs.Listing.{put_in_take}
use Rattle.reference.proofs.engine.put_behind.Goals as goal

pub returns : goal.returns
returns c =
    let es = c.args.edits.now in
    let in_it = c.in_ok-insert.ensures in
    record {
      items = c.truncate.ensures.items ∙ ap (take (c.args.done + 1)) in_it.items ∙ put_in_take _ c.args.done c.args.edit (omega (arith, c.requires, es.ok.0));
      len = omega (arith, c.truncate.ensures.len, in_it.len, c.requires);
    }
