use Rattle.std.proofs.Common.{◌≤◌, length, ap, ◌∙◌, arith}
use Rattle.codec.specs.declared.file.File.{File}
use Rattle.codec.specs.Files.{file_head}
use Rattle.codec.specs.Put.{put_at, file_room}
use Rattle.codec.proofs.Writes.{edits_room, put_file, file_end}
use Rattle.codec.proofs.write.write_file.Goals as goal

pub write_edits-requires-clause-fits : goal.write_edits-requires-clause-fits
write_edits-requires-clause-fits c =
    let l = c.args.listing in let out = c.args.out.now in
    let room : file_room l.edits.now ≤ length out = omega (arith, c.if-out-listing.false) in
    edits_room l.source.now l.width l.height l.edits.now l.done l.few.1 out _ c.write_head-at.result room
    (c.write_head-at.ensures.after ∙ ap (λ (f : File). put_at out 0 (file_head f.width f.height f.done f.undone)) c.head.ensures) c.write_head-at.ensures.end c.requires

pub returns-clause-after : goal.returns-clause-after
returns-clause-after c =
    let l = c.args.listing in let out = c.args.out.now in
    let room : file_room l.edits.now ≤ length out = omega (arith, c.if-out-listing.false) in
    put_file l.source.now l.width l.height l.edits.now l.done l.few.1 out _ c.write_head-at.result room
    (c.write_head-at.ensures.after ∙ ap (λ (f : File). put_at out 0 (file_head f.width f.height f.done f.undone)) c.head.ensures) c.write_head-at.ensures.end _ c.write_edits.ensures.after

pub returns-clause-answer : goal.returns-clause-answer
returns-clause-answer c =
    let l = c.args.listing in let out = c.args.out.now in
    let room : file_room l.edits.now ≤ length out = omega (arith, c.if-out-listing.false) in
    file_end l.source.now l.width l.height l.edits.now l.done l.few.1 out _ c.write_head-at.result room
    (c.write_head-at.ensures.after ∙ ap (λ (f : File). put_at out 0 (file_head f.width f.height f.done f.undone)) c.head.ensures) c.write_head-at.ensures.end _ c.write_edits.ensures.end
