use Rattle.std.proofs.Common.{◌-◌, ◌++◌, map, length, vec_items, ap, ◌∙◌}
use Rattle.std.proofs.lemmas.List.{append_assoc}
use Rattle.std.proofs.lemmas.Result.{on_ok_weaker}
use Rattle.codec.specs.declared.file.File.{File}
use Rattle.codec.specs.Meaning.{edit_of}
use Rattle.codec.specs.Files.{all_written, file_head}
use Rattle.codec.proofs.Writes.{file_pieces}
use Rattle.codec.proofs.write.append_file.Goals as goal

pub returns : goal.returns
returns c =
    let l = c.args.listing in let bs = l.source.now in let edits = l.edits.now in
    let old = vec_items c.args.out.now in let head = file_head l.width l.height l.done (length edits - l.done) in let all = all_written (map (edit_of bs) edits) in
    let headed = c.in_ok-append_head.ensures ∙ ap (λ (f : File). old ++ file_head f.width f.height f.done f.undone) c.head.ensures in
    on_ok_weaker c.put_edits.result
    (λ put. put ∙ (ap (λ m. m ++ all) headed ∙ (append_assoc old head all ∙ ap (λ m. old ++ m) (file_pieces bs l.width l.height edits l.done l.few.1))))
    c.put_edits.ensures
