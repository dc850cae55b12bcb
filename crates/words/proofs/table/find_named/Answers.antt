use Rattle.std.proofs.Common.{◌∙◌, ap, rules, tests}
use Rattle.std.specs.Option.{option_map}
use Rattle.std.proofs.lemmas.Iterator.{YieldsList-from_slice}
use Rattle.std.proofs.lemmas.Iterator.Search.{find_from_yields_List}
use Rattle.words.specs.declared.forms.Form.{Form}
use Rattle.words.specs.Table.{row_of}
use Rattle.words.specs.Lines.{named}
use Rattle.words.proofs.Rows.{find_row}
use Rattle.words.proofs.table.find_named.Goals as goal

pub returns : goal.returns
returns c =
    let forms = c.args.forms.now in
    let found = find_from_yields_List (λ (f : Form). named c.args.name.now (row_of f)) _ _ c.find.result c.find.ensures.ran (YieldsList-from_slice forms (cc)) (λ x b q k. search (rules, tests)) in
    ap (option_map row_of) (c.copied.ensures ∙ found) ∙ find_row (named c.args.name.now) forms
