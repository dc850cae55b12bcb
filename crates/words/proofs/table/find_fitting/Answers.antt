use Rattle.std.proofs.Common.{◌∙◌, ap, rules, tests}
use Rattle.std.specs.Option.{option_map}
use Rattle.std.proofs.lemmas.Iterator.{YieldsList-from_slice}
use Rattle.std.proofs.lemmas.Iterator.Search.{find_from_yields_List}
use Rattle.words.specs.declared.forms.Form.{Form}
use Rattle.words.specs.Table.{row_of}
use Rattle.words.specs.Lines.{fits_row}
use Rattle.words.proofs.Rows.{find_row}
use Rattle.words.proofs.table.find_fitting.Goals as goal

pub returns-clause-is : goal.returns-clause-is
returns-clause-is c =
    let forms = c.args.forms.now in
    let found = find_from_yields_List (λ (f : Form). fits_row c.args.turn.now (row_of f)) _ _ c.find.result c.find.ensures.ran (YieldsList-from_slice forms (cc)) (λ x b q k. search (rules, tests)) in
    ap (option_map row_of) (c.copied.ensures ∙ found) ∙ find_row (fits_row c.args.turn.now) forms
