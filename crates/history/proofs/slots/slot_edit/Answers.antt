use Rattle.std.proofs.Common.{sym, ap, ◌∙◌, arith}
use Rattle.std.proofs.lemmas.Bool.{cond-true, cond-false}
use Rattle.page.specs.Edits.{set_mode}
use Rattle.codec.specs.Meaning.{edit_of}
use Rattle.canvas.specs.Applying.{known}
use Rattle.history.proofs.slots.slot_edit.Goals as goal

pub returns-then-is_built : goal.returns-then-is_built
returns-then-is_built c =
    let xs = c.args.turns.now in
    let e = edit_of xs c.edit_at-edit.result.0 in
    record {
      means = sym (cond-true _ e (set_mode 255) (sym (c.if-is_built.ensures xs))) ∙ ap (λ r. known (edit_of xs r.0)) c.edit_at-edit.ensures.is;
      good = c.edit_at-edit.ensures.good;
    }

pub returns-else-is_built : goal.returns-else-is_built
returns-else-is_built c =
    let xs = c.args.turns.now in
    let e = edit_of xs c.edit_at-edit.result.0 in
    record {
      means = sym (cond-false _ e (set_mode 255) (sym (c.if-is_built.ensures xs))) ∙ ap (λ r. known (edit_of xs r.0)) c.edit_at-edit.ensures.is;
      good = record { fits = omega arith; held = tt };
    }
