use Rattle.std.proofs.Common.{None, vec_items, ◌∙◌}
use Rattle.std.proofs.lemmas.Result.{err_from_is_err_and}
use Rattle.words.specs.declared.forms.Field.TheVariants.{Byte}
use Rattle.words.proofs.Going.{none_on, fields_step, fields_short}
use Rattle.words.proofs.lines.read_fields.Goals as goal

pub returns-in_default : goal.returns-in_default
returns-in_default c =
    fields_short c.args.fields.now c.loop-field.field-index Byte (vec_items c.loop-field.turn) _
    c.loop-field-test.true c.in_default.ensures
    ∙ c.loop-field.invariant

pub returns-in_err-read_field : goal.returns-in_err-read_field
returns-in_err-read_field c =
    let p = err_from_is_err_and c.from_residual.result c.from_residual.ensures.1 in
    rw (p.1, p.2)
    (none_on _ _ _ _ _ _ _ c.in_err-read_field.ensures
    (λ none. fields_step c.args.fields.now c.loop-field.field-index Byte (vec_items c.loop-field.turn) None _ _ _
    c.loop-field-test.true c.in-Some.ensures none
    ∙ c.loop-field.invariant))

pub loop-field-preserved : goal.loop-field-preserved
loop-field-preserved c =
    fields_step c.args.fields.now c.loop-field.field-index Byte (vec_items c.loop-field.turn) _ _ _ _
    c.loop-field-test.true c.in-Some.ensures c.in_ok-read_field.ensures
    ∙ c.loop-field.invariant
