use Rattle.std.proofs.Common.{Ok, Err, ◌∙◌, arith}
use Rattle.std.proofs.lemmas.Result.{err_from_is_err_and}
use Rattle.editor.proofs.Desks.{took}
use Rattle.editor.proofs.desk.DeskTakes.take.Goals as goal

pub returns-in_err-turn : goal.returns-in_err-turn
returns-in_err-turn c =
    let p = err_from_is_err_and c.from_residual.result c.from_residual.ensures.1 in
    rw (p.1, p.2) (
      λ k. omega (arith, c.type_inv.bytes k),
      took c.args.self.now c.turn.new.editor c.args.bytes.now _ _ _ _ _ _ (Err c.in_err-turn.field-0.0) c.as_mut_slice.ensures.value c.as_mut_slice-2.ensures.value c.as_mut_slice-3.ensures.value
          (c.turn.auto.turns ∙ c.as_mut_slice.ensures.len) (c.turn.auto.tiles ∙ c.as_mut_slice-2.ensures.len) (c.turn.auto.work ∙ c.as_mut_slice-3.ensures.len) c.in_err-turn.ensures,
    )

pub returns : goal.returns
returns c = (
  λ k. omega (arith, c.type_inv.bytes k),
  took c.args.self.now c.turn.new.editor c.args.bytes.now _ _ _ _ _ _ (Ok tt) c.as_mut_slice.ensures.value c.as_mut_slice-2.ensures.value c.as_mut_slice-3.ensures.value
      (c.turn.auto.turns ∙ c.as_mut_slice.ensures.len) (c.turn.auto.tiles ∙ c.as_mut_slice-2.ensures.len) (c.turn.auto.work ∙ c.as_mut_slice-3.ensures.len) c.in_ok-turn.ensures,
)
