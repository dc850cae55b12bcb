use Rattle.std.proofs.Common.{sym, subst, arith}
use Rattle.editor.specs.Script.{Cut}
use Rattle.editor.proofs.Scripts.{cut_or_all}
use Rattle.editor.proofs.playing.turn_end.Goals as goal

pub returns : goal.returns
returns c =
    subst (Cut c.args.script.now c.args.at) (sym c.unwrap_or.ensures)
    (cut_or_all c.args.script.now c.args.at c.edit_end.result (λ k. omega (arith, c.type_inv.script k)) (omega arith) (λ e. omega (arith, c.if-script-at-eq-UNDO.false)) (λ e. omega (arith, c.if-script-at-eq-REDO.false)) (sym c.edit_end.ensures))
