use Rattle.std.proofs.Common.{[], length, refl, inl, inr, arith}
use Rattle.std.proofs.lemmas.Result.{err_from_is_err_and}
use Rattle.editor.specs.Promises.{begin_refusal}
use Rattle.editor.proofs.Scripts.{play_begun, begun_long, long_on, not_begun, play_on, play_stopped, play_ended}
use Rattle.editor.proofs.playing.play.Goals as goal

pub returns-in_err-editor : goal.returns-in_err-editor
returns-in_err-editor c =
    let p = err_from_is_err_and c.from_residual.result c.from_residual.ensures.1 in
    rw (p.1, p.2) (inl (not_begun c.args.width c.args.height _ _ _ _ _ _ _ _ refl c.in_err-editor.ensures))

pub loop-at-init : goal.loop-at-init
loop-at-init c = ([], play_begun c.args.width c.args.height c.args.script.now _ _ _ _ _ _ _ c.in_ok-editor.ensures)

pub returns-in_err-turn : goal.returns-in_err-turn
returns-in_err-turn c =
    let p = err_from_is_err_and c.from_residual-in_err-turn.result c.from_residual-in_err-turn.ensures.1 in
    let l = c.loop-at in let first = c.begin.new in let last = c.turn.new in
    let begun = begun_long c.args.width c.args.height (begin_refusal c.args.width c.args.height (length c.args.tiles.now) (length c.args.work.now)) c.args.turns.now c.args.tiles.now c.args.work.now first.turns first.tiles first.work c.in_ok-editor.editor c.in_ok-editor.ensures in
    let looped = long_on _ _ _ first.turns first.tiles first.work l.turns l.tiles l.work begun l.auto.turns l.auto.tiles l.auto.work in
    rw (p.1, p.2)
    (inr (
      long_on _ _ _ _ _ _ last.turns last.tiles last.work looped c.turn.auto.turns c.turn.auto.tiles c.turn.auto.work,
      play_stopped c.args.width c.args.height l.at c.turn_end-end.result c.args.script.now l.invariant.0 l.editor l.turns l.tiles l.work
          (λ k. omega (arith, c.type_inv.script k)) c.turn_end-end.ensures l.invariant.1 c.in_err-turn.field-0.0 last.editor last.turns last.tiles last.work
          c.loop-at-test.true c.in_err-turn.ensures,
    ))

pub loop-at-preserved : goal.loop-at-preserved
loop-at-preserved c =
    let l = c.loop-at in let last = c.turn.new in
    play_on c.args.width c.args.height l.at c.turn_end-end.result c.args.script.now l.invariant.0 l.editor l.turns l.tiles l.work
    (λ k. omega (arith, c.type_inv.script k)) c.turn_end-end.ensures l.invariant.1 last.editor last.turns last.tiles last.work c.in_ok-turn.ensures

pub returns : goal.returns
returns c =
    let l = c.loop-at in let first = c.begin.new in
    let begun = begun_long c.args.width c.args.height (begin_refusal c.args.width c.args.height (length c.args.tiles.now) (length c.args.work.now)) c.args.turns.now c.args.tiles.now c.args.work.now first.turns first.tiles first.work c.in_ok-editor.editor c.in_ok-editor.ensures in (
      long_on _ _ _ first.turns first.tiles first.work l.turns l.tiles l.work begun l.auto.turns l.auto.tiles l.auto.work,
      play_ended c.args.width c.args.height c.args.x c.args.y l.at c.args.script.now l.invariant.0 l.editor l.turns l.tiles l.work c.show.result
          (omega (arith, c.loop-at-test.false)) l.invariant.1 c.show.ensures,
    )
