use Rattle.std.proofs.Common.{◌≡◌, List, [], take, vec_items, sym, ◌∙◌, subst, ap₂, arith}
use Rattle.page.specs.Edits as page
use Rattle.page.specs.History.{in_order}
use Rattle.reference.specs.Lists.{meanings}
use Rattle.reference.specs.Making.{Replayed}
use Rattle.page.proofs.Undo.{done_in_order}
use Rattle.reference.proofs.state.Engine.remake.Goals as goal

pub returns : goal.returns
returns c =
    let s = c.args.self.now in
    let same : meanings c.as_slice.result.now (take s.done c.as_slice-edits.result.now) ≡ in_order (in_order (meanings (vec_items s.bytes) (take s.done (vec_items s.edits))) []) []
    = ap₂ (λ b e. meanings b (take s.done e)) c.as_slice.ensures.value c.as_slice-edits.ensures.value
    ∙ sym (done_in_order (meanings (vec_items s.bytes) (take s.done (vec_items s.edits)))) in (
      omega (arith, c.area.ensures.is),
      subst (λ (ms : List page.Edit). Replayed s.size ms c.args.tiles.now c.replay.new.tiles c.replay.result) same c.replay.ensures,
    )
