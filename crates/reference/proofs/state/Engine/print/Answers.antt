use Rattle.std.proofs.Common.{◌≡◌, length, vec_len, ◌∙◌}
use Rattle.std.proofs.lemmas.List.{take_at}
use Rattle.std.proofs.lemmas.Result.{IfOk-weaker}
use Rattle.reference.proofs.Texts.{prints_page}
use Rattle.reference.proofs.state.Engine.print.Goals as goal

pub returns : goal.returns
returns c =
    let long : length c.remake.new.tiles ≡ vec_len c.in_ok-tiles.tiles = c.remake.auto.tiles ∙ c.as_mut_slice.ensures.len in
    let same : c.as_slice.result.now ≡ c.remake.new.tiles = c.as_slice.ensures.value ∙ take_at c.remake.new.tiles _ (vec_len c.in_ok-tiles.tiles) long in
    IfOk-weaker c.print.result _ _ (λ out e. e ∙ prints_page c.args.self.now c.args.format _ c.remake.new.tiles _ c.in-Ok.canvas c.in-Ok.ensures same) c.print.ensures
