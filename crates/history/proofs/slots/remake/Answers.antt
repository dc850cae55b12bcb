use Rattle.std.proofs.Common.{◌*◌, sym, ap, ◌∙◌, subst, arith}
use Rattle.pixel.specs.declared.sizes.Size.{Size}
use Rattle.page.specs.Agree.{Agree}
use Rattle.canvas.specs.View.{view}
use Rattle.history.specs.Slots.{latest_in, made_by}
use Rattle.history.proofs.Histories.{all_hold}
use Rattle.history.proofs.slots.remake.Goals as goal

pub rebuild_all-requires : goal.rebuild_all-requires
rebuild_all-requires c =
    let made = c.replay-canvas.ensures in
    omega (arith, ap (λ (z : Size). z.wide * z.high) made.size_is, made.long, c.requires.0)

pub returns : goal.returns
returns c =
    let made = c.replay-canvas.ensures in
    let s = c.replay-canvas.result in
    let es = latest_in c.args.turns.now c.args.done in
    record {
      size_is = made.size_is;
      holds = all_hold s es _ _ (subst (λ (z : Size). Agree (view s c.replay-canvas.new.tiles) (made_by z.wide z.high es)) (sym made.size_is) made.agrees) c.rebuild_all.ensures;
      long = c.rebuild_all.ensures.wrote.long ∙ made.long;
    }
