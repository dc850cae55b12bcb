use Rattle.std.proofs.Common.{◌≡◌, ℕ, ◌*◌, sym, ap, ◌∙◌, subst, add-one, arith}
use Rattle.pixel.specs.declared.sizes.Size.{Size}
use Rattle.page.specs.Edits.{Edit, edited}
use Rattle.page.specs.Agree.{Agree}
use Rattle.codec.specs.Meaning.{edit_of}
use Rattle.canvas.specs.View.{view}
use Rattle.canvas.specs.Applying.{known}
use Rattle.history.specs.Slots.{slot_edit, latest_in, made_by}
use Rattle.history.proofs.Histories.{made_more}
use Rattle.history.proofs.slots.replay.Goals as goal

pub loop-k-init : goal.loop-k-init
loop-k-init c =
    let new = c.make_blank-canvas.ensures in
    (new.canvas.size_is, new.agrees)

pub apply-requires : goal.apply-requires
apply-requires c =
    let area = ap (λ (z : Size). z.wide * z.high) c.loop-k.invariant.0 in
    omega (arith, area, c.requires.0, c.make_blank-canvas.ensures.long, c.loop-k.auto.tiles)

pub loop-k-preserved : goal.loop-k-preserved
loop-k-preserved c =
    let xs = c.args.turns.now in
    let k = c.loop-k.k in
    let now = c.apply.ensures in
    let is : known (edit_of xs c.edit_at-edit.result.0) ≡ slot_edit xs k = ap (λ r. known (edit_of xs r.0)) c.edit_at-edit.ensures.is in (
      now.same_size ∙ c.loop-k.invariant.0,
      subst (λ (n : ℕ). Agree (view c.apply.new.canvas c.apply.new.tiles) (made_by c.args.size.wide c.args.size.high (latest_in xs n))) (sym (add-one k))
          (made_more c.args.size.wide c.args.size.high (latest_in xs k) (slot_edit xs k) (view c.loop-k.canvas c.loop-k.tiles) _ c.loop-k.invariant.1
          (subst (λ (e : Edit). Agree (view c.apply.new.canvas c.apply.new.tiles) (edited (view c.loop-k.canvas c.loop-k.tiles) e)) is now.agrees)),
    )

pub returns : goal.returns
returns c =
    let all : c.loop-k.k ≡ c.args.done = omega arith in
    record {
      size_is = c.loop-k.invariant.0;
      agrees = subst (λ (n : ℕ). Agree (view c.loop-k.canvas c.loop-k.tiles) (made_by c.args.size.wide c.args.size.high (latest_in c.args.turns.now n))) all c.loop-k.invariant.1;
      long = c.loop-k.auto.tiles ∙ c.make_blank-canvas.ensures.long;
    }
