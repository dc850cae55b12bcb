use Rattle.std.proofs.Common.{◌≡◌, get_or, take, ◌∙◌, subst, take_all}
use Rattle.std.proofs.lemmas.List.Elements.{All-get_or}
use Rattle.std.proofs.lemmas.Bool.{cond-true}
use Rattle.page.specs.Edits as page
use Rattle.page.specs.Edits.{blank, after, edited}
use Rattle.page.specs.Agree.{Agree}
use Rattle.canvas.specs.View.{view}
use Rattle.codec.specs.declared.edits.Edit.TheVariants.{AddLayer}
use Rattle.codec.specs.Meaning.{edit_of}
use Rattle.canvas.specs.Applying.{Built, known}
use Rattle.reference.specs.Lists.{meanings}
use Rattle.reference.proofs.Onward.{one_more, replayed}
use Rattle.reference.proofs.applying.replay.Goals as goal

pub loop-edit-preserved : goal.loop-edit-preserved
loop-edit-preserved c =
    let bs = c.args.source.now in
    let now = c.apply.ensures in
    let e = edit_of bs (get_or c.args.edits.now c.loop-edit.edit-index AddLayer) in
    let known_is : known e ≡ e = cond-true _ e _ (All-get_or (Built bs) c.args.edits.now c.loop-edit.edit-index AddLayer c.loop-edit-test.true c.requires.1) in (
      now.same_size ∙ c.loop-edit.invariant.0,
      one_more (blank c.args.size.wide c.args.size.high) _ _ bs c.args.edits.now c.loop-edit.edit-index AddLayer c.loop-edit-test.true c.loop-edit.invariant.1
          (subst (λ (f : page.Edit). Agree (view c.apply.new.canvas c.apply.new.tiles) (edited (view c.loop-edit.canvas c.loop-edit.tiles) f)) known_is now.agrees),
    )

pub returns : goal.returns
returns c =
    let all : take c.loop-edit.edit-index c.args.edits.now ≡ c.args.edits.now = take_all c.loop-edit.edit-index c.args.edits.now c.loop-edit-test.false in
    replayed c.args.size _ _ _ c.loop-edit.canvas c.loop-edit.invariant.0
    (subst (λ (es : _). Agree (view c.loop-edit.canvas c.loop-edit.tiles) (after (blank c.args.size.wide c.args.size.high) (meanings c.args.source.now es))) all c.loop-edit.invariant.1)
    (c.loop-edit.auto.tiles ∙ c.make_blank-canvas.ensures.long)
