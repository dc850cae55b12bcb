use Rattle.std.proofs.Common.{◌+◌, ◌≤◌, ◌∙◌, length, min, vec_items, refl, ap, ap₂, arith}
use Rattle.reference.specs.Lists.{history_of}
use Rattle.reference.proofs.Listing.{all_grow, history_grows, all_put, history_put, undone, redone_most}
use Rattle.reference.proofs.Turned.{taken_edit, no_memory_by}
use Rattle.reference.proofs.state.Engine.step.Goals as goal
use Rattle.reference.proofs.state.Engine.step.Goals.{in-Undo, in-Redo, in-Does+in_ok-edit-in-Does+in_ok-put_behind-in-Does}

pub returns-in_err-edit-in-Does : goal.returns-in_err-edit-in-Does
returns-in_err-edit-in-Does c =
    let s = c.args.self.now in
    no_memory_by c.args.bytes.now s _ c.args.turn _ c.from_residual.ensures.1
    (record { same_size = refl; same_taken = refl; history_is = ap (λ b. history_of b (vec_items s.edits) s.done) c.in_err-edit-in-Does.ensures.items })

pub invariant_of-self-in-Break-branch-2 : goal.invariant_of-self-in-Break-branch-2
invariant_of-self-in-Break-branch-2 c =
    let s = c.args.self.now in
    let put = c.in_err-put_behind-in-Does.ensures in
    record {
      counted = omega (arith, s.counted, put.len);
      good = rw (c.in_ok-edit-in-Does.ensures.items, put.items) (all_grow (vec_items s.bytes) c.args.bytes.now (vec_items s.edits) s.good);
    }

pub returns-in_err-put_behind-in-Does : goal.returns-in_err-put_behind-in-Does
returns-in_err-put_behind-in-Does c =
    let s = c.args.self.now in
    no_memory_by c.args.bytes.now s _ c.args.turn _ c.from_residual-in_err-put_behind-in-Does.ensures.1
    (record {
      same_size = refl;
      same_taken = refl;
      history_is = ap₂ (λ b e. history_of b e s.done) c.in_ok-edit-in-Does.ensures.items c.in_err-put_behind-in-Does.ensures.items
          ∙ history_grows (vec_items s.bytes) c.args.bytes.now (vec_items s.edits) s.done s.good;
    })

pub invariant_of-self-2 : goal.invariant_of-self-2
invariant_of-self-2 c =
    let s = c.args.self.now in
    let small = c.requires.few in
    elim c.match-turn.branch [
      | in-Undo w ↦ rw w.self-is (record { counted = omega (arith, s.counted, small, w.saturating_sub-self.ensures); good = s.good })
      | in-Redo w ↦ rw w.self-is (record { counted = omega (arith, s.counted, small, w.min-self.ensures, w.len.ensures); good = s.good })
      | in-Does+in_ok-edit-in-Does+in_ok-put_behind-in-Does w ↦
          let bytes = w.in_ok-edit-in-Does.ensures.items in
          let new = w.in_ok-edit-in-Does.ensures.reads _ (taken_edit c.args.bytes.now _ _ w.in-Does.field-0 w.in-Does.is c.requires.is) in
          rw w.self-is (record {
            counted = omega (arith, s.counted, small, w.in_ok-put_behind-in-Does.ensures.len);
            good = rw (bytes, w.in_ok-put_behind-in-Does.ensures.items)
                (all_put (vec_items s.bytes) c.args.bytes.now (vec_items s.edits) s.done w.in_ok-edit-in-Does.edit s.good (rw bytes at new.0));
          })
    ]

pub returns : goal.returns
returns c =
    let s = c.args.self.now in
    let bs = vec_items s.bytes in
    let es = vec_items s.edits in
    let done : s.done ≤ length es = omega (arith, s.counted, s.edits.ok.0) in
    record {
      same_size = refl;
      one_taken = refl;
      history_next = elim c.match-turn.branch [
        | in-Undo w ↦
            ap (λ x. history_of (vec_items x.1.1.0) (vec_items x.1.1.1.0) x.1.1.1.1.0) w.self-is
            ∙ (ap (history_of bs es) w.saturating_sub-self.ensures ∙ rw w.in-Undo.is (undone bs es s.done done))
        | in-Redo w ↦
            ap (λ x. history_of (vec_items x.1.1.0) (vec_items x.1.1.1.0) x.1.1.1.1.0) w.self-is
            ∙ (ap (history_of bs es) (w.min-self.ensures ∙ ap (λ n. min n (s.done + 1)) (w.len.ensures ∙ s.edits.ok.0)) ∙ rw w.in-Redo.is (redone_most bs es s.done done))
        | in-Does+in_ok-edit-in-Does+in_ok-put_behind-in-Does w ↦
            let bytes = w.in_ok-edit-in-Does.ensures.items in
            let new = w.in_ok-edit-in-Does.ensures.reads _ (taken_edit c.args.bytes.now _ _ w.in-Does.field-0 w.in-Does.is c.requires.is) in
            ap (λ x. history_of (vec_items x.1.1.0) (vec_items x.1.1.1.0) x.1.1.1.1.0) w.self-is
            ∙ (ap₂ (λ b e. history_of b e (s.done + 1)) bytes w.in_ok-put_behind-in-Does.ensures.items
            ∙ rw w.in-Does.is (history_put bs c.args.bytes.now es s.done w.in_ok-edit-in-Does.edit _ done s.good (rw bytes at new.1)))
      ];
    }
