use Rattle.std.proofs.Common.{◌≡◌, ℕ, ◌+◌, List, [], length, vec_items, refl, ap, subst, arith}
use Rattle.page.specs.History.{in_order}
use Rattle.reference.specs.Filing.{Listed}
use Rattle.reference.proofs.Opening.{all_long, done_means, undone_means, all_opened}
use Rattle.reference.proofs.state.Engine.of_file.Goals as goal

pub invariant_of-result : goal.invariant_of-result
invariant_of-result c =
    let bs = vec_items c.args.file in
    let f = c.args.head in
    let es = vec_items c.in_ok-edits.edits in
    let taken = c.requires.1 in
    let so = subst (λ (b : List ℕ). Listed b (f.done + f.undone) es) c.as_slice.ensures.value c.in_ok-edits.ensures in
    let good = all_opened bs c.requires.0 f taken es so in
    let long : length es ≡ f.done + f.undone = all_long bs c.requires.0 f taken es so in
    let size = c.in_ok-edits.edits.ok.0 in
    record { counted = (omega arith, omega arith, taken.enough.few); good = good }

pub returns : goal.returns
returns c =
    let bs = vec_items c.args.file in
    let f = c.args.head in
    let es = vec_items c.in_ok-edits.edits in
    let so = subst (λ (b : List ℕ). Listed b (f.done + f.undone) es) c.as_slice.ensures.value c.in_ok-edits.ensures in
    record {
      wide_is = c.from.ensures;
      high_is = c.from-2.ensures;
      taken_is = refl;
      done_is = ap (λ ms. in_order ms []) (done_means bs c.requires.0 f c.requires.1 es so);
      undone_is = undone_means bs c.requires.0 f c.requires.1 es so;
    }
