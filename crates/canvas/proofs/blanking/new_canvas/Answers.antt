use Rattle.std.proofs.Common.{rules, ◌≡◌, ℕ, ◌<◌, ◌%◌, slice_index_or, refl, sym, ap, ◌∙◌, subst, arith}
use Rattle.canvas.specs.declared.state.Layer.{Layer}
use Rattle.canvas.specs.View.{fresh}
use Rattle.canvas.proofs.blanking.new_canvas.Goals as goal

pub invariant_of-result : goal.invariant_of-result
invariant_of-result c =
    let own : (k : ℕ) (d : Layer) → k < 64 → slice_index_or c.from_fn.result k d ≡ fresh k = λ k d l. let so = c.from_fn.ensures.items.at k d l in let small : k % 256 ≡ k = omega arith in search rules in
    record { full = c.from_fn.ensures.items.long; counted = (omega arith, omega arith); planes = λ k d l. subst (λ (e : Layer). e.plane < 64) (sym (own k d l)) l; distinct = λ p h. sym (ap (λ (e : Layer). e.plane) (own p.0 p.2 h.0)) ∙ h.2 ∙ ap (λ (e : Layer). e.plane) (own p.1 p.2 h.1) }

pub returns : goal.returns
returns c =
    let own : (k : ℕ) (d : Layer) → k < 64 → slice_index_or c.from_fn.result k d ≡ fresh k = λ k d l. let so = c.from_fn.ensures.items.at k d l in let small : k % 256 ≡ k = omega arith in search rules in
    record { size_is = refl; one_layer = refl; lowest = refl; own_planes = own }
