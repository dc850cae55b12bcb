-- First nothing of the row, then the span: what is written last stands.
use Rattle.std.proofs.Common.{◌≡◌, ℕ, ◌+◌, ◌-◌, ◌<◌, ◌≤◌, List, get_or, ap, ◌∙◌, inl, inr, arith}
use Rattle.std.proofs.lemmas.Bool.{cases_lt}
use Rattle.std.proofs.lemmas.Bool.Decides.{nat_tests}
use Rattle.pixel.specs.Bytes.{BytesTo}
use Rattle.page.specs.Selection.{mask_of}
use Rattle.canvas.specs.Rows.{in_span}
use Rattle.canvas.proofs.selecting.select_columns.Goals as goal

in_it : (first last c : ℕ) → first ≤ c → c < last → 255 ≡ mask_of (in_span first last c)
in_it first last c l m = grind (arith, nat_tests)

left_of_it : (first last c : ℕ) → c < first → 0 ≡ mask_of (in_span first last c)
left_of_it first last c l = grind (arith, nat_tests)

right_of_it : (first last c : ℕ) → last ≤ c → 0 ≡ mask_of (in_span first last c)
right_of_it first last c l = grind (arith, nat_tests)

spanned : (at wide first last n : ℕ) (xs ys zs : List ℕ) → first + n ≡ last → last ≤ wide → BytesTo (λ k. 0) at wide xs ys → BytesTo (λ k. 255) (at + first) n ys zs →
    BytesTo (λ c. mask_of (in_span first last c)) at wide xs zs
spanned at wide first last n xs ys zs f l so to =
    record {
      long = to.long ∙ so.long;
      written = λ c cw.
          elim (cases_lt c first) [
            | inl u ↦ to.before (at + c) (omega arith) ∙ so.written c cw ∙ left_of_it first last c u
            | inr u ↦ elim (cases_lt c last) [
              | inl v ↦ ap (λ q. get_or zs q 0) (omega arith) ∙ to.written (c - first) (omega arith) ∙ in_it first last c u v
              | inr v ↦ to.after (at + c) (omega arith) ∙ so.written c cw ∙ right_of_it first last c v
            ]
          ];
      before = λ q u. to.before q (omega arith) ∙ so.before q u;
      after = λ q u. to.after q (omega arith) ∙ so.after q u;
    }

pub returns : goal.returns
returns c = spanned c.args.at c.args.wide c.args.columns.start c.args.columns.end _ _ _ _ (omega arith) (omega arith) c.set_bytes.ensures c.set_bytes-2.ensures
