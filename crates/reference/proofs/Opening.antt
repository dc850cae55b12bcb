-- A file that is read: its edits in a list, and the history that they are. Assumes nothing.
use Rattle.std.proofs.Common.{◌≡◌, ℕ, ◌+◌, List, [], ◌∷◌, ◌++◌, length, take, drop, sym, ap, ◌∙◌, subst}
use Rattle.std.specs.List.{All}
use Rattle.std.proofs.lemmas.List.Elements.{All-nil, All-cons, All-head, All-tail, All-append, All-push}
use Rattle.std.proofs.lemmas.List.{take-map, drop-map, take_at, drop_at, length-map, map-append}
use Rattle.codec.specs.declared.edits.Edit.{Edit}
use Rattle.codec.specs.declared.file.File.{File}
use Rattle.codec.specs.declared.file.Lengths.{Lengths}
use Rattle.codec.specs.Meaning.{edit_of}
use Rattle.codec.specs.Read.{edit_and_end}
use Rattle.codec.specs.Laws.{EditGood}
use Rattle.codec.specs.Files.{Built, edits_from, after_edits, done_of, undone_of}
use Rattle.codec.specs.FileLaws.{FileTaken}
use Rattle.codec.proofs.Rows.{length_from, edits_in_order}
use Rattle.reference.specs.Lists.{meanings, Good}
use Rattle.reference.specs.Filing.{Listed}
use Rattle.reference.proofs.Adding.{good_read}

-- one more edit is read behind the first n
pub record SoFar (bs : List ℕ) (n at : ℕ) (es : List Edit) : Type 0 where
  pub listed : Listed bs n es
  pub onward : at ≡ after_edits bs 16 n

pub read_more : (bs : List ℕ) (n at : ℕ) (es : List Edit) (x : Edit × ℕ) → SoFar bs n at es → x ≡ edit_and_end bs at → EditGood bs x.0 → SoFar bs (n + 1) x.1 (es ++ x.0 ∷ [])
read_more bs n at es x so is good =
    let here : x ≡ edit_and_end bs (after_edits bs 16 n) = is ∙ ap (edit_and_end bs) so.onward in
    let more = edits_in_order bs 16 n 1 in
    record {
      listed = record {
        means = map-append (edit_of bs) es (x.0 ∷ []) ∙ (ap (λ ms. ms ++ edit_of bs x.0 ∷ []) so.listed.means
            ∙ (ap (λ (y : Edit × ℕ). edits_from bs 16 n ++ edit_of bs y.0 ∷ []) here ∙ sym more.0));
        good = All-push (EditGood bs) es x.0 so.listed.good good;
      };
      onward = ap (λ (y : Edit × ℕ). y.1) here ∙ sym more.1;
    }

all_known : (bs : List ℕ) (es : List Edit) → All Built (meanings bs es) → All (EditGood bs) es → All (Good bs) es
all_known bs [] b g = All-nil (Good bs)
all_known bs (e ∷ es) b g =
    All-cons (Good bs) e es (good_read bs e (All-head (EditGood bs) e es g) (All-head Built (edit_of bs e) (meanings bs es) b))
    (all_known bs es (All-tail Built (edit_of bs e) (meanings bs es) b) (All-tail (EditGood bs) e es g))

module _ (bs : List ℕ) (lent : Lengths) (f : File) (taken : FileTaken bs lent f) (es : List Edit) (so : Listed bs (f.done + f.undone) es) where
  both : meanings bs es ≡ done_of bs f ++ undone_of bs f
  both = so.means ∙ (edits_in_order bs 16 f.done f.undone).0

  pub all_long : length es ≡ f.done + f.undone
  all_long = sym (length-map es (edit_of bs)) ∙ (ap length so.means ∙ length_from bs (f.done + f.undone) 16)

  pub done_means : meanings bs (take f.done es) ≡ done_of bs f
  done_means = sym (take-map (edit_of bs) f.done es) ∙ (ap (take f.done) both ∙ take_at (done_of bs f) (undone_of bs f) f.done taken.counts.0)

  pub undone_means : meanings bs (drop f.done es) ≡ undone_of bs f
  undone_means = sym (drop-map (edit_of bs) f.done es) ∙ (ap (drop f.done) both ∙ drop_at (done_of bs f) (undone_of bs f) f.done taken.counts.0)

  pub all_opened : All (Good bs) es
  all_opened =
      let known = All-append Built (done_of bs f) (undone_of bs f) taken.is_built.0 taken.is_built.1 in
      all_known bs es (subst (All Built) (sym both) known) so.good
