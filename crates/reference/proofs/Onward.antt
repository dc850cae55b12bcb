-- Edits one after the other. Assumes nothing.
use Rattle.std.proofs.Common.{◌≡◌, ℕ, ◌+◌, ◌<◌, List, [], ◌∷◌, ◌++◌, length, get_or, take, sym, refl, ap, ◌∙◌, subst}
use Rattle.std.proofs.lemmas.List.{map_more}
use Rattle.pixel.specs.declared.sizes.Size.{Size}
use Rattle.page.specs.Edits as page
use Rattle.page.specs.Edits.{Page, edited, after, blank}
use Rattle.page.specs.Agree.{Agree}
use Rattle.page.proofs.Agreeing.{agree_trans, edits_agree, seen_agree}
use Rattle.codec.specs.declared.edits.Edit.{Edit}
use Rattle.codec.specs.Meaning.{edit_of}
use Rattle.canvas.specs.declared.state.Canvas.{Canvas}
use Rattle.canvas.specs.View.{view}
use Rattle.reference.specs.Lists.{meanings}
use Rattle.reference.specs.Making.{Replayed}

-- one edit at the end of a row
after_push : (p : Page) (es : List page.Edit) (e : page.Edit) → after p (es ++ e ∷ []) ≡ edited (after p es) e
after_push p [] e = refl
after_push p (f ∷ es) e = after_push (edited p f) es e

pub one_more : (p q r : Page) (bs : List ℕ) (es : List Edit) (k : ℕ) (d : Edit) → k < length es → Agree q (after p (meanings bs (take k es))) → Agree r (edited q (edit_of bs (get_or es k d))) →
    Agree r (after p (meanings bs (take (k + 1) es)))
one_more p q r bs es k d l a b =
    let e = edit_of bs (get_or es k d) in
    subst (Agree r) (sym (ap (after p) (map_more (edit_of bs) es k d l) ∙ after_push p (meanings bs (take k es)) e)) (agree_trans _ _ _ b (edits_agree _ _ e a))

-- a page that agrees with what the edits make shows it
pub replayed : (z : Size) (es : List page.Edit) (xs ys : List ℕ) (s : Canvas) → s.size ≡ z → Agree (view s ys) (after (blank z.wide z.high) es) → length ys ≡ length xs → Replayed z es xs ys s
replayed z es xs ys s e a l =
    record { size_is = e; agrees = a; long = l; shows = λ i j iw jh. seen_agree (view s ys) (after (blank z.wide z.high) es) i j a (subst (λ (y : Size). i < y.wide) (sym e) iw) (subst (λ (y : Size). j < y.high) (sym e) jh) }
