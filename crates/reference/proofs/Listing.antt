-- Lists of edits: one put in behind the first d, bytes that grow, and the history that a list is. Assumes nothing.
use Rattle.std.proofs.Common.{◌≡◌, ℕ, zero, suc, ◌+◌, ◌-◌, ◌<◌, ◌≤◌, true, List, [], ◌∷◌, ◌++◌, length, get_or, take, drop, sym, refl, ap, ◌∙◌, subst, subst₂, ap₂, add-one, min, inl, inr, arith, length-append, drop-cons}
use Rattle.std.specs.List.{All}
use Rattle.std.proofs.lemmas.List.Elements.{All-head, All-tail, All-weaker, All-take, All-drop, All-push}
use Rattle.std.proofs.lemmas.List.{map_more, map-append, take_all, drop_all, length-take-le}
use Rattle.std.proofs.lemmas.Bool.{cases_order}
use Rattle.page.specs.Edits as page
use Rattle.page.specs.History.{History, in_order, turned, undone_once, redone_once, does, undo, redo}
use Rattle.page.specs.Fits.{Fits, kind}
use Rattle.codec.specs.declared.edits.Edit.{Edit}
use Rattle.codec.specs.declared.edits.Edit.TheVariants.{AddLayer}
use Rattle.codec.specs.Meaning.{edit_of}
use Rattle.codec.specs.Kinds.{built}
use Rattle.codec.proofs.Growing.{edit_grows}
use Rattle.reference.specs.Lists.{meanings, Good, history_of}

-- an edit put in behind the first d, and what came after cut off
behind : (xs : List Edit) (n : ℕ) (x : Edit) → n ≤ length xs → take (suc n) (take n xs ++ x ∷ drop n xs) ≡ take n xs ++ x ∷ []
behind xs zero x h = refl
behind [] (suc n) x h = absurd (omega arith)
behind (y ∷ xs) (suc n) x h = ap (λ zs. y ∷ zs) (behind xs n x (omega arith))

pub put_in_take : (es : List Edit) (d : ℕ) (e : Edit) → d ≤ length es → take (d + 1) (take d es ++ e ∷ drop d es) ≡ take d es ++ e ∷ []
put_in_take es d e l = ap (λ n. take n (take d es ++ e ∷ drop d es)) (add-one d) ∙ behind es d e l

-- THE HISTORY, one edit further
in_order_push : (xs ys : List page.Edit) (x : page.Edit) → in_order (xs ++ x ∷ []) ys ≡ x ∷ in_order xs ys
in_order_push [] ys x = refl
in_order_push (y ∷ xs) ys x = in_order_push xs (y ∷ ys) x

done_more : (bs : List ℕ) (es : List Edit) (k : ℕ) → k < length es → (history_of bs es (k + 1)).done ≡ edit_of bs (get_or es k AddLayer) ∷ (history_of bs es k).done
done_more bs es k l = ap (λ ms. in_order ms []) (map_more (edit_of bs) es k AddLayer l) ∙ in_order_push (meanings bs (take k es)) [] _

undone_more : (bs : List ℕ) (es : List Edit) (k : ℕ) → k < length es → (history_of bs es k).undone ≡ edit_of bs (get_or es k AddLayer) ∷ (history_of bs es (k + 1)).undone
undone_more bs es k l = ap (meanings bs) (drop-cons es k AddLayer l) ∙ ap (λ n. edit_of bs (get_or es k AddLayer) ∷ meanings bs (drop n es)) (sym (add-one k))

abbrev pub both : List page.Edit → List page.Edit → History
both ds us = record { done = ds; undone = us }

pub redone : (bs : List ℕ) (es : List Edit) (d : ℕ) → d < length es → history_of bs es (d + 1) ≡ turned (history_of bs es d) redo
redone bs es d l =
    ap (λ ds. both ds (history_of bs es (d + 1)).undone) (done_more bs es d l) ∙ sym (ap (λ us. redone_once us (history_of bs es d)) (undone_more bs es d l))

pub none_redone : (bs : List ℕ) (es : List Edit) (d : ℕ) → length es ≤ d → history_of bs es d ≡ turned (history_of bs es d) redo
none_redone bs es d l = sym (ap (λ us. redone_once (meanings bs us) (history_of bs es d)) (drop_all d es l))

-- redo, as far as there are edits
pub redone_most : (bs : List ℕ) (es : List Edit) (d : ℕ) → d ≤ length es → history_of bs es (min (length es) (d + 1)) ≡ turned (history_of bs es d) redo
redone_most bs es d l =
    elim (cases_order d (length es)) [
      | inl e ↦ let all : min (length es) (d + 1) ≡ d = omega (arith, e) in ap (history_of bs es) all ∙ none_redone bs es d (omega (arith, e))
      | inr (inl k) ↦ let next : min (length es) (d + 1) ≡ d + 1 = omega (arith, k) in ap (history_of bs es) next ∙ redone bs es d k
      | inr (inr k) ↦ absurd (omega (arith, k, l))
    ]

undone_from : (bs : List ℕ) (es : List Edit) (k : ℕ) → k < length es → history_of bs es k ≡ turned (history_of bs es (k + 1)) undo
undone_from bs es k l =
    ap (both (history_of bs es k).done) (undone_more bs es k l) ∙ sym (ap (λ ds. undone_once ds (history_of bs es (k + 1))) (done_more bs es k l))

pub undone : (bs : List ℕ) (es : List Edit) (d : ℕ) → d ≤ length es → history_of bs es (d - 1) ≡ turned (history_of bs es d) undo
undone bs es zero l = refl
undone bs es (suc k) l =
    let before : suc k - 1 ≡ k = omega arith in
    let here : suc k ≡ k + 1 = omega arith in
    subst₂ (λ m n. history_of bs es m ≡ turned (history_of bs es n) undo) (sym before) (sym here) (undone_from bs es k (omega arith))

-- BYTES THAT GROW: the edits in them mean the same
good_grows : (bs more : List ℕ) (e : Edit) → Good bs e → Good (bs ++ more) e
good_grows bs more e g =
    let same = sym (edit_grows bs more e g.1) in
    (subst (λ (m : page.Edit). built (kind m) ≡ true) same g.0, omega (arith, g.1, length-append bs more), subst (λ (m : page.Edit). ∥ Fits m ∥₁) same g.2)

pub all_grow : (bs more : List ℕ) (es : List Edit) → All (Good bs) es → All (Good (bs ++ more)) es
all_grow bs more es g = All-weaker (Good bs) (Good (bs ++ more)) (good_grows bs more) es g

meanings_grow : (bs more : List ℕ) (es : List Edit) → All (Good bs) es → meanings (bs ++ more) es ≡ meanings bs es
meanings_grow bs more [] g = refl
meanings_grow bs more (e ∷ es) g = ap₂ (λ m ms. m ∷ ms) (edit_grows bs more e (All-head (Good bs) e es g).1) (meanings_grow bs more es (All-tail (Good bs) e es g))

pub history_grows : (bs more : List ℕ) (es : List Edit) (d : ℕ) → All (Good bs) es → history_of (bs ++ more) es d ≡ history_of bs es d
history_grows bs more es d g =
    ap₂ (λ ds us. both (in_order ds []) us) (meanings_grow bs more (take d es) (All-take (Good bs) d es g)) (meanings_grow bs more (drop d es) (All-drop (Good bs) d es g))

-- one edit behind the first d, and none undone
pub all_put : (bs more : List ℕ) (es : List Edit) (d : ℕ) (e : Edit) → All (Good bs) es → Good (bs ++ more) e → All (Good (bs ++ more)) (take d es ++ e ∷ [])
all_put bs more es d e g n = All-push (Good (bs ++ more)) (take d es) e (all_grow bs more (take d es) (All-take (Good bs) d es g)) n

pub history_put : (bs more : List ℕ) (es : List Edit) (d : ℕ) (e : Edit) (m : page.Edit) → d ≤ length es → All (Good bs) es → edit_of (bs ++ more) e ≡ m →
    history_of (bs ++ more) (take d es ++ e ∷ []) (d + 1) ≡ turned (history_of bs es d) (does m)
history_put bs more es d e m l g is =
    let new = take d es ++ e ∷ [] in
    let long : length new ≡ d + 1 = omega (arith, length-append (take d es) (e ∷ []), length-take-le d es l) in
    let all : take (d + 1) new ≡ new = take_all (d + 1) new (omega arith) in
    let none : drop (d + 1) new ≡ [] = drop_all (d + 1) new (omega arith) in
    let means : meanings (bs ++ more) new ≡ meanings bs (take d es) ++ m ∷ []
    = map-append (edit_of (bs ++ more)) (take d es) (e ∷ []) ∙ ap₂ (λ ms n. ms ++ n ∷ []) (meanings_grow bs more (take d es) (All-take (Good bs) d es g)) is in
    ap₂ (λ ds us. both (in_order (meanings (bs ++ more) ds) []) (meanings (bs ++ more) us)) all none
    ∙ ap (λ ms. both (in_order ms []) []) means ∙ ap (λ ds. both ds []) (in_order_push (meanings bs (take d es)) [] m)
