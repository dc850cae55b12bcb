-- The history in the slots, and what undo, redo and a new edit make of it and of what the tiles hold. Assumes nothing.
use Rattle.std.proofs.Common.{◌≡◌, ℕ, zero, suc, ◌+◌, ◌-◌, ◌*◌, ◌<◌, ◌≤◌, List, [], ◌∷◌, ◌++◌, length, get_or, take, drop, sym, refl, ap, ◌∙◌, subst, ap₂, inl, inr, append_assoc, append-nil, add-one, arith, length-drop}
use Rattle.std.proofs.lemmas.List.{same_lists, take-append-drop, length-take-le, get_or-take, get_or-drop, get_or_default}
use Rattle.std.proofs.lemmas.Bool.{cond-true, cases_order}
use Rattle.pixel.specs.Bytes.{BytesTo}
use Rattle.pixel.specs.declared.sizes.Size.{Size}
use Rattle.page.specs.Edits.{Page, Edit, edited, blank}
use Rattle.page.specs.History.{History, Turn, turned, does, undo, redo, in_order}
use Rattle.page.specs.Agree.{Agree}
use Rattle.page.proofs.Undo.{after_more, done_in_order}
use Rattle.page.proofs.Agreeing.{agree_trans, edits_agree, seen_agree}
use Rattle.codec.specs.Laws.{EditBytes}
use Rattle.codec.specs.Meaning.{Bytes}
use Rattle.codec.specs.Written.{written}
use Rattle.codec.proofs.Writes.{written_short}
use Rattle.canvas.specs.declared.state.Canvas.{Canvas}
use Rattle.canvas.specs.Applying.{known, Applied}
use Rattle.canvas.specs.View.{view}
use Rattle.canvas.proofs.Views.{view_kept}
use Rattle.tiles.specs.Places.{AllBuilt}
use Rattle.history.specs.declared.moves.Timeline.{Timeline}
use Rattle.history.specs.Slots.{slot_edit, latest_in, edits_in, history_in, made_by, Holds, SlotPut}
use Rattle.history.specs.Moves.{Moved}
use Rattle.history.proofs.Standing.{stands_read, slot_same}

-- one edit more, applied
pub made_more : (w h : ℕ) (es : List Edit) (e : Edit) (p q : Page) → Agree p (made_by w h es) → Agree q (edited p e) → Agree q (made_by w h (e ∷ es))
made_more w h es e p q a b = subst (Agree q) (sym (after_more (blank w h) es e)) (agree_trans _ _ _ b (edits_agree _ _ e a))

-- tiles that were all built hold the page
pub all_hold : (s : Canvas) (es : List Edit) (xs ys : List ℕ) → Agree (view s xs) (made_by s.size.wide s.size.high es) → AllBuilt s xs ys → Holds s es ys
all_hold s es xs ys a b =
    let same : Agree (view s ys) (made_by s.size.wide s.size.high es)
    = agree_trans _ _ _ (view_kept s xs ys (512 * (s.size.wide * s.size.high)) (516 * (s.size.wide * s.size.high)) (omega arith) (omega arith) b.wrote) a in
    record { agrees = same; shown = λ i j iw jh. b.shown i j iw jh ∙ seen_agree (view s ys) (made_by s.size.wide s.size.high es) i j same iw jh }

-- undo and redo of the history alone
pub undo_next : (turns : List ℕ) (d u : ℕ) → (d ≡ 0 → ⊥) → history_in turns (d - 1) (u + 1) ≡ turned (history_in turns d u) undo
undo_next turns d u some =
    let is : suc (d - 1) ≡ d = omega arith in
    ap (history_in turns (d - 1)) (add-one u) ∙ ap (λ k. turned (history_in turns k u) undo) is

pub redo_next : (turns : List ℕ) (d u : ℕ) → (u ≡ 0 → ⊥) → history_in turns (d + 1) (u - 1) ≡ turned (history_in turns d u) redo
redo_next turns d u some =
    let is : suc (u - 1) ≡ u = omega arith in
    ap (λ k. history_in turns k (u - 1)) (add-one d) ∙ ap (λ k. turned (history_in turns d k) redo) is

pub no_undo : (turns : List ℕ) (d u : ℕ) → d ≡ 0 → history_in turns d u ≡ turned (history_in turns d u) undo
no_undo turns d u e = subst (λ (k : ℕ). history_in turns k u ≡ turned (history_in turns k u) undo) (sym e) refl

pub no_redo : (turns : List ℕ) (d u : ℕ) → u ≡ 0 → history_in turns d u ≡ turned (history_in turns d u) redo
no_redo turns d u e = subst (λ (k : ℕ). history_in turns d k ≡ turned (history_in turns d k) redo) (sym e) refl

pub stays : (t : Turn) (s : Timeline) (turns tiles : List ℕ) → history_in turns s.done s.undone ≡ turned (history_in turns s.done s.undone) t → Moved t s turns tiles s turns tiles
stays t s turns tiles e =
    record { same_size = refl; turns_long = refl; tiles_long = refl; few = omega arith; history_next = e; holds_next = λ a. a }

-- A NEW EDIT, whose bytes are copied into the slot behind those that are done.
slot_written : (bs turns turns' : List ℕ) (d : ℕ) (e : Edit) → EditBytes bs e → 8192 * d + length bs ≤ length turns → BytesTo (λ k. get_or bs k 0) (8192 * d) (length bs) turns turns' → slot_edit turns' d ≡ e
slot_written bs turns turns' d e b room so =
    let at = 8192 * d in
    let front : take (length bs) (drop at turns') ≡ bs
    = same_lists (take (length bs) (drop at turns')) bs (length-take-le (length bs) (drop at turns') (omega (arith, length-drop at turns', so.long))) (λ k x l.
    let kb : k < length bs = omega (arith, length-take-le (length bs) (drop at turns') (omega (arith, length-drop at turns', so.long))) in
    get_or-take (length bs) (drop at turns') k x kb ∙ get_or-drop at turns' k x ∙ get_or_default turns' (at + k) x 0 (omega (arith, so.long)) ∙ so.written k kb ∙ get_or_default bs k 0 x kb) in
    let stands : drop at turns' ≡ written e ++ drop (length bs) (drop at turns')
    = sym (take-append-drop (length bs) (drop at turns')) ∙ ap (λ l. l ++ drop (length bs) (drop at turns')) (front ∙ b.is) in
    ap known (stands_read turns' (drop (length bs) (drop at turns')) at e b.fits stands) ∙ cond-true _ e _ b.is_built

pub bytes_short : (bs : List ℕ) (e : Edit) → EditBytes bs e → length bs ≤ 4104
bytes_short bs e b = omega (arith, ap length b.is, written_short e b.fits)

pub slot_put : (bs turns turns' : List ℕ) (k : ℕ) → Bytes turns → Bytes turns' → 8192 * k + length bs ≤ length turns → length bs ≤ 8192 → BytesTo (λ m. get_or bs m 0) (8192 * k) (length bs) turns turns' → SlotPut bs k turns turns'
slot_put bs turns turns' k bx by room small so =
    record {
      long = so.long;
      here = λ e b. slot_written bs turns turns' k e b room so;
      others = λ j ne. slot_same turns turns' j bx by so.long (λ q l u.
          elim (cases_order j k) [
            | inl e ↦ absurd (ne e)
            | inr o ↦ elim o [ inl lt ↦ so.before q (omega arith) | inr gt ↦ so.after q (omega arith) ]
          ]);
    }

-- slots that keep their edits keep their rows
pub latest_kept : (xs ys : List ℕ) (n : ℕ) → ((j : ℕ) → j < n → slot_edit ys j ≡ slot_edit xs j) → latest_in ys n ≡ latest_in xs n
latest_kept xs ys zero same = refl
latest_kept xs ys (suc n) same = ap₂ (λ e es. e ∷ es) (same n (omega arith)) (latest_kept xs ys n (λ j l. same j (omega arith)))

pub edits_kept : (xs ys : List ℕ) (a n : ℕ) → ((j : ℕ) → j < a + n → slot_edit ys j ≡ slot_edit xs j) → edits_in ys a n ≡ edits_in xs a n
edits_kept xs ys a zero same = refl
edits_kept xs ys a (suc n) same = ap₂ (λ e es. e ∷ es) (same a (omega arith)) (edits_kept xs ys (suc a) n (λ j l. same j (omega arith)))

pub did_edit : (bs turns turns' tiles mid tiles' : List ℕ) (s : Timeline) (t : Canvas) (e f : Edit) → EditBytes bs e → SlotPut bs s.done turns turns' → f ≡ slot_edit turns' s.done → Applied s.canvas f tiles t mid → AllBuilt t mid tiles' →
    Moved (does e) s turns tiles (record { canvas = t; done = s.done + 1; undone = 0 }) turns' tiles'
did_edit bs turns turns' tiles mid tiles' s t e f b put is applied all =
    let d = s.done in
    let z = s.canvas.size in
    let new : slot_edit turns' d ≡ e = put.here e b in
    let old : latest_in turns' d ≡ latest_in turns d = latest_kept turns turns' d (λ j l. put.others j (λ x. omega arith)) in
    let row : latest_in turns' (d + 1) ≡ e ∷ latest_in turns d = ap (latest_in turns') (add-one d) ∙ ap₂ (λ x xs. x ∷ xs) new old in
    record {
      same_size = applied.same_size;
      turns_long = put.long;
      tiles_long = all.wrote.long ∙ applied.long;
      few = omega arith;
      history_next = ap (λ (es : List Edit). let b : History = record { done = es; undone = [] } in b) row;
      holds_next = λ held. subst (λ (es : List Edit). Holds t es tiles') (sym row)
          (all_hold t (e ∷ latest_in turns d) mid tiles'
          (subst (λ (y : Size). Agree (view t mid) (made_by y.wide y.high (e ∷ latest_in turns d))) (sym applied.same_size)
          (made_more z.wide z.high (latest_in turns d) e (view s.canvas tiles) (view t mid) held.agrees (subst (λ (x : Edit). Agree (view t mid) (edited (view s.canvas tiles) x)) (is ∙ new) applied.agrees))) all);
    }

-- ROWS OF SLOTS: one more at the end, two rows joined, and the done edits in their order
pub edits_push : (xs : List ℕ) (a n : ℕ) → edits_in xs a (suc n) ≡ edits_in xs a n ++ slot_edit xs (a + n) ∷ []
edits_push xs a zero = let here : a ≡ a + 0 = omega arith in ap (λ k. slot_edit xs k ∷ []) here
edits_push xs a (suc n) =
    let next : suc a + n ≡ a + suc n = omega arith in
    ap (λ es. slot_edit xs a ∷ es) (edits_push xs (suc a) n ∙ ap (λ k. edits_in xs (suc a) n ++ slot_edit xs k ∷ []) next)

pub edits_join : (xs : List ℕ) (a m n : ℕ) → edits_in xs a (m + n) ≡ edits_in xs a m ++ edits_in xs (a + m) n
edits_join xs a zero n =
    let none : 0 + n ≡ n = omega arith in
    let here : a ≡ a + 0 = omega arith in ap (edits_in xs a) none ∙ ap (λ k. edits_in xs k n) here
edits_join xs a (suc m) n =
    let more : suc m + n ≡ suc (m + n) = omega arith in
    let next : suc a + m ≡ a + suc m = omega arith in
    ap (edits_in xs a) more ∙ ap (λ es. slot_edit xs a ∷ es) (edits_join xs (suc a) m n ∙ ap (λ k. edits_in xs (suc a) m ++ edits_in xs k n) next)

latest_onto : (xs : List ℕ) (n : ℕ) (zs : List Edit) → in_order (latest_in xs n) zs ≡ edits_in xs 0 n ++ zs
latest_onto xs zero zs = refl
latest_onto xs (suc n) zs =
    let here : 0 + n ≡ n = omega arith in
    latest_onto xs n (slot_edit xs n ∷ zs) ∙ sym (append_assoc (edits_in xs 0 n) (slot_edit xs n ∷ []) zs)
    ∙ ap (λ es. es ++ zs) (sym (edits_push xs 0 n ∙ ap (λ k. edits_in xs 0 n ++ slot_edit xs k ∷ []) here))

pub latest_row : (xs : List ℕ) (n : ℕ) → in_order (latest_in xs n) [] ≡ edits_in xs 0 n
latest_row xs n = latest_onto xs n [] ∙ append-nil (edits_in xs 0 n)

pub row_latest : (xs : List ℕ) (n : ℕ) → latest_in xs n ≡ in_order (edits_in xs 0 n) []
row_latest xs n = sym (done_in_order (latest_in xs n)) ∙ ap (λ es. in_order es []) (latest_row xs n)

pub edits_long : (xs : List ℕ) (a n : ℕ) → length (edits_in xs a n) ≡ n
edits_long xs a zero = refl
edits_long xs a (suc n) = ap suc (edits_long xs (suc a) n)

-- the first k slots and the next
pub row_more : (xs : List ℕ) (k : ℕ) → edits_in xs 0 (k + 1) ≡ edits_in xs 0 k ++ slot_edit xs k ∷ []
row_more xs k =
    let here : 0 + k ≡ k = omega arith in
    ap (edits_in xs 0) (add-one k) ∙ edits_push xs 0 k ∙ ap (λ n. edits_in xs 0 k ++ slot_edit xs n ∷ []) here
