-- What the readers' answers mean, from the two laws.
use Rattle.std.proofs.Common.{◌≡◌, ℕ, suc, ◌+◌, ◌<◌, ◌≤◌, true, false, cond, eqb, ltb, leb, List, [], ◌∷◌, ◌++◌, length, get_or, drop, Some, None, Ok, Err, Option, Result, sym, refl, ap, ◌∙◌, subst, inl, inr, zero-add, arith, MatchResult}
use Rattle.std.proofs.lemmas.List.{append-nil, drop_all}
use Rattle.std.proofs.lemmas.Bool.{ltb-true, ltb-false, eqb-true, eqb-false, leb-false, cond_both, cond-true, cond-false, ne_eqb, le-leb, le-ltb, cases_Bool}
use Rattle.page.specs.Edits as page
use Rattle.page.specs.Edits.{add_layer, drop_layer, choose_layer, raise_layer, set_mode, set_opacity, set_visible, merge_down, select_all, select_rect, select_similar, select_inverse, fill, stroke, apply_filter, copy, paste}
use Rattle.page.specs.History as history
use Rattle.page.specs.History.{does, undo, redo}
use Rattle.page.specs.Fits.{Fits, kind}
use Rattle.codec.specs.declared.edits.Turn.{Turn}
use Rattle.codec.specs.declared.edits.Turn.TheVariants.{Does, Undo, Redo}
use Rattle.codec.specs.declared.edits.Refusal.{Refusal}
use Rattle.codec.specs.declared.edits.Refusal.TheVariants.{NoKind}
use Rattle.codec.specs.Kinds.{built}
use Rattle.codec.specs.Written.{written, written_turn}
use Rattle.codec.specs.Meaning.{edit_of, turn_of, TurnHeld, Bytes}
use Rattle.codec.specs.Scan.{end_of, edit_at, End}
use Rattle.codec.specs.Read.{unless, taken_end, whole_turn, whole_edit, read_turn}
use Rattle.codec.specs.Laws.{EditGood, TurnFits, TurnBuilt, TurnUnbuilt, Refused, TurnRead}
use Rattle.codec.proofs.Sound.{reads_written, same_ok, of_need}
use Rattle.codec.proofs.Complete.{written_read}

-- an end that is refused is not one that is found
pub not_both : (f : Refusal) (n : ℕ) → ◌≡◌ {A = End} (Err f) (Ok n) → ⊥
not_both f n e = let z : ◌≡◌ {A = ℕ} 0 1 = cc in omega arith

-- the first byte that is written is the kind
pub kind_first : (e : page.Edit) (rest : List ℕ) → (d : ℕ) → get_or (written e ++ rest) 0 d ≡ kind e
unfolding kind
kind_first add_layer rest d = refl
kind_first drop_layer rest d = refl
kind_first (choose_layer k) rest d = refl
kind_first raise_layer rest d = refl
kind_first (set_mode m) rest d = refl
kind_first (set_opacity a) rest d = refl
kind_first (set_visible b) rest d = refl
kind_first merge_down rest d = refl
kind_first select_all rest d = refl
kind_first (select_rect x y w h) rest d = refl
kind_first (select_similar n x y) rest d = refl
kind_first select_inverse rest d = refl
kind_first (fill p) rest d = refl
kind_first (stroke p r ats) rest d = refl
kind_first (apply_filter f) rest d = refl
kind_first copy rest d = refl
kind_first (paste x y) rest d = refl

pub kind_small : (e : page.Edit) → kind e ≤ 16
unfolding kind
kind_small add_layer = omega arith
kind_small drop_layer = omega arith
kind_small (choose_layer k) = omega arith
kind_small raise_layer = omega arith
kind_small (set_mode m) = omega arith
kind_small (set_opacity a) = omega arith
kind_small (set_visible b) = omega arith
kind_small merge_down = omega arith
kind_small select_all = omega arith
kind_small (select_rect x y w h) = omega arith
kind_small (select_similar n x y) = omega arith
kind_small select_inverse = omega arith
kind_small (fill p) = omega arith
kind_small (stroke p r ats) = omega arith
kind_small (apply_filter f) = omega arith
kind_small copy = omega arith
kind_small (paste x y) = omega arith

-- what is read at `at` is good
pub good_at : (bs : List ℕ) (at n : ℕ) → Bytes bs → end_of bs at ≡ Ok n → EditGood bs (edit_at bs at)
good_at bs at n fit e = let r = reads_written bs at n fit e in record { fits = r.1; held = r.3 }

-- an end that is taken is one of the scan, of a kind that is built, with nothing against it
pub of_unless : (against : Option Refusal) (x : End) (n : ℕ) → unless against x ≡ Ok n → (against ≡ None) × (x ≡ Ok n)
of_unless None x n e = (refl, e)
of_unless (Some f) x n e = absurd (not_both f n e)

pub record OfTaken (bs : List ℕ) (at : ℕ) (against : Option Refusal) (n : ℕ) : Type 0 where
  pub is_built : built (get_or bs at 0) ≡ true
  pub free : against ≡ None
  pub end : end_of bs at ≡ Ok n

pub of_taken : (bs : List ℕ) (at : ℕ) (against : Option Refusal) (n : ℕ) → taken_end bs at against ≡ Ok n → OfTaken bs at against n
of_taken bs at against n e =
    let a = of_need _ _ _ n e in
    let b = of_need _ _ _ n a.1 in
    let c = of_unless against (end_of bs at) n b.1 in
    record { is_built = b.0; free = c.0; end = c.1 }

-- an edit is written in a byte or more
some_byte : (l : List ℕ) → get_or l 0 17 ≤ 16 → 1 ≤ length l
some_byte [] h = absurd (omega arith)
some_byte (x ∷ l) h = omega arith

pub written_long : (e : page.Edit) → 1 ≤ length (written e)
written_long e = some_byte (written e) (omega (arith, ap (λ l. get_or l 0 17) (append-nil (written e)), kind_first e [] 17, kind_small e))

module _ (bs : List ℕ) (fit : Bytes bs) where
  -- bytes that write an edit are read as it, and begin with its kind
  is_edit : (e : page.Edit) → Fits e → bs ≡ written e → end_of bs 0 ≡ Ok (length bs)
  is_edit e fits s = (written_read bs [] 0 e fits (s ∙ sym (append-nil (written e)))).0 ∙ ap (λ (n : ℕ). let r : End = Ok n in r) (zero-add (length (written e)) ∙ sym (ap length s))

  kind_edit : (e : page.Edit) (rest : List ℕ) → bs ≡ written e ++ rest → get_or bs 0 0 ≡ kind e
  kind_edit e rest s = ap (λ l. get_or l 0 0) s ∙ kind_first e rest 0

  kind_whole : (e : page.Edit) → bs ≡ written e → get_or bs 0 0 ≡ kind e
  kind_whole e s = kind_edit e [] (s ∙ sym (append-nil (written e)))

  -- a turn that ends at n: all of the bytes, or there is no turn that is all of them
  whole_means :
      (t : Turn) (n : ℕ) → bs ≡ written_turn (turn_of bs t) ++ drop n bs → TurnFits (turn_of bs t) → TurnBuilt (turn_of bs t) → TurnHeld bs t →
      ((s : history.Turn) → TurnFits s → bs ≡ written_turn s → n ≡ length bs) → TurnRead bs None (whole_turn bs t n)
  whole_means t n stands fits built held ends =
      cond_both (ltb n (length bs)) _ _ (TurnRead bs None)
      (λ h. inr (λ s f e. absurd (omega (arith, ltb-true n (length bs) h, ends s f e))))
      (λ h. record {
        is = stands ∙ (ap (λ l. written_turn (turn_of bs t) ++ l) (drop_all n bs (ltb-false n (length bs) h)) ∙ append-nil (written_turn (turn_of bs t)));
        fits = fits;
        is_built = built;
        held = held;
        free = refl;
      })

  first : (k : ℕ) → get_or bs 0 0 ≡ suc k → bs ≡ suc k ∷ drop 1 bs
  first k e = cons bs e
    where
      cons : (l : List ℕ) → get_or l 0 0 ≡ suc k → l ≡ suc k ∷ drop 1 l
      cons [] h = absurd (omega arith)
      cons (x ∷ l) h = ap (λ y. y ∷ l) h

  -- undo and redo
  single_ends : (k : ℕ) → 16 ≤ k → get_or bs 0 0 ≡ suc k → (s : history.Turn) → TurnFits s → bs ≡ written_turn s → 1 ≡ length bs
  single_ends k big is (does e) f h = absurd (omega (arith, kind_whole e h, kind_small e))
  single_ends k big is undo f h = sym (ap length h)
  single_ends k big is redo f h = sym (ap length h)

  undo_means : (against : Option Refusal) → get_or bs 0 0 ≡ 17 → TurnRead bs against (unless against (whole_turn bs Undo 1))
  undo_means None is = whole_means Undo 1 (first 16 is) tt tt tt (single_ends 16 (omega arith) is)
  undo_means (Some f) is = inl refl

  redo_means : (against : Option Refusal) → get_or bs 0 0 ≡ 18 → TurnRead bs against (unless against (whole_turn bs Redo 1))
  redo_means None is = whole_means Redo 1 (first 17 is) tt tt tt (single_ends 17 (omega arith) is)
  redo_means (Some f) is = inl refl

  -- where neither undo nor redo is read
  module _ (no17 : get_or bs 0 0 ≡ 17 → ⊥) (no18 : get_or bs 0 0 ≡ 18 → ⊥) where
    edit_only : (P : Type 0) → ((e : page.Edit) → Fits e → bs ≡ written e → P) → (s : history.Turn) → TurnFits s → bs ≡ written_turn s → P
    edit_only P one (does e) f h = one e f h
    edit_only P one undo f h = absurd (no17 (ap (λ l. get_or l 0 0) h))
    edit_only P one redo f h = absurd (no18 (ap (λ l. get_or l 0 0) h))

    free_means : (against : Option Refusal) (f : Refusal) → unless against (end_of bs 0) ≡ Err f → Refused bs against f
    free_means (Some g) f e = let same : g ≡ f = cc in inl (ap (λ (x : Refusal). let r : Option Refusal = Some x in r) same)
    free_means None f e = inr none
      where
        none : (s : history.Turn) → TurnFits s → bs ≡ written_turn s → TurnUnbuilt s × (f ≡ NoKind 0)
        none (does d) g h = absurd (not_both f (length bs) (sym e ∙ is_edit d g h))
        none undo g h = absurd (no17 (ap (λ l. get_or l 0 0) h))
        none redo g h = absurd (no18 (ap (λ l. get_or l 0 0) h))

    unbuilt_means : (against : Option Refusal) (f : Refusal) → built (get_or bs 0 0) ≡ false → NoKind 0 ≡ f → Refused bs against f
    unbuilt_means against f b e = inr unbuilt
      where
        unbuilt : (s : history.Turn) → TurnFits s → bs ≡ written_turn s → TurnUnbuilt s × (f ≡ NoKind 0)
        unbuilt (does d) g h = (ap built (sym (kind_whole d h)) ∙ b, sym e)
        unbuilt undo g h = absurd (no17 (ap (λ l. get_or l 0 0) h))
        unbuilt redo g h = absurd (no18 (ap (λ l. get_or l 0 0) h))

    empty_means : (against : Option Refusal) (f : Refusal) → length bs < 1 → Refused bs against f
    empty_means against f few = inr none
      where
        none : (s : history.Turn) → TurnFits s → bs ≡ written_turn s → TurnUnbuilt s × (f ≡ NoKind 0)
        none (does d) g h = absurd (omega (arith, written_long d, ap length h))
        none undo g h = absurd (omega (arith, ap length h))
        none redo g h = absurd (omega (arith, ap length h))

    refused_means : (against : Option Refusal) (f : Refusal) → taken_end bs 0 against ≡ Err f → Refused bs against f
    refused_means against f e = elim (cases_Bool (leb (0 + 1) (length bs))) [
      | inr few ↦ empty_means against f (omega (arith, leb-false (0 + 1) (length bs) few))
      | inl one ↦
          let a : cond (built (get_or bs 0 0)) (unless against (end_of bs 0)) (Err (NoKind 0)) ≡ Err f = sym (cond-true _ _ _ one) ∙ e in
          elim (cases_Bool (built (get_or bs 0 0))) [
            | inl b ↦ free_means against f (sym (cond-true _ _ _ b) ∙ a)
            | inr b ↦ let same : ◌≡◌ {A = End} (Err (NoKind 0)) (Err f) = sym (cond-false _ _ _ b) ∙ a in unbuilt_means against f b (cc)
          ]
    ]

    does_means : (against : Option Refusal) (x : End) → taken_end bs 0 against ≡ x → TurnRead bs against (whole_edit bs x)
    does_means against (Err f) e = refused_means against f e
    does_means against (Ok n) e =
        let t = of_taken bs 0 against n e in
        let r = reads_written bs 0 n fit t.end in
        let P : Option Refusal → Type 0 = λ a. TurnRead bs a (whole_turn bs (Does (edit_at bs 0)) n) in
        subst P (sym t.free)
        (whole_means (Does (edit_at bs 0)) n r.0 r.1 (ap built (sym (kind_edit (edit_of bs (edit_at bs 0)) (drop n bs) r.0)) ∙ t.is_built) r.3
        (edit_only (n ≡ length bs) (λ d f h. same_ok n (length bs) (sym t.end ∙ is_edit d f h))))

pub read_turn_means : (bs : List ℕ) (against : Option Refusal) (r : Result Turn Refusal) → r ≡ read_turn bs against → Bytes bs → TurnRead bs against r
read_turn_means bs against r e fit =
    let P : Result Turn Refusal → Type 0 = λ x. TurnRead bs against x in
    subst P (sym e)
    (cond_both (eqb (get_or bs 0 0) 17) _ _ P (λ h. undo_means bs fit against (eqb-true (get_or bs 0 0) 17 h))
    (λ h. cond_both (eqb (get_or bs 0 0) 18) _ _ P (λ g. redo_means bs fit against (eqb-true (get_or bs 0 0) 18 g))
    (λ g. does_means bs fit (eqb-false (get_or bs 0 0) 17 h) (eqb-false (get_or bs 0 0) 18 g) against (taken_end bs 0 against) refl)))

-- a turn that is no undo and no redo
pub other_turn : (bs : List ℕ) (against : Option Refusal) → (get_or bs 0 0 ≡ 17 → ⊥) → (get_or bs 0 0 ≡ 18 → ⊥) → read_turn bs against ≡ whole_edit bs (taken_end bs 0 against)
other_turn bs against a b = cond-false _ _ _ (ne_eqb (get_or bs 0 0) 17 a) ∙ cond-false _ _ _ (ne_eqb (get_or bs 0 0) 18 b)

-- a turn that is written is read as the same
pub written_turn_read : (t : history.Turn) → TurnFits t → TurnBuilt t → MatchResult (read_turn (written_turn t) None) (λ s. turn_of (written_turn t) s ≡ t) (λ f. ⊥)
written_turn_read (does e) fits is_built =
    let bs = written e in
    let all = sym (append-nil bs) in
    let w = written_read bs [] 0 e fits all in
    let k : get_or bs 0 0 ≡ kind e = ap (λ l. get_or l 0 0) all ∙ kind_first e [] 0 in
    let small = kind_small e in
    let taken : taken_end bs 0 None ≡ Ok (length bs) =
    cond-true _ _ _ (le-leb (0 + 1) (length bs) (omega (arith, written_long e)))
    ∙ (cond-true _ _ _ (ap built k ∙ is_built) ∙ (w.0 ∙ ap (λ (n : ℕ). let r : End = Ok n in r) (zero-add (length bs)))) in
    let read : read_turn bs None ≡ Ok (Does (edit_at bs 0)) =
    other_turn bs None (λ h. omega (arith, k, small)) (λ h. omega (arith, k, small)) ∙ (ap (whole_edit bs) taken ∙ cond-false _ _ _ (le-ltb (length bs) (length bs) (omega arith))) in
    let P : Result Turn Refusal → Type 0 = λ x. MatchResult x (λ s. turn_of bs s ≡ does e) (λ f. ⊥) in
    subst P (sym read) (ap does w.1)
written_turn_read undo fits is_built = refl
written_turn_read redo fits is_built = refl
