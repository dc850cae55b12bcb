-- What follows of desks that come about. Assumes nothing.
use Rattle.std.proofs.Common.{◌≡◌, ℕ, ◌+◌, ◌*◌, ◌<◌, List, [], ◌∷◌, ◌++◌, length, Some, None, Ok, Err, Option, Result, sym, ap, ◌∙◌, subst, ap₂, append_assoc, arith, MatchResult}
use Rattle.std.proofs.lemmas.Bool.Decides.{nat_tests}
use Rattle.pixel.specs.declared.sizes.Size.{Size}
use Rattle.page.specs.Filters.{invert}
use Rattle.pixel.specs.Pixels.{clear}
use Rattle.page.specs.Edits.{Page, Edit, edited, layer, blank, seen}
use Rattle.page.specs.Agree.{Agree}
use Rattle.page.specs.History as model
use Rattle.page.specs.History.{Turn, does, undo, redo, empty, page}
use Rattle.page.proofs.Undo.{turns_append, there_and_back, after_more}
use Rattle.page.proofs.Outside.{only_selected}
use Rattle.page.proofs.Same.{layer_at}
use Rattle.codec.specs.declared.edits.Refusal.{Refusal}
use Rattle.codec.specs.declared.edits.Turn.{Turn as Read}
use Rattle.codec.specs.Meaning.{turn_of}
use Rattle.codec.specs.Written.{written_turn}
use Rattle.codec.specs.Read.{read_turn}
use Rattle.codec.proofs.Means.{written_turn_read}
use Rattle.history.specs.Slots.{made_by}
use Rattle.editor.specs.Promises.{pixels, against, Turned, TurnEnds}
use Rattle.editor.specs.Runs.{Desk, shown, Comes}
use Rattle.editor.specs.Theorems.{then, held, Ready, CarriedOut, StillReady, UndoneAndRedone, Paints, fills, strokes, filters, pastes, OutsideStays, WhateverWasLent}
use Rattle.editor.proofs.Coming.{comes_stand, shows_the_page}

-- nothing is against a turn where the slices are long enough
pub none_against : (n : ℕ) (d : Desk) → Ready (n + 1) d → against d.editor (length d.turns) (length d.tiles) (length d.work) ≡ None
none_against n d room = grind (arith, nat_tests, room.few, room.for_turns, room.for_tiles, room.for_work)

-- a turn that is read is taken
taken_by : (bs : List ℕ) (x : Result Read Refusal) (P : Read → Type 0) (d d' : Desk) (r : Result (Unit {0}) Refusal) → MatchResult x P (λ f. ⊥) →
    TurnEnds bs x d.editor d.turns d.tiles d.work d'.editor d'.turns d'.tiles d'.work r →
    (r ≡ Ok tt) × ((t : Turn) × Turned d.editor t d.turns d.tiles d.work d'.editor d'.turns d'.tiles d'.work)
taken_by bs (Ok t) P d d' r c e = (e.0, (turn_of bs t, e.1))
taken_by bs (Err f) P d d' r c e = absurd c

pub carried_out : CarriedOut
carried_out n t d d' r f b room e =
    let bs = written_turn t in
    let free = none_against n d room in
    let read = subst (λ (o : Option Refusal). TurnEnds bs (read_turn bs o) d.editor d.turns d.tiles d.work d'.editor d'.turns d'.tiles d'.work r) free e in
    let x = taken_by bs (read_turn bs None) (λ s. turn_of bs s ≡ t) d d' r (written_turn_read t f b) read in
    let did = x.1.1 in
    let same : pixels d'.editor ≡ pixels d.editor = ap (λ (z : Size). z.wide * z.high) did.same_size in (
      x.0,
      record {
        few = omega (arith, room.few, did.one_taken);
        for_turns = omega (arith, room.for_turns, did.one_taken, did.turns_long);
        for_tiles = omega (arith, room.for_tiles, did.tiles_long, same);
        for_work = omega (arith, room.for_work, did.work_long, same);
      },
    )

pub still_ready : StillReady
still_ready w h n ts d c few turns work =
    let so = comes_stand w h ts d c in
    let same : pixels d.editor ≡ w * h = ap₂ ◌*◌ so.wide_is so.high_is in
    record {
      few = omega (arith, so.few);
      for_turns = omega (arith, so.few);
      for_tiles = so.sound.room;
      for_work = omega arith;
    }

pub whatever_was_lent : WhateverWasLent
whatever_was_lent w h i j ts d d' iw jh c c' = shows_the_page w h i j ts d c iw jh ∙ sym (shows_the_page w h i j ts d' c' iw jh)

-- two runs whose pages are the same show the same
same_page : (w h i j : ℕ) (ts us : List Turn) (d d' : Desk) → page w h ts ≡ page w h us → i < w → j < h → Comes w h ts d → Comes w h us d' → shown d i j ≡ shown d' i j
same_page w h i j ts us d d' e iw jh c c' =
    shows_the_page w h i j ts d c iw jh ∙ (ap (λ (p : Page). Some (seen p i j)) e ∙ sym (shows_the_page w h i j us d' c' iw jh))

pub undone_and_redone : UndoneAndRedone
undone_and_redone w h i j ts e before edited undone redone iw jh cb ce cu cr =
    let one = append_assoc ts (does e ∷ []) (undo ∷ []) in
    let two : then (then (then ts (does e)) undo) redo ≡ ts ++ does e ∷ undo ∷ redo ∷ [] = ap (λ us. us ++ redo ∷ []) one ∙ append_assoc ts (does e ∷ undo ∷ []) (redo ∷ []) in
    let back = there_and_back w h ts e in (
      same_page w h i j _ ts undone before (ap (page w h) one ∙ back.0) iw jh cu cb,
      same_page w h i j _ (then ts (does e)) redone edited (ap (page w h) two ∙ back.1) iw jh cr ce,
    )

-- the page in the bytes is the page of the turns
held_agrees : (w h : ℕ) (ts : List Turn) (d : Desk) → Comes w h ts d → Agree (held d) (page w h ts)
unfolding page
held_agrees w h ts d c =
    let so = comes_stand w h ts d c in
    let P : ℕ → ℕ → model.History → Type 0 = λ x y b. Agree (held d) (made_by x y b.done) in
    subst (λ (x : ℕ). P x h (model.turns empty ts)) so.wide_is
    (subst (λ (y : ℕ). P d.editor.timeline.canvas.size.wide y (model.turns empty ts)) so.high_is
    (subst (P d.editor.timeline.canvas.size.wide d.editor.timeline.canvas.size.high) so.history_is so.sound.holds.agrees))

page_more : (w h : ℕ) (ts : List Turn) (e : Edit) → page w h (then ts (does e)) ≡ edited (page w h ts) e
unfolding page
page_more w h ts e = ap (λ b. made_by w h b.done) (turns_append empty ts (does e ∷ [])) ∙ after_more (blank w h) (model.turns empty ts).done e

paints_within : (p : Page) (e : Edit) (i j k : ℕ) → Paints e → p.selected i j ≡ 0 → (layer (edited p e) k).pixels i j ≡ (layer p k).pixels i j
paints_within p _ i j k (fills d) s = (only_selected p i j k d 0 0 0 [] invert s).0
paints_within p _ i j k (strokes d r ats) s = (only_selected p i j k d r 0 0 ats invert s).1
paints_within p _ i j k (filters f) s = (only_selected p i j k clear 0 0 0 [] f s).2
paints_within p _ i j k (pastes x y) s = (only_selected p i j k clear 0 x y [] invert s).3

-- the pixel of a layer in the bytes is the page's
layer_held : (w h i j k : ℕ) (ts : List Turn) (d : Desk) → Comes w h ts d → i < w → j < h → (layer (held d) k).pixels i j ≡ (layer (page w h ts) k).pixels i j
layer_held w h i j k ts d c iw jh =
    let so = comes_stand w h ts d c in
    (layer_at _ _ (held d).layers (page w h ts).layers k (held_agrees w h ts d c).same_layers).same_pixels i j (omega (arith, so.wide_is)) (omega (arith, so.high_is))

pub outside_stays : OutsideStays
outside_stays w h i j k ts e d d' paints iw jh c c' s =
    let so = comes_stand w h ts d c in
    let none : (page w h ts).selected i j ≡ 0 = sym ((held_agrees w h ts d c).same_selected i j (omega (arith, so.wide_is)) (omega (arith, so.high_is))) ∙ s in
    layer_held w h i j k (then ts (does e)) d' c' iw jh
    ∙ (ap (λ (p : Page). (layer p k).pixels i j) (page_more w h ts e) ∙ (paints_within (page w h ts) e i j k paints none ∙ sym (layer_held w h i j k ts d c iw jh)))
