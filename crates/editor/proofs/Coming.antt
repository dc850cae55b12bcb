-- What always holds of a desk that came about, and so the main theorem. Assumes nothing.
use Rattle.std.proofs.Common.{◌≡◌, ℕ, zero, suc, ◌+◌, ◌*◌, ◌<◌, ◌≤◌, Bool, true, cond, ◌&&◌, eqb, ltb, leb, List, [], ◌∷◌, ◌++◌, length, get_or, take, drop, Some, None, Ok, Err, Option, Result, sym, refl, ap, ◌∙◌, subst, ap₂, arith, length-append}
use Rattle.std.specs.List.{All}
use Rattle.std.proofs.lemmas.List.Elements.{All-nil, All-cons, All-tail}
use Rattle.std.proofs.lemmas.List.{take_at}
use Rattle.std.proofs.lemmas.Result.{MatchResult-at_ok}
use Rattle.std.proofs.lemmas.Bool.{lt-ltb, le-leb, cond_both}
use Rattle.pixel.specs.declared.sizes.Size.{Size}
use Rattle.pixel.specs.declared.Pixel.{Pixel}
use Rattle.page.specs.Edits.{Edit, seen}
use Rattle.page.specs.Fits.{Fits}
use Rattle.page.specs.History as model
use Rattle.page.specs.History.{Turn, History, does, undo, redo, empty, turned, in_order, page}
use Rattle.page.proofs.Undo.{turns_append, done_in_order}
use Rattle.codec.specs.declared.edits.Refusal.{Refusal}
use Rattle.codec.specs.declared.edits.Turn.{Turn as Read}
use Rattle.codec.specs.declared.file.File.{File}
use Rattle.codec.specs.Laws.{TurnFits, TurnBuilt}
use Rattle.codec.specs.Meaning.{turn_of}
use Rattle.codec.specs.Written.{written_turn}
use Rattle.codec.specs.Scan.{End}
use Rattle.codec.specs.Read.{read_turn, whole_edit, taken_end}
use Rattle.codec.specs.Files.{IsFile, Built, read_file, file_written, after_edits}
use Rattle.codec.proofs.Means.{written_turn_read, of_taken}
use Rattle.codec.proofs.Files.{file_read_is}
use Rattle.codec.proofs.Rows.{length_from}
use Rattle.history.specs.Slots.{latest_in, edits_in, made_by}
use Rattle.tiles.specs.Places.{shown_at}
use Rattle.editor.specs.declared.state.Editor.{Editor}
use Rattle.editor.specs.Promises.{history, Sound, Begun, BeginEnds, against, Turned, TurnEnds, file_of, WriteEnds, Opened, lengths, ReadEnds}
use Rattle.editor.specs.Runs.{Lent, Desk, Takes, Reads, Comes, begins, takes, reopens, ShowsThePage}

-- EDITS that fit and are built, in what is done and what is undone
abbrev pub Good : Edit → Type 0
Good e = Fits e × Built e

abbrev pub HistoryGood : History → Type 0
HistoryGood b = All Good b.done × All Good b.undone

undone_good : (es : List Edit) (b : History) → All Good es → HistoryGood b → HistoryGood (model.undone_once es b)
undone_good [] b a g = g
undone_good (e ∷ es) b a g = (All-tail Good e es a, All-cons Good e b.undone (a 0 e (omega arith)) g.1)

redone_good : (es : List Edit) (b : History) → All Good es → HistoryGood b → HistoryGood (model.redone_once es b)
redone_good [] b a g = g
redone_good (e ∷ es) b a g = (All-cons Good e b.done (a 0 e (omega arith)) g.0, All-tail Good e es a)

pub turned_good : (b : History) (t : Turn) → TurnFits t → TurnBuilt t → HistoryGood b → HistoryGood (turned b t)
turned_good b (does e) f k g = (All-cons Good e b.done (f, k) g.0, All-nil Good)
turned_good b undo f k g = undone_good b.done b g.0 g
turned_good b redo f k g = redone_good b.undone b g.1 g

-- WHAT ALWAYS HOLDS: the size, sound bytes, the history that the turns come to, of edits that fit; and no more turns are counted than there were
pub record Stands (w h : ℕ) (ts : List Turn) (d : Desk) : Type 0 where
  pub wide_is : d.editor.timeline.canvas.size.wide ≡ w
  pub high_is : d.editor.timeline.canvas.size.high ≡ h
  pub sound : Sound d.editor d.turns d.tiles
  pub history_is : history d.editor d.turns ≡ model.turns empty ts
  pub good : HistoryGood (model.turns empty ts)
  pub few : d.editor.taken ≤ length ts

-- begun
begun_of : (o : Option Refusal) (w h : ℕ) (turns tiles work turns' tiles' work' : List ℕ) (s : Editor) → BeginEnds o w h turns tiles work turns' tiles' work' (Ok s) → Begun w h s turns' tiles'
begun_of None w h turns tiles work turns' tiles' work' s b = b.3
begun_of (Some why) w h turns tiles work turns' tiles' work' s b = absurd b

stands_begun : (w h : ℕ) (d : Desk) → Begun w h d.editor d.turns d.tiles → Stands w h [] d
stands_begun w h d b =
    record { wide_is = b.wide_is; high_is = b.high_is; sound = b.sound; history_is = b.no_history; good = (All-nil Good, All-nil Good); few = omega (arith, b.none_taken) }

-- one turn further
no_ok : {A B : Type 0} (x : A) (y : B) → ◌≡◌ {A = Result A B} (Ok x) (Err y) → ⊥
no_ok x y e = let z : ◌≡◌ {A = ℕ} 0 1 = cc in omega arith

pub turned_of : (bs : List ℕ) (x : Result Read Refusal) (s s' : Editor) (turns tiles work turns' tiles' work' : List ℕ) → TurnEnds bs x s turns tiles work s' turns' tiles' work' (Ok tt) →
    (r : Read) × (x ≡ Ok r) × Turned s (turn_of bs r) turns tiles work s' turns' tiles' work'
turned_of bs (Ok r) s s' turns tiles work turns' tiles' work' e = (r, refl, e.1)
turned_of bs (Err f) s s' turns tiles work turns' tiles' work' e = absurd (no_ok tt f e.0)

-- what is read was free to be
module _ (bs : List ℕ) (f : Refusal) (r : Read) where
  err_not : (g : Refusal) → ◌≡◌ {A = Result Read Refusal} (Err g) (Ok r) → ⊥
  err_not g e = no_ok r g (sym e)

  edit_not : (x : End) → taken_end bs 0 (Some f) ≡ x → whole_edit bs x ≡ Ok r → ⊥
  edit_not (Ok n) t e = let z : Some f ≡ None = (of_taken bs 0 (Some f) n t).free in let y : ◌≡◌ {A = ℕ} 0 1 = cc in omega arith
  edit_not (Err g) t e = err_not g e

  turn_not : read_turn bs (Some f) ≡ Ok r → ⊥
  turn_not e =
      let P : Result Read Refusal → Type 0 = λ x. x ≡ Ok r → ⊥ in
      cond_both (eqb (get_or bs 0 0) 17) _ _ P (λ k. err_not f) (λ k. cond_both (eqb (get_or bs 0 0) 18) _ _ P (λ l. err_not f) (λ l. edit_not (taken_end bs 0 (Some f)) refl)) e

pub read_free : (bs : List ℕ) (o : Option Refusal) (r : Read) → read_turn bs o ≡ Ok r → o ≡ None
read_free bs None r e = refl
read_free bs (Some f) r e = absurd (turn_not bs f r e)

-- a turn that fits and is taken is that turn
pub turn_taken : (d d' : Desk) (t : Turn) → TurnFits t → TurnBuilt t → Takes d (written_turn t) d' (Ok tt) →
    Turned d.editor t d.turns d.tiles d.work d'.editor d'.turns d'.tiles d'.work
turn_taken d d' t f b e =
    let bs = written_turn t in
    let o = against d.editor (length d.turns) (length d.tiles) (length d.work) in
    let x = turned_of bs (read_turn bs o) d.editor d'.editor d.turns d.tiles d.work d'.turns d'.tiles d'.work e in
    let free : o ≡ None = read_free bs o x.0 x.1 in
    let is : turn_of bs x.0 ≡ t = MatchResult-at_ok (λ s. turn_of bs s ≡ t) (λ g. ⊥) x.0 (sym (ap (read_turn bs) free) ∙ x.1) (written_turn_read t f b) in
    subst (λ (u : Turn). Turned d.editor u d.turns d.tiles d.work d'.editor d'.turns d'.tiles d'.work) is x.2

stands_turned : (w h : ℕ) (ts : List Turn) (t : Turn) (d d' : Desk) → TurnFits t → TurnBuilt t → Stands w h ts d →
    Turned d.editor t d.turns d.tiles d.work d'.editor d'.turns d'.tiles d'.work → Stands w h (ts ++ t ∷ []) d'
stands_turned w h ts t d d' f b so did =
    let next : model.turns empty (ts ++ t ∷ []) ≡ turned (model.turns empty ts) t = turns_append empty ts (t ∷ []) in
    record {
      wide_is = ap (λ (z : Size). z.wide) did.same_size ∙ so.wide_is;
      high_is = ap (λ (z : Size). z.high) did.same_size ∙ so.high_is;
      sound = did.sound_next so.sound;
      history_is = did.history_next ∙ (ap (λ a. turned a t) so.history_is ∙ sym next);
      good = subst HistoryGood (sym next) (turned_good (model.turns empty ts) t f b so.good);
      few = omega (arith, did.one_taken, so.few, length-append ts (t ∷ []));
    }

-- written and read again
pub length-latest : (turns : List ℕ) (n : ℕ) → length (latest_in turns n) ≡ n
length-latest turns zero = refl
length-latest turns (suc n) = ap suc (length-latest turns n)

pub length-edits : (turns : List ℕ) (k n : ℕ) → length (edits_in turns k n) ≡ n
length-edits turns k zero = refl
length-edits turns k (suc n) = ap suc (length-edits turns (suc k) n)

pub length-in_order : (xs ys : List Edit) → length (in_order xs ys) ≡ length xs + length ys
length-in_order [] ys = omega arith
length-in_order (x ∷ xs) ys = omega (arith, length-in_order xs (x ∷ ys))

pub all_in_order : (P : Edit → Type 0) (xs ys : List Edit) → All P xs → All P ys → All P (in_order xs ys)
all_in_order P [] ys a b = b
all_in_order P (x ∷ xs) ys a b = all_in_order P xs (x ∷ ys) (All-tail P x xs a) (All-cons P x ys (a 0 x (omega arith)) b)

all_fit : (es : List Edit) → All Good es → All Fits es
all_fit es a = λ k d l. (a k d l).0

-- the file of an editor whose edits fit is one
pub file_is : (w h : ℕ) (s : Editor) (turns : List ℕ) → s.timeline.canvas.size.wide ≡ w → s.timeline.canvas.size.high ≡ h → HistoryGood (history s turns) →
    IsFile (file_of s turns) w h (in_order (history s turns).done []) (history s turns).undone
file_is w h s turns ws hs g =
    let size = s.timeline.canvas.size.sized in let count = s.counted in
    record {
      wide = (omega (arith, size), omega (arith, size));
      high = (omega (arith, size), omega (arith, size));
      fit = (all_in_order Fits (history s turns).done [] (all_fit _ g.0) (All-nil Fits), all_fit _ g.1);
      few = (omega (arith, count, length-in_order (history s turns).done [], length-latest turns s.timeline.done), omega (arith, count, length-edits turns s.timeline.done s.timeline.undone));
      is = ap₂ (λ x y. file_written x y (in_order (history s turns).done []) (history s turns).undone) ws hs;
    }

pub written_of : (o : Option Refusal) (s : Editor) (turns file file' : List ℕ) (n : ℕ) → WriteEnds o s turns file file' (Ok n) → take n file' ≡ file_of s turns
written_of None s turns file file' n e = ap (take n) e.1 ∙ take_at (file_of s turns) (drop n file) n (sym e.0)
written_of (Some why) s turns file file' n e = absurd e

opened_of : (bs : List ℕ) (x : Result File Refusal) (turns tiles work turns' tiles' work' : List ℕ) (s : Editor) → ReadEnds bs x turns tiles work turns' tiles' work' (Ok s) →
    (f : File) × (x ≡ Ok f) × Opened bs f s turns' tiles'
opened_of bs (Ok f) turns tiles work turns' tiles' work' s e = (f, refl, e.3)
opened_of bs (Err g) turns tiles work turns' tiles' work' s e = absurd e

stands_reopened : (w h : ℕ) (ts : List Turn) (d d' : Desk) (bs : List ℕ) (m : Lent) → Stands w h ts d → bs ≡ file_of d.editor d.turns → Reads bs m d' (Ok d'.editor) → Stands w h ts d'
stands_reopened w h ts d d' bs m so is e =
    let b = history d.editor d.turns in
    let lent = lengths m.turns m.tiles m.work in
    let ds = in_order b.done [] in
    let x = opened_of bs (read_file bs lent) m.turns m.tiles m.work d'.turns d'.tiles d'.work d'.editor e in
    let f = x.0 in let o = x.2 in
    let file : IsFile bs w h ds b.undone
    = subst (λ (l : List ℕ). IsFile l w h ds b.undone) (sym is) (file_is w h d.editor d.turns so.wide_is so.high_is (subst HistoryGood (sym so.history_is) so.good)) in
    let same = file_read_is bs lent w h ds b.undone f file x.1 in
    let done_same : (history d'.editor d'.turns).done ≡ b.done = o.done_is ∙ (ap (λ es. in_order es []) same.2 ∙ done_in_order b.done) in
    let undone_same : (history d'.editor d'.turns).undone ≡ b.undone = o.undone_is ∙ same.3 in
    let done_many : f.done ≡ d.editor.timeline.done
    = sym (length_from bs f.done 16) ∙ (ap length same.2 ∙ (length-in_order b.done [] ∙ omega (arith, length-latest d.turns d.editor.timeline.done))) in
    let undone_many : f.undone ≡ d.editor.timeline.undone
    = sym (length_from bs f.undone (after_edits bs 16 f.done)) ∙ (ap length same.3 ∙ length-edits d.turns d.editor.timeline.done d.editor.timeline.undone) in
    record {
      wide_is = o.wide_is ∙ same.0;
      high_is = o.high_is ∙ same.1;
      sound = o.sound;
      history_is = ap₂ (λ ds us. let a : History = record { done = ds; undone = us } in a) done_same undone_same ∙ so.history_is;
      good = so.good;
      few = omega (arith, o.all_taken, done_many, undone_many, d.editor.counted, so.few);
    }

pub comes_stand : (w h : ℕ) (ts : List Turn) (d : Desk) → Comes w h ts d → Stands w h ts d
comes_stand w h _ _ (begins m d e) = stands_begun w h d (begun_of _ w h m.turns m.tiles m.work d.turns d.tiles d.work d.editor e)
comes_stand w h _ _ (takes ts t d d' c f b e) = stands_turned w h ts t d d' f b (comes_stand w h ts d c) (turn_taken d d' t f b e)
comes_stand w h _ _ (reopens ts d d' file file' n m c u e) =
    stands_reopened w h ts d d' (take n file') m (comes_stand w h ts d c) (written_of _ d.editor d.turns file file' n u) e

-- WHAT IS SHOWN of a sound desk
all_pass : (a b c : Bool) (o : Option Pixel) → a ≡ true → b ≡ true → c ≡ true → cond ((a && b) && c) o None ≡ o
all_pass a b c o ha hb hc = rw (ha, hb, hc) refl

pub sound_shown : (w h i j : ℕ) (s : Editor) (turns tiles : List ℕ) → s.timeline.canvas.size.wide ≡ w → s.timeline.canvas.size.high ≡ h → Sound s turns tiles → i < w → j < h →
    shown_at s.timeline.canvas tiles i j ≡ Some (seen (made_by w h (history s turns).done) i j)
sound_shown w h i j s turns tiles ws hs so iw jh =
    let wide = s.timeline.canvas.size.wide in let high = s.timeline.canvas.size.high in
    let left : i < wide = omega arith in let top : j < high = omega arith in
    all_pass (ltb i wide) (ltb j high) (leb (544 * (wide * high)) (length tiles)) _ (lt-ltb i wide left) (lt-ltb j high top) (le-leb (544 * (wide * high)) (length tiles) so.room)
    ∙ (ap Some (so.holds.shown i j left top) ∙ ap₂ (λ x y. Some (seen (made_by x y (history s turns).done) i j)) ws hs)

pub shows_the_page : ShowsThePage
unfolding page
shows_the_page w h i j ts d c iw jh =
    let so = comes_stand w h ts d c in
    sound_shown w h i j d.editor d.turns d.tiles so.wide_is so.high_is so.sound iw jh
    ∙ ap (λ b. Some (seen (made_by w h b.done) i j)) so.history_is
