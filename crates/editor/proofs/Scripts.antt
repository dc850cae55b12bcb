-- Scripts: where their turns end, and what each step of playing them comes to. Assumes nothing.
use Rattle.std.proofs.Common.{◌≡◌, ℕ, ◌+◌, ◌-◌, ◌*◌, ◌<◌, ◌≤◌, false, ◌&&◌, ◌||◌, eqb, ltb, leb, List, [], ◌∷◌, ◌++◌, length, get_or, take, drop, Some, None, Ok, Err, Option, Result, sym, refl, ap, ◌∙◌, subst, ap₂, inl, inr, arith, length-append, length-drop, take-append-drop}
use Rattle.std.specs.List.{between}
use Rattle.std.specs.Result.{result_unwrap_or}
use Rattle.std.proofs.lemmas.List.Edits.{length-between, get_or-between}
use Rattle.std.proofs.lemmas.Slice.{between_is}
use Rattle.std.proofs.lemmas.List.{get_or_past, flat_map_more, take_all, take-take}
use Rattle.std.proofs.lemmas.Bool.{cond-true, cond-false, ltb-true, ltb-false, ne_eqb, and_parts, cases_Bool, le-leb}
use Rattle.pixel.specs.declared.Pixel.{Pixel}
use Rattle.page.specs.History.{Turn}
use Rattle.codec.specs.declared.edits.Refusal.{Refusal}
use Rattle.codec.specs.declared.edits.Turn.{Turn as Read}
use Rattle.codec.specs.Laws.{Taken}
use Rattle.codec.specs.Meaning.{edit_of, turn_of, Bytes}
use Rattle.codec.specs.Scan.{End, end_of, edit_at}
use Rattle.codec.specs.Read.{read_turn}
use Rattle.codec.specs.Written.{written, written_turn}
use Rattle.codec.proofs.Sound.{reads_written}
use Rattle.codec.proofs.Means.{written_long, read_turn_means}
use Rattle.editor.specs.declared.state.Editor.{Editor}
use Rattle.editor.specs.Promises.{begin_refusal, BeginEnds, against, TurnEnds}
use Rattle.editor.specs.Runs.{Desk, Takes, shown, Comes, begins, takes}
use Rattle.editor.specs.Script.{end_or_all, Cut, Come, desk, pixel_seen, Played, Stopped, NotBegun, Long}
use Rattle.editor.proofs.Coming.{turned_of, comes_stand, shows_the_page}

-- an edit ends behind its start, and within the bytes
pub end_within : (bs : List ℕ) (at n : ℕ) → Bytes bs → end_of bs at ≡ Ok n → (at < n) × (n ≤ length bs)
end_within bs at n fit e =
    let r = reads_written bs at n fit e in
    let edit = edit_of bs (edit_at bs at) in
    (omega (arith, ap length r.0, length-drop at bs, length-drop n bs, length-append (written edit) (drop n bs), written_long edit, r.2), r.2)

pub edit_cut : (bs : List ℕ) (at n : ℕ) → Bytes bs → (get_or bs at 0 ≡ 17 → ⊥) → (get_or bs at 0 ≡ 18 → ⊥) → end_of bs at ≡ Ok n → Cut bs at n
edit_cut bs at n fit a b e =
    let within = end_within bs at n fit e in
    let test : (eqb (get_or bs at 0) 17 || eqb (get_or bs at 0) 18) ≡ false = rw (ne_eqb (get_or bs at 0) 17 a, ne_eqb (get_or bs at 0) 18 b) refl in
    record { is = sym (cond-false _ _ _ test ∙ ap (end_or_all bs) e); onward = within.0; within = within.1 }

pub cut_or_all : (bs : List ℕ) (at : ℕ) (r : End) → Bytes bs → at < length bs → (get_or bs at 0 ≡ 17 → ⊥) → (get_or bs at 0 ≡ 18 → ⊥) → end_of bs at ≡ r → Cut bs at (result_unwrap_or r (length bs))
cut_or_all bs at (Ok n) fit l a b e = edit_cut bs at n fit a b e
cut_or_all bs at (Err f) fit l a b e =
    let test : (eqb (get_or bs at 0) 17 || eqb (get_or bs at 0) 18) ≡ false = rw (ne_eqb (get_or bs at 0) 17 a, ne_eqb (get_or bs at 0) 18 b) refl in
    record { is = sym (cond-false _ _ _ test ∙ ap (end_or_all bs) e); onward = l; within = omega arith }

-- the bytes between two places are bytes
bytes_between : (bs : List ℕ) (i j : ℕ) → Bytes bs → j ≤ length bs → Bytes (between i j bs)
bytes_between bs i j fit h k = elim (cases_Bool (ltb k (j - i))) [
  | inl s ↦ let lt = ltb-true k (j - i) s in omega (arith, get_or-between bs i j k 0 (omega arith), fit (i + k))
  | inr s ↦ let le = ltb-false k (j - i) s in omega (arith, get_or_past (between i j bs) k 0 (omega (arith, length-between bs i j h)))
]

take_between : (xs : List ℕ) (i j : ℕ) → i ≤ j → take j xs ≡ take i xs ++ between i j xs
take_between xs i j h = sym (take-append-drop i (take j xs)) ∙ ap₂ ◌++◌ (take-take i j xs h) (sym (between_is xs i j))

-- BEGUN
pub play_begun : (w h : ℕ) (script turns tiles work turns' tiles' work' : List ℕ) (s : Editor) →
    BeginEnds (begin_refusal w h (length tiles) (length work)) w h turns tiles work turns' tiles' work' (Ok s) → Come w h 0 script [] (desk s turns' tiles' work')
play_begun w h script turns tiles work turns' tiles' work' s e =
    record { comes = begins (record { turns = turns; tiles = tiles; work = work; file = [] }) (desk s turns' tiles' work') e; is = refl }

pub not_begun : (w h : ℕ) (o : Option Refusal) (turns tiles work turns' tiles' work' : List ℕ) (f : Refusal) → o ≡ begin_refusal w h (length tiles) (length work) →
    BeginEnds o w h turns tiles work turns' tiles' work' (Err f) → NotBegun w h f turns tiles work turns' tiles' work'
not_begun w h None turns tiles work turns' tiles' work' f is e = absurd e
not_begun w h (Some why) turns tiles work turns' tiles' work' f is e =
    record { refused = sym is ∙ ap Some (sym e.0); same_turns = e.1; same_tiles = e.2; same_work = e.3 }

pub begun_long : (w h : ℕ) (o : Option Refusal) (turns tiles work turns' tiles' work' : List ℕ) (s : Editor) → BeginEnds o w h turns tiles work turns' tiles' work' (Ok s) →
    Long turns tiles work turns' tiles' work'
begun_long w h None turns tiles work turns' tiles' work' s e = record { turns_long = ap length e.0; tiles_long = e.1; work_long = e.2 }
begun_long w h (Some why) turns tiles work turns' tiles' work' s e = absurd e

pub long_on : (turns tiles work turns' tiles' work' turns'' tiles'' work'' : List ℕ) → Long turns tiles work turns' tiles' work' →
    length turns'' ≡ length turns' → length tiles'' ≡ length tiles' → length work'' ≡ length work' → Long turns tiles work turns'' tiles'' work''
long_on turns tiles work turns' tiles' work' turns'' tiles'' work'' l a b c =
    record { turns_long = a ∙ l.turns_long; tiles_long = b ∙ l.tiles_long; work_long = c ∙ l.work_long }

-- ONE TURN OF THE SCRIPT, taken
module _ (w h at n : ℕ) (script : List ℕ) (ts : List Turn) (s : Editor) (turns tiles work : List ℕ) (fit : Bytes script) (cut : Cut script at n) (come : Come w h at script ts (desk s turns tiles work)) where
  abbrev bytes : List ℕ
  bytes = between at n script

  abbrev barred : Option Refusal
  barred = against s (length turns) (length tiles) (length work)

  pub play_on : (s' : Editor) (turns' tiles' work' : List ℕ) → TurnEnds bytes (read_turn bytes barred) s turns tiles work s' turns' tiles' work' (Ok tt) →
      (us : List Turn) × Come w h n script us (desk s' turns' tiles' work')
  play_on s' turns' tiles' work' e =
      let x = turned_of bytes (read_turn bytes barred) s s' turns tiles work turns' tiles' work' e in
      let t = turn_of bytes x.0 in
      let taken : Taken bytes barred x.0 = read_turn_means bytes barred (Ok x.0) (sym x.1) (bytes_between script at n fit cut.within) in
      let d = desk s turns tiles work in let d' = desk s' turns' tiles' work' in (
        ts ++ t ∷ [],
        record {
          comes = takes ts t d d' come.comes taken.fits taken.is_built (subst (λ (bs : List ℕ). Takes d bs d' (Ok tt)) taken.is e);
          is = take_between script at n (omega (arith, cut.onward)) ∙ (ap₂ ◌++◌ come.is taken.is ∙ flat_map_more written_turn [] ts t);
        },
      )

  -- and refused
  err_of : (x : Result Read Refusal) (f : Refusal) (s' : Editor) (turns' tiles' work' : List ℕ) → TurnEnds bytes x s turns tiles work s' turns' tiles' work' (Err f) →
      (x ≡ Err f) × (turns' ≡ turns) × (tiles' ≡ tiles) × (work' ≡ work)
  err_of (Ok r) f s' turns' tiles' work' e = let z : ◌≡◌ {A = ℕ} 0 1 = (let y = e.0 in cc) in absurd (omega arith)
  err_of (Err g) f s' turns' tiles' work' e = (let y = e.0 in cc, e.2, e.3, e.4)

  pub play_stopped : (f : Refusal) (s' : Editor) (turns' tiles' work' : List ℕ) → at < length script → TurnEnds bytes (read_turn bytes barred) s turns tiles work s' turns' tiles' work' (Err f) →
      Stopped w h script f turns' tiles' work'
  play_stopped f s' turns' tiles' work' lt e =
      let x = err_of (read_turn bytes barred) f s' turns' tiles' work' e in
      let here : Stopped w h script f turns tiles work
      = record { editor = s; before = ts; at = at; come = come; some = lt; refused = ap (λ m. read_turn (between at m script) barred) (sym cut.is) ∙ x.0 } in
      subst (λ (l : List ℕ). Stopped w h script f l tiles' work') (sym x.1)
      (subst (λ (l : List ℕ). Stopped w h script f turns l work') (sym x.2) (subst (Stopped w h script f turns tiles) (sym x.3) here))

-- THE WHOLE SCRIPT
pub play_shown : (w h x y : ℕ) (ts : List Turn) (d : Desk) → Comes w h ts d → shown d x y ≡ pixel_seen w h ts x y
play_shown w h x y ts d c =
    let so = comes_stand w h ts d c in
    let wide = d.editor.timeline.canvas.size.wide in let high = d.editor.timeline.canvas.size.high in
    let room = le-leb (544 * (wide * high)) (length d.tiles) so.sound.room in
    elim (cases_Bool (ltb x w && ltb y h)) [
      | inl on ↦ let both = and_parts (ltb x w) (ltb y h) on in
          shows_the_page w h x y ts d c (ltb-true x w both.0) (ltb-true y h both.1) ∙ sym (cond-true _ _ _ on)
      | inr off ↦ cond-false _ _ _ (ap₂ (λ a b. (ltb x a && ltb y b) && leb (544 * (wide * high)) (length d.tiles)) so.wide_is so.high_is ∙ ap (λ b. b && leb (544 * (wide * high)) (length d.tiles)) off) ∙ sym (cond-false _ _ _ off)
    ]

pub play_ended : (w h x y at : ℕ) (script : List ℕ) (ts : List Turn) (s : Editor) (turns tiles work : List ℕ) (o : Option Pixel) → length script ≤ at → Come w h at script ts (desk s turns tiles work) →
    o ≡ shown (desk s turns tiles work) x y → Played w h x y script o turns tiles work
play_ended w h x y at script ts s turns tiles work o all come is =
    record { editor = s; all = ts; comes = come.comes; is = sym (take_all at script all) ∙ come.is; shows = is ∙ play_shown w h x y ts _ come.comes }
