-- The main promise, from the contracts alone. Assumes nothing.
use Rattle.std.proofs.Common.{◌≡◌, ℕ, ◌+◌, ◌<◌, ◌≤◌, List, [], ◌∷◌, ◌++◌, length, None, Ok, Err, Option, Result, sym, refl, ap, ◌∙◌, subst, append_assoc, arith, length-append, MatchResult}
use Rattle.std.specs.List.{All}
use Rattle.std.proofs.lemmas.List.Elements.{All-nil}
use Rattle.std.proofs.lemmas.List.{append-nil}
use Rattle.pixel.specs.declared.Pixel.{Pixel}
use Rattle.page.specs.Edits.{Edit, seen}
use Rattle.page.specs.Fits.{AllFit}
use Rattle.page.specs.History.{Turn, does, undo, redo, in_order, page}
use Rattle.std.proofs.lemmas.Bool.Decides.{nat_tests}
use Rattle.codec.specs.declared.edits.Refusal.{Refusal}
use Rattle.codec.specs.declared.file.File.{File}
use Rattle.codec.specs.Kinds.{built}
use Rattle.codec.specs.Laws.{TurnFits, TurnBuilt}
use Rattle.codec.specs.Written.{written_turn}
use Rattle.codec.specs.Files.{IsFile, Built, Enough, read_file}
use Rattle.codec.proofs.Files.{file_written_read}
use Rattle.editor.specs.declared.state.Editor.{Editor}
use Rattle.editor.specs.Promises.{history, begin_refusal, BeginEnds, write_refusal, file_of, WriteEnds, lengths, ReadEnds}
use Rattle.editor.specs.Runs.{Lent, Desk, Begins, Takes, Writes, Reads, Comes, begins, takes, reopens}
use Rattle.editor.specs.Theorems.{Ready}
use Rattle.editor.specs.Main.{LentFits, DeskFits, Made, Meets, EnoughLent, Sized, joined, goes, SameSeen, saved, KeptInFiles, MainPromise}
use Rattle.editor.proofs.Coming.{Good, HistoryGood, Stands, comes_stand, file_is, written_of, length-latest, length-edits, length-in_order, all_in_order, shows_the_page}
use Rattle.editor.proofs.Filing.{write_free}
use Rattle.editor.proofs.Theorems.{carried_out, still_ready}

-- turns that fit, one after the other
pub fit_first : (t : Turn) (ts : List Turn) → AllFit built (t ∷ ts) → TurnFits t × TurnBuilt t × AllFit built ts
fit_first (does e) ts f = f
fit_first undo ts f = (tt, tt, f)
fit_first redo ts f = (tt, tt, f)

pub fit_parts : (ts us : List Turn) → AllFit built (ts ++ us) → AllFit built ts × AllFit built us
fit_parts [] us f = (tt, f)
fit_parts (does e ∷ ts) us f = let g = fit_parts ts us f.2 in ((f.0, f.1, g.0), g.1)
fit_parts (undo ∷ ts) us f = fit_parts ts us f
fit_parts (redo ∷ ts) us f = fit_parts ts us f

-- where nothing is refused
pub begin_free : (w h n : ℕ) (m : Lent) → Sized w h → EnoughLent w h n m → begin_refusal w h (length m.tiles) (length m.work) ≡ None
begin_free w h n m size en = grind (arith, nat_tests, size.some_wide, size.most_wide, size.some_high, size.most_high, en.for_tiles, en.for_work)

begin_made : (w h : ℕ) (turns tiles work turns' tiles' work' : List ℕ) (r : Result Editor Refusal) → BeginEnds None w h turns tiles work turns' tiles' work' r →
    ((s : Editor) × (r ≡ Ok s)) × (turns' ≡ turns) × (length work' ≡ length work)
begin_made w h turns tiles work turns' tiles' work' (Ok s) e = ((s, refl), e.0, e.2)
begin_made w h turns tiles work turns' tiles' work' (Err f) e = absurd e

write_made : (s : Editor) (turns file file' : List ℕ) (r : Result ℕ Refusal) → WriteEnds None s turns file file' r → (n : ℕ) × (r ≡ Ok n)
write_made s turns file file' (Ok n) e = (n, refl)
write_made s turns file file' (Err f) e = absurd e

read_made : (bs : List ℕ) (x : Result File Refusal) (P : File → Type 0) (turns tiles work turns' tiles' work' : List ℕ) (r : Result Editor Refusal) → MatchResult x P (λ f. ⊥) →
    ReadEnds bs x turns tiles work turns' tiles' work' r → ((s : Editor) × (r ≡ Ok s)) × (length turns' ≡ length turns) × (length work' ≡ length work)
read_made bs (Ok f) P turns tiles work turns' tiles' work' (Ok s) c e = ((s, refl), e.0, e.2)
read_made bs (Ok f) P turns tiles work turns' tiles' work' (Err g) c e = absurd e
read_made bs (Err f) P turns tiles work turns' tiles' work' r c e = absurd c

made_ok : (m : Lent) (s : Editor) (d : Desk) (r : Result Editor Refusal) → Made m s d → r ≡ Ok s → r ≡ Ok d.editor
made_ok m s d r made e = e ∙ ap (λ (x : Editor). let y : Result Editor Refusal = Ok x in y) (sym made.editor_is)

-- a desk's own file is read, where enough is lent for its edits
all_built : (es : List Edit) → All Good es → All Built es
all_built es a = λ k d l. (a k d l).1

file_reads : (w h : ℕ) (ts : List Turn) (d : Desk) (bs : List ℕ) (m : Lent) → Stands w h ts d → bs ≡ file_of d.editor d.turns → EnoughLent w h (length ts) m → length ts ≤ 65536 →
    (P : File → Type 0) × MatchResult (read_file bs (lengths m.turns m.tiles m.work)) P (λ f. ⊥)
file_reads w h ts d bs m so is en few =
    let s = d.editor in let b = history s d.turns in
    let good : HistoryGood b = subst HistoryGood (sym so.history_is) so.good in
    let file : IsFile bs w h (in_order b.done []) b.undone
    = subst (λ (l : List ℕ). IsFile l w h (in_order b.done []) b.undone) (sym is) (file_is w h s d.turns so.wide_is so.high_is good) in
    let count : length (in_order b.done []) + length b.undone ≤ length ts
    = omega (arith, length-in_order b.done [], length-latest d.turns s.timeline.done, length-edits d.turns s.timeline.done s.timeline.undone, s.counted, so.few) in
    let room : Enough (lengths m.turns m.tiles m.work) w h (length (in_order b.done []) + length b.undone)
    = record { for_tiles = en.for_tiles; for_work = en.for_work; few = omega arith; for_turns = omega (arith, en.for_turns) } in (
      _,
      file_written_read bs (lengths m.turns m.tiles m.work) w h (in_order b.done []) b.undone file
          (all_in_order Built b.done [] (all_built _ good.0) (All-nil Built)) (all_built _ good.1) room,
    )

module _ (start : ℕ → ℕ → Lent → Desk) (happens : Desk → Turn → Desk) (shows : Desk → ℕ → ℕ → Pixel) (writes : Desk → List ℕ) (reads : Lent → List ℕ → Desk) (meets : Meets start happens shows writes reads) where
  abbrev after_turns : Desk → List Turn → Desk
  after_turns = goes start happens shows writes reads

  abbrev after_files : Lent → Desk → List (List Turn) → Desk
  after_files = saved start happens shows writes reads

  module _ (w h all : ℕ) (m : Lent) (size : Sized w h) (fit : LentFits m) (en : EnoughLent w h all m) (few : all ≤ 65536) where
    -- a desk in the course of things, with n turns to come
    record Going (ts : List Turn) (n : ℕ) (d : Desk) : Type 0 where
      comes : Comes w h ts d
      ready : Ready n d
      total : length ts + n ≡ all
      same_file : d.file ≡ m.file
      fits : DeskFits d

    begun : Going [] all (start w h m)
    begun =
        let met = meets.begin_meets w h m fit in
        let d = start w h m in
        let ends = subst (λ (o : Option Refusal). BeginEnds o w h m.turns m.tiles m.work d.turns d.tiles d.work met.0) (begin_free w h all m size en) met.1 in
        let b = begin_made w h m.turns m.tiles m.work d.turns d.tiles d.work met.0 ends in
        let made = met.2 b.0.0 b.0.1 in
        let is = made_ok m b.0.0 d met.0 made b.0.1 in
        let comes : Comes w h [] d = begins m d (subst (Begins w h m d) is met.1) in
        record {
          comes = comes;
          ready = still_ready w h all [] d comes (omega arith) (omega (arith, en.for_turns, ap length b.1)) (omega (arith, en.for_work, b.2));
          total = omega arith;
          same_file = made.same_file;
          fits = made.fits;
        }

    turn_on : (ts : List Turn) (n : ℕ) (t : Turn) (d : Desk) → TurnFits t → TurnBuilt t → Going ts (n + 1) d → Going (ts ++ t ∷ []) n (happens d t)
    turn_on ts n t d f b g =
        let met = meets.turn_meets d t g.fits f in
        let did = carried_out n t d (happens d t) met.0 f b g.ready met.1 in
        record {
          comes = takes ts t d (happens d t) g.comes f b (subst (Takes d (written_turn t) (happens d t)) did.0 met.1);
          ready = did.1;
          total = omega (arith, g.total, length-append ts (t ∷ []));
          same_file = met.2 ∙ g.same_file;
          fits = met.3;
        }

    turns_on : (ts us : List Turn) (n : ℕ) (d : Desk) → AllFit built us → Going ts (length us + n) d → Going (ts ++ us) n (after_turns d us)
    turns_on ts [] n d f g = subst (λ (l : List Turn). Going l n d) (sym (append-nil ts)) (subst (λ (k : ℕ). Going ts k d) (omega arith) g)
    turns_on ts (t ∷ us) n d f g =
        let x = fit_first t us f in
        subst (λ (l : List Turn). Going l n (after_turns (happens d t) us)) (append_assoc ts (t ∷ []) us)
        (turns_on (ts ++ t ∷ []) us n (happens d t) x.2 (turn_on ts (length us + n) t d x.0 x.1 (subst (λ (k : ℕ). Going ts k d) (omega arith) g)))

    file_on : (ts : List Turn) (n : ℕ) (d : Desk) → Going ts n d → Going ts n (reads m (writes d))
    file_on ts n d g =
        let s = d.editor in let so = comes_stand w h ts d g.comes in
        let out = meets.write_meets d g.fits in
        let free : write_refusal s (length d.turns) (length d.file) ≡ None
        = write_free s (length d.turns) (length d.file) (omega (arith, s.counted, g.ready.for_turns)) (omega (arith, s.counted, so.few, g.total, en.for_file, ap length g.same_file)) in
        let ends = subst (λ (o : Option Refusal). WriteEnds o s d.turns d.file out.1.0 out.0) free out.1.1 in
        let wrote = write_made s d.turns d.file out.1.0 out.0 ends in
        let k = wrote.0 in let file = out.1.0 in
        let written : Writes d d.file file (Ok k) = subst (Writes d d.file file) wrote.1 out.1.1 in
        let gives = out.1.2 k wrote.1 in
        let bs = writes d in
        let is : bs ≡ file_of s d.turns = gives.0 ∙ written_of _ s d.turns d.file file k written in
        let back = meets.read_meets m bs fit gives.1 in
        let d' = reads m bs in
        let en' : EnoughLent w h (length ts) m
        = record { for_turns = omega (arith, en.for_turns, g.total); for_tiles = en.for_tiles; for_work = en.for_work; for_file = omega (arith, en.for_file, g.total) } in
        let can = file_reads w h ts d bs m so is en' (omega (arith, g.total)) in
        let r = read_made bs (read_file bs (lengths m.turns m.tiles m.work)) can.0 m.turns m.tiles m.work d'.turns d'.tiles d'.work back.0 can.1 back.1 in
        let made = back.2 r.0.0 r.0.1 in
        let ok = made_ok m r.0.0 d' back.0 made r.0.1 in
        let comes : Comes w h ts d'
        = reopens ts d d' d.file file k m g.comes written (subst (λ (l : List ℕ). Reads l m d' (Ok d'.editor)) gives.0 (subst (Reads bs m d') ok back.1)) in
        record {
          comes = comes;
          ready = still_ready w h n ts d' comes (omega (arith, g.total)) (omega (arith, en.for_turns, g.total, r.1)) (omega (arith, en.for_work, r.2));
          total = g.total;
          same_file = made.same_file;
          fits = made.fits;
        }

    files_on : (ts : List Turn) (tss : List (List Turn)) (n : ℕ) (d : Desk) → AllFit built (joined tss) → Going ts (length (joined tss) + n) d → Going (ts ++ joined tss) n (after_files m d tss)
    files_on ts [] n d f g = subst (λ (l : List Turn). Going l n d) (sym (append-nil ts)) (subst (λ (k : ℕ). Going ts k d) (omega arith) g)
    files_on ts (us ∷ tss) n d f g =
        let x = fit_parts us (joined tss) f in
        let many : length (us ++ joined tss) + n ≡ length us + (length (joined tss) + n) = omega (arith, length-append us (joined tss)) in
        let next = turns_on ts us (length (joined tss) + n) d x.0 (subst (λ (k : ℕ). Going ts k d) many g) in
        subst (λ (l : List Turn). Going l n (after_files m d (us ∷ tss))) (append_assoc ts us (joined tss))
        (files_on (ts ++ us) tss n (reads m (writes (after_turns d us))) x.1 (file_on (ts ++ us) (length (joined tss) + n) (after_turns d us) next))

    going_shows : (i j n : ℕ) (ts : List Turn) (d : Desk) → Going ts n d → i < w → j < h → shows d i j ≡ seen (page w h ts) i j
    going_shows i j n ts d g iw jh = meets.show_meets d i j _ g.fits (shows_the_page w h i j ts d g.comes iw jh)

  same_seen : SameSeen start happens shows writes reads
  same_seen w h i j m ts size fit en f few iw jh =
      going_shows w h (length ts) m size fit en few i j 0 ts _
      (turns_on w h (length ts) m size fit en few [] ts 0 _ f (subst (λ (k : ℕ). Going w h (length ts) m size fit en few [] k (start w h m)) (omega arith) (begun w h (length ts) m size fit en few))) iw jh

  kept_in_files : KeptInFiles start happens shows writes reads
  kept_in_files w h i j m tss us size fit en f g few iw jh =
      let all = length (joined tss) + length us in
      let first = files_on w h all m size fit en few [] tss (length us) _ f (begun w h all m size fit en few) in
      let next = turns_on w h all m size fit en few (joined tss) us 0 _ g (subst (λ (k : ℕ). Going w h all m size fit en few (joined tss) k (after_files m (start w h m) tss)) (omega arith) first) in
      going_shows w h all m size fit en few i j 0 (joined tss ++ us) _ next iw jh

pub main_promise : MainPromise
main_promise start happens shows writes reads meets = (same_seen start happens shows writes reads meets, kept_in_files start happens shows writes reads meets)
