-- The editor's file: what is written is its bytes, and what is read is its history. Assumes nothing.
use Rattle.std.proofs.Common.{◌≡◌, ℕ, ◌+◌, ◌*◌, ◌≤◌, List, [], ◌++◌, length, take, drop, None, Ok, Option, Result, sym, refl, ap, ◌∙◌, subst, ap₂, arith, length-append}
use Rattle.std.proofs.lemmas.List.Elements as elements
use Rattle.std.proofs.lemmas.List.{take_at, drop_at}
use Rattle.page.specs.Edits.{Edit}
use Rattle.page.specs.Fits.{Fits}
use Rattle.page.specs.History.{in_order}
use Rattle.std.proofs.lemmas.Bool.Decides.{nat_tests}
use Rattle.codec.specs.declared.edits.Refusal.{Refusal}
use Rattle.codec.specs.declared.file.File.{File}
use Rattle.codec.specs.declared.file.Lengths.{Lengths}
use Rattle.codec.specs.Files.{all_written, file_head, Built, done_of, undone_of}
use Rattle.codec.specs.FileLaws.{FileTaken}
use Rattle.codec.specs.Put.{put_at}
use Rattle.codec.proofs.Writes.{put_put, all_append}
use Rattle.history.specs.Slots.{latest_in, edits_in, Holds, RowStands}
use Rattle.history.proofs.Histories.{edits_join, latest_row, row_latest, edits_long}
use Rattle.editor.specs.declared.state.Editor.{Editor}
use Rattle.editor.specs.Promises.{write_refusal, file_of, WriteEnds, Opened, ReadEnds}

-- two tests that pass
pub write_free : (s : Editor) (turns file : ℕ) → 8192 * (s.timeline.done + s.timeline.undone) ≤ turns → 16 + 8192 * (s.timeline.done + s.timeline.undone) ≤ file → write_refusal s turns file ≡ None
write_free s turns file lt lf = grind (arith, nat_tests)

-- the head and the edits of the slots are the file
pieces : (s : Editor) (turns : List ℕ) → file_head s.timeline.canvas.size.wide s.timeline.canvas.size.high s.timeline.done s.timeline.undone ++ all_written (edits_in turns 0 (s.timeline.done + s.timeline.undone)) ≡ file_of s turns
pieces s turns =
    let w = s.timeline.canvas.size.wide in
    let h = s.timeline.canvas.size.high in
    let d = edits_in turns 0 s.timeline.done in
    let u = edits_in turns s.timeline.done s.timeline.undone in
    let here : 0 + s.timeline.done ≡ s.timeline.done = omega arith in
    let rows : edits_in turns 0 (s.timeline.done + s.timeline.undone) ≡ d ++ u = edits_join turns 0 s.timeline.done s.timeline.undone ∙ ap (λ k. d ++ edits_in turns k s.timeline.undone) here in
    let row = latest_row turns s.timeline.done in
    let d_long : s.timeline.done ≡ length (in_order (latest_in turns s.timeline.done) []) = sym (edits_long turns 0 s.timeline.done) ∙ sym (ap length row) in
    let u_long : s.timeline.undone ≡ length u = sym (edits_long turns s.timeline.done s.timeline.undone) in
    ap₂ (λ m n. file_head w h m n ++ all_written (edits_in turns 0 (s.timeline.done + s.timeline.undone))) d_long u_long
    ∙ ap (λ es. file_head w h (length (in_order (latest_in turns s.timeline.done) [])) (length u) ++ es)
    (ap (λ es. all_written es) rows ∙ all_append d u ∙ ap (λ es. all_written es ++ all_written u) (sym row))

pub written_ends : (s : Editor) (turns file mid last : List ℕ) (start n : ℕ) → 8192 * (s.timeline.done + s.timeline.undone) ≤ length turns → 16 + 8192 * (s.timeline.done + s.timeline.undone) ≤ length file →
    mid ≡ put_at file 0 (file_head s.timeline.canvas.size.wide s.timeline.canvas.size.high s.timeline.done s.timeline.undone) → start ≡ 16 →
    last ≡ put_at mid start (all_written (edits_in turns 0 (s.timeline.done + s.timeline.undone))) → n ≡ start + length (all_written (edits_in turns 0 (s.timeline.done + s.timeline.undone))) →
    WriteEnds (write_refusal s (length turns) (length file)) s turns file last (Ok n)
written_ends s turns file mid last start n lt lf mid_is start_is last-is n-is =
    let head = file_head s.timeline.canvas.size.wide s.timeline.canvas.size.high s.timeline.done s.timeline.undone in
    let all = all_written (edits_in turns 0 (s.timeline.done + s.timeline.undone)) in
    let none : write_refusal s (length turns) (length file) ≡ None
    = write_free s (length turns) (length file) lt lf in
    let size : n ≡ length (head ++ all) = n-is ∙ ap (λ k. k + length all) start_is ∙ sym (length-append head all) in
    let put : last ≡ put_at file 0 (head ++ all)
    = last-is ∙ ap₂ (λ m k. put_at m k all) mid_is start_is ∙ put_put file 0 head all (omega arith) in
    let whole : last ≡ (head ++ all) ++ drop n file
    = put ∙ (let zero : 0 + length (head ++ all) ≡ n = omega (arith, size) in ap (λ k. (head ++ all) ++ drop k file) zero) in
    subst (λ (o : Option Refusal). WriteEnds o s turns file last (Ok n)) (sym none)
    (size ∙ ap length (pieces s turns), whole ∙ ap (λ l. l ++ drop n file) (pieces s turns))

-- a file that is taken stands from byte 16 on as its edits, one after the other
pub taken_row : (bs : List ℕ) (lent : Lengths) (f : File) → FileTaken bs lent f → RowStands bs 16 (done_of bs f ++ undone_of bs f)
taken_row bs lent f t =
    let d = done_of bs f in
    let u = undone_of bs f in
    let head = file_head f.width f.height (length d) (length u) in
    record {
      is = ap (drop 16) t.is_file.is ∙ drop_at head (all_written d ++ all_written u) 16 refl ∙ sym (all_append d u);
      fit = elements.All-append Fits d u t.is_file.fit.0 t.is_file.fit.1;
      are_built = elements.All-append Built d u t.is_built.0 t.is_built.1;
    }

pub taken_long : (bs : List ℕ) (lent : Lengths) (f : File) → FileTaken bs lent f → length (done_of bs f ++ undone_of bs f) ≡ f.done + f.undone
taken_long bs lent f t = length-append (done_of bs f) (undone_of bs f) ∙ ap₂ ◌+◌ t.counts.0 t.counts.1

-- the slots hold its done edits, and behind them the undone ones
module _ (turns : List ℕ) (d u : ℕ) (ds us : List Edit) (long : length ds ≡ d) (row : edits_in turns 0 (d + u) ≡ ds ++ us) where
  joined : edits_in turns 0 d ++ edits_in turns d u ≡ ds ++ us
  joined =
      let here : 0 + d ≡ d = omega arith in
      ap (λ k. edits_in turns 0 d ++ edits_in turns k u) (sym here) ∙ sym (edits_join turns 0 d u) ∙ row

  pub done_row : latest_in turns d ≡ in_order ds []
  done_row =
      row_latest turns d ∙ ap (λ es. in_order es [])
      (sym (take_at (edits_in turns 0 d) (edits_in turns d u) d (edits_long turns 0 d)) ∙ ap (take d) joined ∙ take_at ds us d long)

  pub undone_row : edits_in turns d u ≡ us
  undone_row = sym (drop_at (edits_in turns 0 d) (edits_in turns d u) d (edits_long turns 0 d)) ∙ ap (drop d) joined ∙ drop_at ds us d long

-- an editor of the file's size and counts, over those slots, with tiles that hold its page
pub opened : (bs : List ℕ) (lent : Lengths) (f : File) (s : Editor) (turns tiles : List ℕ) → FileTaken bs lent f → s.timeline.canvas.size.wide ≡ f.width → s.timeline.canvas.size.high ≡ f.height → s.taken ≡ f.done + f.undone →
    s.timeline.done ≡ f.done → s.timeline.undone ≡ f.undone → edits_in turns 0 (f.done + f.undone) ≡ done_of bs f ++ undone_of bs f → length tiles ≡ lent.tiles → Holds s.timeline.canvas (latest_in turns s.timeline.done) tiles → Opened bs f s turns tiles
opened bs lent f s turns tiles t w h n d u row long holds =
    record {
      wide_is = w;
      high_is = h;
      all_taken = n;
      done_is = ap (latest_in turns) d ∙ done_row turns f.done f.undone (done_of bs f) (undone_of bs f) t.counts.0 row;
      undone_is = ap₂ (edits_in turns) d u ∙ undone_row turns f.done f.undone (done_of bs f) (undone_of bs f) t.counts.0 row;
      sound = record { room = omega (arith, ap₂ ◌*◌ w h, long, t.enough.for_tiles); holds = holds };
    }

pub read_ends : (bs turns tiles work turns' tiles' work' : List ℕ) (f : File) (s : Editor) (r : Result File Refusal) → Ok f ≡ r → length turns' ≡ length turns → length tiles' ≡ length tiles → length work' ≡ length work →
    Opened bs f s turns' tiles' → ReadEnds bs r turns tiles work turns' tiles' work' (Ok s)
read_ends bs turns tiles work turns' tiles' work' f s r e lt ll lw o =
    subst (λ (q : Result File Refusal). ReadEnds bs q turns tiles work turns' tiles' work' (Ok s)) e (lt, ll, lw, o)
