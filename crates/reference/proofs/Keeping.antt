-- What an engine writes is opened as the same page. Assumes nothing.
use Rattle.std.proofs.Common.{◌≡◌, ℕ, ◌+◌, List, [], ◌++◌, length, take, drop, Ok, Err, vec_items, vec_len, Result, sym, refl, ap, ◌∙◌, subst, ap₂, arith, length-drop, MatchResult}
use Rattle.std.specs.List.{All}
use Rattle.std.proofs.lemmas.List.Elements.{All-map, All-take, All-drop, All-weaker}
use Rattle.std.proofs.lemmas.List.{length-map, length-take-le}
use Rattle.page.specs.Edits as page
use Rattle.page.specs.History.{in_order}
use Rattle.page.specs.Fits.{Fits}
use Rattle.codec.specs.declared.edits.Edit.{Edit}
use Rattle.codec.specs.declared.edits.Refusal.{Refusal}
use Rattle.codec.specs.declared.file.File.{File}
use Rattle.codec.specs.declared.file.Lengths.{Lengths}
use Rattle.codec.specs.Meaning.{edit_of}
use Rattle.codec.specs.Files.{IsFile, Built, Enough, done_of, undone_of, file_written, read_file}
use Rattle.codec.specs.Put.{file_of}
use Rattle.codec.proofs.Files.{file_written_read}
use Rattle.reference.specs.declared.state.Engine.{Engine}
use Rattle.words.specs.declared.taking.Fault.{Fault}
use Rattle.words.specs.declared.taking.Fault.TheVariants.{Refused, NoMemory}
use Rattle.reference.specs.Lists.{meanings, Good}
use Rattle.reference.specs.Turning.{history}
use Rattle.reference.specs.Filing.{OpenedBy, engine_file, Kept, KeptInFiles}
use Rattle.page.proofs.Undo.{done_in_order}
use Rattle.reference.proofs.Fitting.{known}
use Rattle.reference.proofs.Listing.{both}

module _ (s : Engine) where
  -- the done edits in their order, and the undone ones
  abbrev ds : List page.Edit
  ds = meanings (vec_items s.bytes) (take s.done (vec_items s.edits))

  abbrev us : List page.Edit
  us = meanings (vec_items s.bytes) (drop s.done (vec_items s.edits))

  in_turn : in_order (history s).done [] ≡ ds
  in_turn = done_in_order ds

  count : length ds + length us ≡ vec_len s.edits
  count =
      omega (
        arith,
        s.counted,
        s.edits.ok.0,
        length-map (take s.done (vec_items s.edits)) (edit_of (vec_items s.bytes)),
        length-map (drop s.done (vec_items s.edits)) (edit_of (vec_items s.bytes)),
        length-take-le s.done (vec_items s.edits) (omega (arith, s.counted, s.edits.ok.0)),
        length-drop s.done (vec_items s.edits),
      )

  each : (P : page.Edit → Type 0) → ((e : Edit) → Good (vec_items s.bytes) e → P (edit_of (vec_items s.bytes) e)) → All P ds × All P us
  each P so =
      let means = edit_of (vec_items s.bytes) in
      let all = All-weaker (Good (vec_items s.bytes)) (λ e. P (means e)) so (vec_items s.edits) s.good in
      (All-map P means _ (All-take (λ e. P (means e)) s.done (vec_items s.edits) all), All-map P means _ (All-drop (λ e. P (means e)) s.done (vec_items s.edits) all))

  -- what is put behind nothing is the file
  pub engine_pieces : (none bs : List ℕ) (es : List Edit) → none ≡ [] → bs ≡ vec_items s.bytes → es ≡ vec_items s.edits → none ++ file_of bs s.size.wide s.size.high es s.done ≡ engine_file s
  engine_pieces none bs es n b e = rw (n, b, e) (ap (λ l. file_written s.size.wide s.size.high l us) (sym in_turn))

  abbrev Read : File → Type 0
  Read f = (f.width ≡ s.size.wide) × (f.height ≡ s.size.high) × (done_of (engine_file s) f ≡ in_order (history s).done []) × (undone_of (engine_file s) f ≡ (history s).undone)

  is_file : IsFile (engine_file s) s.size.wide s.size.high (in_order (history s).done []) (history s).undone
  is_file =
      let fits = each Fits (λ e g. known (edit_of (vec_items s.bytes) e) g.2) in
      let long = ap length in_turn in
      record {
        wide = (s.size.sized.0, s.size.sized.1);
        high = (s.size.sized.2, s.size.sized.3);
        fit = (subst (All Fits) (sym in_turn) fits.0, fits.1);
        few = (omega (arith, long, count, s.counted), omega (arith, count, s.counted));
        is = refl;
      }

  read_back : (lent : Lengths) → Enough lent s.size.wide s.size.high (vec_len s.edits) → MatchResult (read_file (engine_file s) lent) Read (λ f. ⊥)
  read_back lent en =
      let built = each Built (λ e g. g.0) in
      file_written_read (engine_file s) lent s.size.wide s.size.high _ _ is_file (subst (All Built) (sym in_turn) built.0) built.1
      (subst (Enough lent s.size.wide s.size.high) (sym count ∙ ap (λ n. n + length us) (sym (ap length in_turn))) en)

  kept : (x : Result File Refusal) (r : Result Engine Fault) → MatchResult x Read (λ f. ⊥) → OpenedBy (engine_file s) x r → Kept s r
  kept (Err f) r none o = absurd none
  kept (Ok f) (Err (Refused g)) so o = o
  kept (Ok f) (Err NoMemory) so o = tt
  kept (Ok f) (Ok s') so o =
      record {
        same_wide = o.wide_is ∙ so.0;
        same_high = o.high_is ∙ so.1;
        same_history = ap₂ both (o.done_is ∙ (ap (λ es. in_order es []) so.2 ∙ done_in_order (history s).done)) (o.undone_is ∙ so.3);
      }

pub kept_in_files : KeptInFiles
kept_in_files s lent r en o = kept s (read_file (engine_file s) lent) r (read_back s lent en) o
