-- The bytes of turns are those of no others, so that a script of turns is played. Assumes nothing.
use Rattle.std.proofs.Common.{◌≡◌, ℕ, ◌+◌, ◌-◌, ◌≤◌, false, ◌||◌, eqb, List, [], ◌∷◌, ◌++◌, length, get_or, take, drop, Some, None, Ok, Err, Option, Result, sym, refl, ap, ◌∙◌, subst, ap₂, inl, inr, append_assoc, arith, length-append, length-drop, take-append-drop}
use Rattle.std.specs.List.{between}
use Rattle.std.proofs.lemmas.List.{append-nil, take_at, drop_at}
use Rattle.std.proofs.lemmas.Result.{MatchResult-at_err}
use Rattle.std.proofs.lemmas.Bool.{cond-true, cond-false, ne_eqb}
use Rattle.pixel.specs.declared.Pixel.{Pixel}
use Rattle.page.specs.Edits.{Edit}
use Rattle.page.specs.Fits.{kind, AllFit}
use Rattle.page.specs.History.{Turn, does, undo, redo}
use Rattle.codec.specs.declared.edits.Refusal.{Refusal}
use Rattle.codec.specs.Kinds.{built}
use Rattle.codec.specs.Laws.{TurnFits, TurnBuilt}
use Rattle.codec.specs.Meaning.{turn_of}
use Rattle.codec.specs.Read.{read_turn}
use Rattle.codec.specs.Written.{written, written_turn}
use Rattle.codec.proofs.Complete.{written_read, byte_is}
use Rattle.codec.proofs.Means.{kind_first, kind_small, written_long, written_turn_read}
use Rattle.codec.proofs.Rows.{first_kind}
use Rattle.editor.specs.Promises.{against}
use Rattle.editor.specs.Runs.{Lent, Desk, Comes, begins, takes, reopens}
use Rattle.editor.specs.Theorems.{Ready}
use Rattle.editor.specs.Main.{EnoughLent}
use Rattle.editor.specs.Script.{all_turns, end_or_all, turn_end, desk, pixel_seen, Stopped, Long, ScriptPlayed}
use Rattle.editor.proofs.Theorems.{none_against, still_ready}
use Rattle.editor.proofs.Promised.{fit_first, fit_parts, begin_free}

-- the first byte of a turn
abbrev first_byte : Turn → ℕ
first_byte (does e) = kind e
first_byte undo = 17
first_byte redo = 18

begins_with : (t : Turn) (rest : List ℕ) → get_or (written_turn t ++ rest) 0 0 ≡ first_byte t
begins_with (does e) rest = kind_first e rest 0
begins_with undo rest = refl
begins_with redo rest = refl

turn_long : (t : Turn) → 1 ≤ length (written_turn t)
turn_long (does e) = written_long e
turn_long undo = omega arith
turn_long redo = omega arith

-- two turns whose bytes begin the same list are one
edit_same : (e f : Edit) (xs ys : List ℕ) → TurnFits (does e) → TurnFits (does f) → written e ++ xs ≡ written f ++ ys → e ≡ f
edit_same e f xs ys a b is =
    let bs = written e ++ xs in
    sym (written_read bs xs 0 e a refl).1 ∙ (written_read bs ys 0 f b is).1

turn_same : (t u : Turn) (xs ys : List ℕ) → TurnFits t → TurnFits u → written_turn t ++ xs ≡ written_turn u ++ ys → t ≡ u
turn_same t u xs ys a b is = by_first t u a b is (sym (begins_with t xs) ∙ (ap (λ l. get_or l 0 0) is ∙ begins_with u ys))
  where
    by_first : (t u : Turn) → TurnFits t → TurnFits u → written_turn t ++ xs ≡ written_turn u ++ ys → first_byte t ≡ first_byte u → t ≡ u
    by_first (does e) (does f) a b is k = ap does (edit_same e f xs ys a b is)
    by_first (does e) undo a b is k = absurd (omega (arith, kind_small e))
    by_first (does e) redo a b is k = absurd (omega (arith, kind_small e))
    by_first undo (does f) a b is k = absurd (omega (arith, kind_small f))
    by_first redo (does f) a b is k = absurd (omega (arith, kind_small f))
    by_first undo undo a b is k = refl
    by_first undo redo a b is k = absurd (omega arith)
    by_first redo undo a b is k = absurd (omega arith)
    by_first redo redo a b is k = refl

-- turns whose bytes begin with those of others begin with those
turns_begin : (us ts : List Turn) (rest : List ℕ) → AllFit built us → AllFit built ts → all_turns ts ≡ all_turns us ++ rest → (vs : List Turn) × (ts ≡ us ++ vs) × (rest ≡ all_turns vs)
turns_begin [] ts rest a b is = (ts, refl, sym is)
turns_begin (u ∷ us) [] rest a b is =
    absurd (omega (arith, ap length is, turn_long u, length-append (all_turns (u ∷ us)) rest, length-append (written_turn u) (all_turns us)))
turns_begin (u ∷ us) (t ∷ ts) rest a b is =
    let x = fit_first u us a in let y = fit_first t ts b in
    let all : written_turn t ++ all_turns ts ≡ written_turn u ++ (all_turns us ++ rest) = is ∙ append_assoc (written_turn u) (all_turns us) rest in
    let same : t ≡ u = turn_same t u (all_turns ts) (all_turns us ++ rest) y.0 x.0 all in
    let long = ap (λ s. length (written_turn s)) same in
    let behind : all_turns ts ≡ all_turns us ++ rest
    = sym (drop_at (written_turn t) (all_turns ts) (length (written_turn u)) long) ∙ (ap (drop (length (written_turn u))) all ∙ drop_at (written_turn u) (all_turns us ++ rest) (length (written_turn u)) refl) in
    let more = turns_begin us ts rest x.2 y.2 behind in
    (more.0, ap₂ (λ s ss. s ∷ ss) same more.1, more.2)

none_left : (vs : List Turn) → [] ≡ all_turns vs → vs ≡ []
none_left [] e = refl
none_left (v ∷ vs) e = absurd (omega (arith, ap length e, turn_long v, length-append (written_turn v) (all_turns vs)))

pub turns_same : (ts us : List Turn) → AllFit built ts → AllFit built us → all_turns ts ≡ all_turns us → us ≡ ts
turns_same ts us a b is =
    let x = turns_begin us ts [] b a (is ∙ sym (append-nil (all_turns us))) in
    sym (x.1 ∙ (ap (λ vs. us ++ vs) (none_left x.0 x.2) ∙ append-nil us))

-- where a turn stands, its end is found
end_found : (bs rest : List ℕ) (at : ℕ) (t : Turn) → TurnFits t → drop at bs ≡ written_turn t ++ rest → turn_end bs at ≡ at + length (written_turn t)
end_found bs rest at (does e) f d =
    let k = first_kind bs at e rest d in let small = kind_small e in
    let test : (eqb (get_or bs at 0) 17 || eqb (get_or bs at 0) 18) ≡ false = rw (ne_eqb (get_or bs at 0) 17 (λ z. omega arith), ne_eqb (get_or bs at 0) 18 (λ z. omega arith)) refl in
    cond-false _ _ _ test ∙ ap (end_or_all bs) (written_read bs rest at e f d).0
end_found bs rest at undo f d = cond-true _ _ _ (ap (λ k. eqb k 17 || eqb k 18) (byte_is bs at 17 rest d))
end_found bs rest at redo f d = cond-true _ _ _ (ap (λ k. eqb k 17 || eqb k 18) (byte_is bs at 18 rest d))

-- the turns of a desk that came about fit
fit_push : (ts : List Turn) (t : Turn) → AllFit built ts → TurnFits t → TurnBuilt t → AllFit built (ts ++ t ∷ [])
fit_push [] (does e) a f b = (f, b, tt)
fit_push [] undo a f b = tt
fit_push [] redo a f b = tt
fit_push (does e ∷ ts) t a f b = (a.0, a.1, fit_push ts t a.2 f b)
fit_push (undo ∷ ts) t a f b = fit_push ts t a f b
fit_push (redo ∷ ts) t a f b = fit_push ts t a f b

comes_fit : (w h : ℕ) (ts : List Turn) (d : Desk) → Comes w h ts d → AllFit built ts
comes_fit w h _ _ (begins m d e) = tt
comes_fit w h _ _ (takes ts t d d' c f b e) = fit_push ts t (comes_fit w h ts d c) f b
comes_fit w h _ _ (reopens ts d d' file file' n m c u e) = comes_fit w h ts d c

-- a turn of the script is not refused
module _ (w h : ℕ) (ts : List Turn) (m : Lent) (turns tiles work : List ℕ) (en : EnoughLent w h (length ts) m) (few : length ts ≤ 65536) (fit : AllFit built ts) (long : Long m.turns m.tiles m.work turns tiles work) where
  next_taken : (at : ℕ) (us : List Turn) (v : Turn) (vs : List Turn) (d : Desk) (f : Refusal) → length d.turns ≡ length turns → length d.work ≡ length work → Comes w h us d → ts ≡ us ++ v ∷ vs →
      drop at (all_turns ts) ≡ all_turns (v ∷ vs) → read_turn (between at (turn_end (all_turns ts) at) (all_turns ts)) (against d.editor (length d.turns) (length d.tiles) (length d.work)) ≡ Err f → ⊥
  next_taken at us v vs d f turns-is work_is c is stands refused =
      let script = all_turns ts in let size = length (written_turn v) in
      let fits = fit_first v vs (fit_parts us (v ∷ vs) (subst (AllFit built) is fit)).1 in
      let count : length ts ≡ length us + length (v ∷ vs) = ap length is ∙ length-append us (v ∷ vs) in
      let ready : Ready 1 d = still_ready w h 1 us d c (omega arith) (omega (arith, en.for_turns, long.turns_long)) (omega (arith, en.for_work, long.work_long)) in
      let ends : turn_end script at ≡ at + size = end_found script (all_turns vs) at v fits.0 stands in
      let bytes : between at (turn_end script at) script ≡ written_turn v
      = ap (λ n. take (n - at) (drop at script)) ends ∙ (ap₂ take (omega arith) stands ∙ take_at (written_turn v) (all_turns vs) size refl) in
      let read : read_turn (written_turn v) None ≡ Err f = sym (ap₂ read_turn bytes (none_against 0 d ready)) ∙ refused in
      MatchResult-at_err (λ s. turn_of (written_turn v) s ≡ v) (λ g. ⊥) f read (written_turn_read v fits.0 fits.1)

  none_stopped : (f : Refusal) → Stopped w h (all_turns ts) f turns tiles work → ⊥
  none_stopped f st =
      let script = all_turns ts in let at = st.at in let us = st.before in
      let split : script ≡ all_turns us ++ drop at script = sym (take-append-drop at script) ∙ ap (λ l. l ++ drop at script) st.come.is in
      let x = turns_begin us ts (drop at script) (comes_fit w h us _ st.come.comes) fit split in
      by_rest x.0 x.1 x.2
    where
      by_rest : (vs : List Turn) → ts ≡ st.before ++ vs → drop st.at (all_turns ts) ≡ all_turns vs → ⊥
      by_rest [] is stands = omega (arith, st.some, ap length stands, length-drop st.at (all_turns ts))
      by_rest (v ∷ vs) is stands = next_taken st.at st.before v vs (desk st.editor turns tiles work) f refl refl st.come.comes is stands st.refused

pub script_played : ScriptPlayed
script_played w h x y ts m turns tiles work (Ok o) size en few fit (long, p) =
    ap (λ (q : Option Pixel). let r : Result (Option Pixel) Refusal = Ok q in r)
    (p.shows ∙ ap (λ us. pixel_seen w h us x y) (turns_same ts p.all fit (comes_fit w h p.all _ p.comes) p.is))
script_played w h x y ts m turns tiles work (Err f) size en few fit (inl n) =
    let z : Some f ≡ None = sym n.refused ∙ begin_free w h (length ts) m size en in let y : ◌≡◌ {A = ℕ} 0 1 = cc in absurd (omega arith)
script_played w h x y ts m turns tiles work (Err f) size en few fit (inr s) = absurd (none_stopped w h ts m turns tiles work en few fit s.0 f s.1)
