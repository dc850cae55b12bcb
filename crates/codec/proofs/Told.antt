-- Which refusals the scan gives, and where.
use Rattle.std.proofs.Common.{◌≡◌, ℕ, zero, suc, ◌+◌, ◌*◌, ◌≤◌, eqb, ltb, leb, ◌⊎◌, List, length, get_or, IfErr, None, Ok, Err, Option, Result, refl, inl, inr, arith}
use Rattle.std.proofs.lemmas.Bool.{ltb-true, leb-true, eqb-true, cond_both}
use Rattle.codec.specs.declared.edits.Turn.{Turn}
use Rattle.codec.specs.declared.edits.Turn.TheVariants.{Does, Undo, Redo}
use Rattle.codec.specs.declared.edits.Refusal.{Refusal}
use Rattle.codec.specs.declared.edits.Refusal.TheVariants.{Ends, GoesOn, NotPage, NoKind, NoFilter, ManyPoints, WideBlur, NoFlag, NoSize, TooMany, Short}
use Rattle.codec.specs.declared.file.File.{File}
use Rattle.codec.specs.declared.file.Lengths.{Lengths}
use Rattle.codec.specs.Kinds.{built}
use Rattle.codec.specs.Meaning.{two_at}
use Rattle.codec.specs.Refusals.{number, place}
use Rattle.codec.specs.Scan.{End, need, heads, body_end, stroke_end, filter_end, end_of, edit_at}
use Rattle.codec.specs.Read.{unless, taken_end, whole_turn, whole_edit}
use Rattle.codec.specs.Laws.{TurnAnswered}
use Rattle.codec.specs.Files.{against_edit, on_ok, edits_end, four_at, letter, sized, head_end, body_from, whole_file}
use Rattle.codec.specs.FileLaws.{FileAnswered}

module _ (bs : List ℕ) where
  abbrev Told : Refusal → Type 0
  Told f = ((number f ≡ 1) ⊎ (number f ≡ 3)) × (place f ≤ length bs)

  abbrev EndTold : End → Type 0
  EndTold x = IfErr x Told

  need_told : (at n : ℕ) (e : End) → (at + n ≤ length bs → EndTold e) → EndTold (need bs at n e)
  need_told at n e more =
      cond_both (leb (at + n) (length bs)) _ _ EndTold (λ h. more (leb-true (at + n) (length bs) h)) (λ h. (inl refl, omega arith))

  stroke_told : (at : ℕ) → at + 8 ≤ length bs → EndTold (stroke_end bs at)
  stroke_told at room =
      cond_both (ltb 1024 (two_at bs (at + 6))) _ _ EndTold (λ h. (inr refl, omega arith)) (λ h. need_told at (8 + 4 * two_at bs (at + 6)) _ (λ r. tt))

  filter_told : (at : ℕ) → at + 2 ≤ length bs → EndTold (filter_end bs at)
  filter_told at room =
      let f = get_or bs (at + 1) 0 in
      cond_both (ltb 3 f) _ _ EndTold (λ h. (inr refl, omega arith))
      (λ h. cond_both (eqb f 1) _ _ EndTold (λ g. need_told at 258 _ (λ r. tt))
      (λ g. cond_both (eqb f 2) _ _ EndTold
      (λ i. need_told at 3 _ (λ r. cond_both (ltb 64 (get_or bs (at + 2) 0)) _ _ EndTold (λ j. (inr refl, omega arith)) (λ j. tt))) (λ i. tt)))

  body_told : (at k : ℕ) → at + get_or heads k 0 ≤ length bs → EndTold (body_end bs at k)
  body_told at k room =
      cond_both (eqb k 6) _ _ EndTold
      (λ h. let r : at + 2 ≤ length bs = rw (eqb-true k 6 h) at room in cond_both (ltb 1 (get_or bs (at + 1) 0)) _ _ EndTold (λ g. (inr refl, omega arith)) (λ g. tt))
      (λ h. cond_both (eqb k 13) _ _ EndTold (λ g. stroke_told at (rw (eqb-true k 13 g) at room))
      (λ g. cond_both (eqb k 14) _ _ EndTold (λ i. filter_told at (rw (eqb-true k 14 i) at room)) (λ i. tt)))

  end_told : (at : ℕ) → EndTold (end_of bs at)
  end_told at =
      need_told at 1 _ (λ r. cond_both (ltb 16 (get_or bs at 0)) _ _ EndTold (λ h. (inr refl, omega arith))
      (λ h. need_told at (get_or heads (get_or bs at 0) 0) _ (λ s. body_told at (get_or bs at 0) s)))

  abbrev TurnTold : Result Turn Refusal → Type 0
  TurnTold x = IfErr x Told

  whole_told : (t : Turn) (n : ℕ) → TurnTold (whole_turn bs t n)
  whole_told t n = cond_both (ltb n (length bs)) _ _ TurnTold (λ h. (inl refl, omega (arith, ltb-true n (length bs) h))) (λ h. tt)

  edit_told : (x : End) → EndTold x → TurnTold (whole_edit bs x)
  edit_told (Ok n) h = whole_told (Does (edit_at bs 0)) n
  edit_told (Err f) h = h

pub turn_answered : TurnAnswered
turn_answered bs =
    let k = get_or bs 0 0 in
    cond_both (eqb k 17) _ _ (TurnTold bs) (λ h. whole_told bs Undo 1)
    (λ h. cond_both (eqb k 18) _ _ (TurnTold bs) (λ g. whole_told bs Redo 1)
    (λ g. edit_told bs (taken_end bs 0 None)
    (need_told bs 0 1 _ (λ r. cond_both (built k) _ _ (EndTold bs) (λ b. end_told bs 0) (λ b. (inr refl, omega arith))))))

-- and that of a file
number_range : (f : Refusal) → (1 ≤ number f) × (number f ≤ 5)
number_range (Ends p) = (omega arith, omega arith)
number_range (GoesOn p) = (omega arith, omega arith)
number_range NotPage = (omega arith, omega arith)
number_range (NoKind p) = (omega arith, omega arith)
number_range (NoFilter p) = (omega arith, omega arith)
number_range (ManyPoints p) = (omega arith, omega arith)
number_range (WideBlur p) = (omega arith, omega arith)
number_range (NoFlag p) = (omega arith, omega arith)
number_range (NoSize p) = (omega arith, omega arith)
number_range (TooMany p) = (omega arith, omega arith)
number_range (Short l) = (omega arith, omega arith)

module _ (bs : List ℕ) where
  abbrev InBytes : Refusal → Type 0
  InBytes f = number f ≤ 4 → place f ≤ length bs

  abbrev EndIn : End → Type 0
  EndIn x = IfErr x InBytes

  need_in : (at n : ℕ) (e : End) → (at + n ≤ length bs → EndIn e) → EndIn (need bs at n e)
  need_in at n e more = cond_both (leb (at + n) (length bs)) _ _ EndIn (λ h. more (leb-true (at + n) (length bs) h)) (λ h few. omega arith)

  end_in : (x : End) → EndTold bs x → EndIn x
  end_in (Ok n) h = tt
  end_in (Err f) h = λ few. h.1

  taken_in : (turns k at : ℕ) → EndIn (taken_end bs at (against_edit turns k at))
  taken_in turns k at =
      let P : Option Refusal → Type 0 = λ o. EndIn (unless o (end_of bs at)) in
      need_in at 1 _ (λ r. cond_both (built (get_or bs at 0)) _ _ EndIn
      (λ b. cond_both (leb 65536 k) _ _ P (λ h few. omega arith)
      (λ h. cond_both (ltb turns (8192 * (k + 1))) _ _ P (λ g few. absurd (omega arith)) (λ g. end_in (end_of bs at) (end_told bs at))))
      (λ b few. omega arith))

  on_in : (x : End) (g : ℕ → End) → EndIn x → ((n : ℕ) → EndIn (g n)) → EndIn (on_ok x g)
  on_in (Ok n) g h more = more n
  on_in (Err f) g h more = h

  edits_in : (turns c k at : ℕ) → EndIn (edits_end bs turns k c at)
  edits_in turns zero k at = tt
  edits_in turns (suc c) k at = on_in (taken_end bs at (against_edit turns k at)) (edits_end bs turns (k + 1) c) (taken_in turns k at) (λ n. edits_in turns c (k + 1) n)

  letter_in : (i b : ℕ) (e : End) → EndIn e → EndIn (letter bs i b e)
  letter_in i b e h = need_in 0 (suc i) _ (λ r. cond_both (eqb (get_or bs i 0) b) _ _ EndIn (λ t. h) (λ t few. omega arith))

  sized_in : (i : ℕ) (e : End) → EndIn e → EndIn (sized bs i e)
  sized_in i e h =
      need_in 0 (suc (suc i)) _
      (λ r. let P : Option Refusal → Type 0 = λ o. EndIn (unless o e) in
      cond_both (leb 1 (two_at bs i)) _ _ P (λ t. cond_both (leb (two_at bs i) 4096) _ _ P (λ u. h) (λ u few. omega arith)) (λ t few. omega arith))

  head_in : (lent : Lengths) → EndIn (head_end bs lent)
  head_in lent =
      let w = two_at bs 4 in let h = two_at bs 6 in
      let P : Option Refusal → Type 0 = λ o. EndIn (unless o (need bs 0 16 (Ok 16))) in
      letter_in 0 80 _ (letter_in 1 65 _ (letter_in 2 71 _ (letter_in 3 69 _ (sized_in 4 _ (sized_in 6 _
      (cond_both (ltb lent.tiles (544 * (w * h))) _ _ P (λ t few. absurd (omega arith))
      (λ t. cond_both (ltb lent.work (w * h)) _ _ P (λ u few. absurd (omega arith)) (λ u. need_in 0 16 _ (λ r. tt)))))))))

  whole_in : (x : End) → EndIn x → IfErr (whole_file bs x) (λ f. (1 ≤ number f) × (number f ≤ 5) × (number f ≤ 4 → place f ≤ length bs))
  whole_in (Err f) h = ((number_range f).0, (number_range f).1, h)
  whole_in (Ok n) h =
      let P : Result File Refusal → Type 0 = λ r. IfErr r (λ f. (1 ≤ number f) × (number f ≤ 5) × (number f ≤ 4 → place f ≤ length bs)) in
      cond_both (ltb n (length bs)) _ _ P (λ t. (omega arith, omega arith, λ few. omega (arith, ltb-true n (length bs) t))) (λ t. tt)

pub file_answered : FileAnswered
file_answered bs lent =
    whole_in bs _ (on_in bs (head_end bs lent) (body_from bs lent.turns) (head_in bs lent)
    (λ n. on_in bs (edits_end bs lent.turns 0 (four_at bs 8) n) (edits_end bs lent.turns (four_at bs 8) (four_at bs 12))
    (edits_in bs lent.turns (four_at bs 8) 0 n) (edits_in bs lent.turns (four_at bs 12) (four_at bs 8))))
