-- Scripts line by line: where a line ends, and what comes of one line after the other. Assumes nothing.
use Rattle.std.proofs.Common.{◌≡◌, ℕ, suc, ◌+◌, ◌<◌, ◌≤◌, Bool, true, ◌&&◌, eqb, List, [], ◌∷◌, ◌++◌, length, take, drop, Some, None, Result, inl, inr, sym, refl, ap, ◌∙◌, subst, append_assoc, append-nil, arith, rules, Err, codes, decimal, false}
use Rattle.std.specs.List.{position, position_or_len}
use Rattle.std.proofs.Math.Bool.{and_assoc, and-true, and-false}
use Rattle.std.proofs.lemmas.Bool.{cases_Bool}
use Rattle.words.specs.declared.taking.Fault.{Fault}
use Rattle.words.specs.declared.taking.Fault.TheVariants.{Refused, NoMemory}
use Rattle.words.specs.declared.script.Trouble.{Trouble}
use Rattle.words.specs.declared.script.Trouble.TheVariants.{NotUnderstood, Fault as OfFault}
use Rattle.words.specs.Split.{ended}
use Rattle.words.specs.Lines.{Says, blank, turn, unknown, understood}
use Rattle.words.specs.Script.{lines_on, lines_of, trouble_text, LineTakes, LinePlays, Plays}
use Rattle.words.proofs.Splitting.{ended_some, one_more, placed, unplaced}

line_at : (w xs : List ℕ) → position_or_len (λ b. eqb b 10) xs < length xs →
    lines_on w xs ≡ (w ++ take (position_or_len (λ b. eqb b 10) xs) xs) ∷ lines_of (drop (suc (position_or_len (λ b. eqb b 10) xs)) xs)
line_at w [] h = absurd (omega arith)
line_at w (b ∷ bs) h =
    elim (cases_Bool (eqb b 10)) [
      | inl t ↦ rw t (rw (append-nil w) refl)
      | inr f ↦
          let less : position_or_len (λ b. eqb b 10) bs < length bs = omega (arith, rw (f, one_more) at h) in
          rw (f, one_more)
          (line_at (w ++ b ∷ []) bs less
          ∙ ap (λ v. v ∷ lines_of (drop (suc (position_or_len (λ b. eqb b 10) bs)) bs)) (append_assoc w (b ∷ []) (take (position_or_len (λ b. eqb b 10) bs) bs)))
    ]

line_rest : (w xs : List ℕ) → length xs ≤ position_or_len (λ b. eqb b 10) xs → lines_on w xs ≡ ended (w ++ xs) []
line_rest w [] h = rw (append-nil w) refl
line_rest w (b ∷ bs) h =
    elim (cases_Bool (eqb b 10)) [
      | inl t ↦ absurd (omega (arith, rw t at h))
      | inr f ↦
          let less : length bs ≤ position_or_len (λ b. eqb b 10) bs = omega (arith, rw (f, one_more) at h) in
          rw f (line_rest (w ++ b ∷ []) bs less ∙ ap (λ v. ended v []) (append_assoc w (b ∷ []) bs))
    ]

-- the first line, up to its line feed
pub line_off : (xs : List ℕ) (i : ℕ) → position (λ b. eqb b 10) xs ≡ Some i → (i < length xs) × (lines_of xs ≡ take i xs ∷ lines_of (drop (i + 1) xs))
line_off xs i h =
    let p = placed (position_or_len (λ b. eqb b 10) xs) (length xs) i h in
    let next : suc i ≡ i + 1 = omega arith in
    let whole = subst (λ (k : ℕ). (k < length xs) × (lines_of xs ≡ take k xs ∷ lines_of (drop (suc k) xs))) p.1 (p.0, line_at [] xs p.0) in
    (whole.0, whole.1 ∙ ap (λ k. take i xs ∷ lines_of (drop k xs)) next)

-- a last line that has none
pub line_last : (xs : List ℕ) → 0 < length xs → position (λ b. eqb b 10) xs ≡ None → lines_of xs ≡ xs ∷ []
line_last xs some h = line_rest [] xs (unplaced (position_or_len (λ b. eqb b 10) xs) (length xs) h) ∙ ended_some xs [] some

-- what is told of line n
abbrev pub told_of : ℕ → Trouble → List ℕ
told_of n why = codes "line " ++ (decimal n ++ (codes ": " ++ (trouble_text why ++ codes "\n")))

module _ {P : Type 0} (steps : P → List ℕ → Result (Unit {0}) Fault → P → Type 0) where
  -- what is still to be played gives all that is played
  abbrev pub Onward : ℕ → List (List ℕ) → P → List ℕ → Bool → List (List ℕ) → P → List ℕ → Type 0
  Onward n ls p old all ls₀ p₀ old₀ = (q : P) (new : List ℕ) (b : Bool) → Plays steps n ls p q old new b → Plays steps 1 ls₀ p₀ q old₀ new (all && b)

  pub trouble_plays : (n : ℕ) (why : Trouble) (says : Says) (p m : P) (old said : List ℕ) → LineTakes steps (Err why) says p m → (why ≡ OfFault NoMemory → ⊥) →
      said ≡ old ++ told_of n why → LinePlays steps n says p m old said false
  trouble_plays n NotUnderstood blank p m old said h some is = absurd (search rules)
  trouble_plays n NotUnderstood unknown p m old said h some is = (h.1, is, refl)
  trouble_plays n NotUnderstood (turn bs) p m old said h some is = absurd (search rules)
  trouble_plays n (OfFault NoMemory) says p m old said h some is = absurd (some refl)
  trouble_plays n (OfFault (Refused why)) blank p m old said h some is = absurd h
  trouble_plays n (OfFault (Refused why)) unknown p m old said h some is = absurd h
  trouble_plays n (OfFault (Refused why)) (turn bs) p m old said h some is = record { outcome = Err (Refused why); step = h; says = is; is = refl }

  module _ (ls₀ : List (List ℕ)) (p₀ : P) (old₀ : List ℕ) where
    pub onward_step :
        (n : ℕ) (ls rest : List (List ℕ)) (line : List ℕ) (p m : P) (old said : List ℕ) (all taken : Bool) → Onward n ls p old all ls₀ p₀ old₀ → ls ≡ line ∷ rest →
        LinePlays steps n (understood line) p m old said taken → Onward (n + 1) rest m said (all && taken) ls₀ p₀ old₀
    onward_step n ls rest line p m old said all taken so is plays q new b h =
        subst (Plays steps 1 ls₀ p₀ q old₀ new) (sym (and_assoc all taken b))
        (so q new (taken && b)
        (subst (λ (l : List (List ℕ)). Plays steps n l p q old new (taken && b)) (sym is)
        (record { mid = m; said = said; first_ok = taken; rest_ok = b; first = plays; rest = h; both = refl })))

    pub onward_end : (n : ℕ) (ls : List (List ℕ)) (p : P) (old : List ℕ) (all : Bool) → Onward n ls p old all ls₀ p₀ old₀ → ls ≡ [] → Plays steps 1 ls₀ p₀ p old₀ old all
    onward_end n ls p old all so none =
        subst (Plays steps 1 ls₀ p₀ p old₀ old) (and-true all) (so p old true (subst (λ (l : List (List ℕ)). Plays steps n l p p old old true) (sym none) (refl, refl, refl)))

    -- a line of trouble that is told
    pub onward_trouble :
        (n : ℕ) (ls rest : List (List ℕ)) (line : List ℕ) (p m : P) (old said : List ℕ) (all : Bool) (why : Trouble) → Onward n ls p old all ls₀ p₀ old₀ → ls ≡ line ∷ rest →
        LineTakes steps (Err why) (understood line) p m → (why ≡ OfFault NoMemory → ⊥) → said ≡ old ++ told_of n why → Onward (n + 1) rest m said false ls₀ p₀ old₀
    onward_trouble n ls rest line p m old said all why so is h some says =
        subst (λ (b : Bool). Onward (n + 1) rest m said b ls₀ p₀ old₀) (and-false all)
        (onward_step n ls rest line p m old said all false so is (trouble_plays n why (understood line) p m old said h some says))
