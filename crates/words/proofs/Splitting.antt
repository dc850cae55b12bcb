-- A line of words with spaces between is split into these words.
use Rattle.std.proofs.Common.{◌≡◌, ℕ, suc, ◌+◌, ◌<◌, ◌≤◌, Bool, true, false, not, List, [], ◌∷◌, ◌++◌, length, take, drop, inl, inr, sym, subst, ap₂, refl, ap, ◌∙◌, append_assoc, append-nil, arith, unwrap_or, Some, None, if◌then◌else◌, ltb, length-drop}
use Rattle.std.specs.List.{AllByRecursion, position, position_or_len}
use Rattle.std.proofs.lemmas.Bool.{cases_Bool, cases_lt, lt-ltb, le-ltb, cond-false}
use Rattle.std.proofs.lemmas.List.{length-take-le, nil_from_length}
use Rattle.std.proofs.lemmas.Bool.Decides.{nat_tests}
use Rattle.std.proofs.lemmas.List.Sums.{prefix_len-le-length}
use Rattle.words.specs.Split.{is_space, ends_run, run, ended, split, words_of, spaced}

abbrev pub Inside : ℕ → Type 0
Inside b = is_space b ≡ false

-- what a word is: not empty, and no space in it
pub record Word (w : List ℕ) : Type 0 where
  pub some : 0 < length w
  pub inside : AllByRecursion Inside w

-- bytes with no space lengthen the word
pub split_word : (p w rest : List ℕ) → AllByRecursion Inside w → split p (w ++ rest) ≡ split (p ++ w) rest
split_word p [] rest h = rw append-nil
split_word p (b ∷ bs) rest h =
    cond-false (is_space b) _ _ h.0 ∙ (split_word (p ++ b ∷ []) bs rest h.1 ∙ ap (λ q. split q rest) (append_assoc p (b ∷ []) bs))

pub split_spaced : (p : List ℕ) (ws : List (List ℕ)) → 0 < length p → AllByRecursion Word ws → split p (spaced ws) ≡ p ∷ ws
split_spaced [] ws h each = absurd (omega arith)
split_spaced (b ∷ bs) [] h each = refl
split_spaced (b ∷ bs) (w ∷ ws) h each =
    ap (λ vs. (b ∷ bs) ∷ vs) (split_word [] w (spaced ws) each.0.inside ∙ split_spaced w ws each.0.some each.1)

pub words_back : (w : List ℕ) (ws : List (List ℕ)) → Word w → AllByRecursion Word ws → words_of (w ++ spaced ws) ≡ w ∷ ws
words_back w ws h each = split_word [] w (spaced ws) h.inside ∙ split_spaced w ws h.some each

-- the first place at which a test passes, or the end
pub place_or_end : (p : ℕ → Bool) (xs : List ℕ) → unwrap_or (position p xs) (length xs) ≡ position_or_len p xs
place_or_end p xs =
    elim (cases_lt (position_or_len p xs) (length xs)) [
      | inl l ↦ rw (lt-ltb (position_or_len p xs) (length xs) l) refl
      | inr l ↦
          let all : position_or_len p xs ≡ length xs = omega (arith, prefix_len-le-length (λ b. not (p b)) xs, l) in
          rw (le-ltb (position_or_len p xs) (length xs) l) (sym all)
    ]

pub one_more : (n : ℕ) → 1 + n ≡ suc n
one_more n = omega arith

pub run_within : (spaces : Bool) (xs : List ℕ) → run spaces xs ≤ length xs
run_within spaces xs = prefix_len-le-length (λ b. not (ends_run spaces b)) xs

-- a word stands behind all the spaces at the front, if anything does
pub run_some : (xs : List ℕ) → 0 < length (drop (run true xs) xs) → 0 < run false (drop (run true xs) xs)
run_some [] h = absurd (omega (arith, h))
run_some (b ∷ bs) h =
    elim (cases_Bool (is_space b)) [
      | inl t ↦ rw (t, one_more) (run_some bs (rw (t, one_more) at h))
      | inr f ↦ rw (f, f) (omega arith)
    ]

-- spaces at the front are no word's
pub spaces_off : (xs : List ℕ) → words_of (drop (run true xs) xs) ≡ words_of xs
spaces_off [] = refl
spaces_off (b ∷ bs) =
    elim (cases_Bool (is_space b)) [
      | inl t ↦ rw (t, one_more) (spaces_off bs)
      | inr f ↦ rw f (rw f refl)
    ]

-- the bytes at the front that are no spaces lengthen the word, which ends then
pub word_off : (w xs : List ℕ) → split w xs ≡ ended (w ++ take (run false xs) xs) (words_of (drop (run false xs) xs))
word_off w [] = rw append-nil refl
word_off w (b ∷ bs) =
    elim (cases_Bool (is_space b)) [
      | inl t ↦ rw t (rw (t, append-nil w) refl)
      | inr f ↦ rw (f, one_more) (word_off (w ++ b ∷ []) bs ∙ ap (λ v. ended v (words_of (drop (run false bs) bs))) (append_assoc w (b ∷ []) (take (run false bs) bs)))
    ]

pub ended_some : (w : List ℕ) (ws : List (List ℕ)) → 0 < length w → ended w ws ≡ w ∷ ws
ended_some [] ws h = absurd (omega arith)
ended_some (b ∷ bs) ws h = refl

-- the first word, in what stands behind the spaces at the front
pub first_word : (xs rest w ws : List ℕ) → rest ≡ drop (run true xs) xs → 0 < length rest → w ≡ take (run false rest) rest → ws ≡ drop (run false rest) rest →
    words_of xs ≡ w ∷ words_of ws
first_word xs rest w ws back some front behind =
    let long : 0 < run false rest = subst (λ (r : List ℕ). 0 < run false r) (sym back) (run_some xs (subst (λ (r : List ℕ). 0 < length r) back some)) in
    let within = run_within false rest in
    let has : 0 < length w = rw front (rw (length-take-le (run false rest) rest within) long) in
    sym (spaces_off xs) ∙ (ap words_of (sym back) ∙ (word_off [] rest ∙ (ap₂ (λ v vs. ended v (words_of vs)) (sym front) (sym behind) ∙ ended_some w (words_of ws) has)))

-- where a search ends
pub placed : (k n i : ℕ) → (if ltb k n then Some k else None) ≡ Some i → (k < n) × (k ≡ i)
placed k n i h = grind (arith, nat_tests)

pub unplaced : (k n : ℕ) → (if ltb k n then Some k else None) ≡ None → n ≤ k
unplaced k n h = grind (arith, nat_tests)

pub no_start : (xs : List ℕ) → position (ends_run true) xs ≡ None → words_of xs ≡ []
no_start xs h =
    let past = unplaced (run true xs) (length xs) h in
    sym (spaces_off xs) ∙ ap words_of (nil_from_length (drop (run true xs) xs) (omega (arith, length-drop (run true xs) xs, past)))

pub first_at : (xs rest w ws : List ℕ) (start end : ℕ) → position (ends_run true) xs ≡ Some start → rest ≡ drop start xs → end ≡ run false rest → w ≡ take end rest → ws ≡ drop end rest →
    words_of xs ≡ w ∷ words_of ws
first_at xs rest w ws start end found is ends front behind =
    let p = placed (run true xs) (length xs) start found in
    let some : 0 < length rest = rw is (omega (arith, length-drop start xs, p.0, p.1)) in
    first_word xs rest w ws (is ∙ ap (λ k. drop k xs) (sym p.1)) some (front ∙ ap (λ n. take n rest) ends) (behind ∙ ap (λ n. drop n rest) ends)
