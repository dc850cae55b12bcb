-- The words of a line, and the line of some words. Assumes nothing.
use Rattle.std.specs.List.{position_or_len}
use Rattle.std.specs.Prelude.{ℕ, Bool, true, false, not, if◌then◌else◌, ◌||◌, List, [], ◌∷◌, ◌++◌, ◌==◌}

-- a space, a tab or a carriage return
abbrev pub is_space : ℕ → Bool
is_space b = b == 32 || (b == 9 || b == 13)

-- what ends a run of spaces, or a run of other bytes
abbrev pub ends_run : Bool → ℕ → Bool
ends_run true b = not (is_space b)
ends_run false b = is_space b

-- how long the run at the front is
abbrev pub run : Bool → List ℕ → ℕ
run spaces bs = position_or_len (ends_run spaces) bs

-- a word that ends here, if there is one, and then others
abbrev pub ended : List ℕ → List (List ℕ) → List (List ℕ)
ended [] ws = ws
ended (b ∷ bs) ws = (b ∷ bs) ∷ ws

-- the words of bytes that stand behind w, the beginning of a word
abbrev pub split : List ℕ → List ℕ → List (List ℕ)
split w [] = ended w []
split w (b ∷ bs) = if is_space b then ended w (split [] bs) else split (w ++ b ∷ []) bs

-- the words of a line: none of them is empty, or has a space in it
abbrev pub words_of : List ℕ → List (List ℕ)
words_of bs = split [] bs

abbrev pub no_words : List (List ℕ) → Bool
no_words [] = true
no_words (w ∷ ws) = false

-- words with a space before each
abbrev pub spaced : List (List ℕ) → List ℕ
spaced [] = []
spaced (w ∷ ws) = 32 ∷ (w ++ spaced ws)
