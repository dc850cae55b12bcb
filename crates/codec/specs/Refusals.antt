-- The number of a refusal, and its place: the byte that it is about, or which lent slice is too short. Assumes nothing.
use Rattle.std.specs.Prelude.{ℕ, List, ◌++◌, codes, decimal}
use Rattle.codec.specs.declared.edits.Lent.{Lent}
use Rattle.codec.specs.declared.edits.Lent.TheVariants.{Turns, Tiles, Work, File}
use Rattle.codec.specs.declared.edits.Refusal.{Refusal}
use Rattle.codec.specs.declared.edits.Refusal.TheVariants.{Ends, GoesOn, NotPage, NoKind, NoFilter, ManyPoints, WideBlur, NoFlag, NoSize, TooMany, Short}

abbrev pub number : Refusal → ℕ
number (Ends p) = 1
number (GoesOn p) = 1
number NotPage = 2
number (NoKind p) = 3
number (NoFilter p) = 3
number (ManyPoints p) = 3
number (WideBlur p) = 3
number (NoFlag p) = 3
number (NoSize p) = 3
number (TooMany p) = 4
number (Short l) = 5

abbrev pub lent_place : Lent → ℕ
lent_place Turns = 0
lent_place Tiles = 1
lent_place Work = 2
lent_place File = 3

abbrev pub place : Refusal → ℕ
place (Ends p) = p
place (GoesOn p) = p
place NotPage = 0
place (NoKind p) = p
place (NoFilter p) = p
place (ManyPoints p) = p
place (WideBlur p) = p
place (NoFlag p) = p
place (NoSize p) = p
place (TooMany p) = p
place (Short l) = lent_place l

-- what is said of a refusal
abbrev pub refused_text : Refusal → List ℕ
refused_text why = codes "refused " ++ (decimal (number why) ++ (codes " at " ++ decimal (place why)))
