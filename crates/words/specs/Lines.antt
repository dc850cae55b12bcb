-- What a line says, the words of a turn, and the law that joins them. Assumes nothing.
use Rattle.std.specs.Prelude.{All, ◌≡◌, ℕ, ◌<◌, Bool, if◌then◌else◌, ◌&&◌, List, [], ◌∷◌, ◌++◌, length, take, drop, Some, None, codes, find, Ok, Err, Result, ⊤, Option, ◌==◌, slice_index}
use Rattle.std.specs.Fmt.{option_append}
use Rattle.std.specs.Str.{bytes_eq}
use Rattle.words.specs.declared.lines.Line.{Line}
use Rattle.words.specs.declared.lines.Line.TheVariants.{Blank, Turn, Unknown}
use Rattle.words.specs.declared.lines.Unread.{Unread}
use Rattle.words.specs.declared.lines.Unread.TheVariants.{NotUnderstood, NoMemory}
use Rattle.words.specs.Split.{words_of, spaced}
use Rattle.words.specs.Digits.{hex_bytes, hex}
use Rattle.words.specs.Table.{Row, table, sizes, fields_bytes, field_words}

-- the bytes that words of hex digits mean
abbrev pub hex_words : List (List ℕ) → Option (List ℕ)
hex_words [] = Some []
hex_words (w ∷ ws) = option_append (hex_bytes w) (hex_words ws)

-- those of the words behind `bytes`, of which there is one at least
abbrev pub raw_bytes : List (List ℕ) → Option (List ℕ)
raw_bytes [] = None
raw_bytes (w ∷ ws) = hex_words (w ∷ ws)

-- those behind the name of a row, or behind a name that has no row
abbrev pub row_bytes : Option Row → List ℕ → List (List ℕ) → Option (List ℕ)
row_bytes (Some r) w ws = option_append (Some r.head) (fields_bytes r.fields ws)
row_bytes None w ws = if bytes_eq w (codes "bytes") then raw_bytes ws else None

-- whether a word is the name of a row
abbrev pub named : List ℕ → Row → Bool
named w r = bytes_eq r.name w

-- what a line says: nothing, a turn by its bytes, or what is not understood
pub data Says : Type 0 where
  blank : Says
  turn : List ℕ → Says
  unknown : Says

-- what a line in code says, with the bytes beside it: those of its turn, and else none
abbrev pub LineSays : Line → List ℕ → Says → Type 0
LineSays Blank bs says = (says ≡ blank) × (bs ≡ [])
LineSays Turn bs says = says ≡ turn bs
LineSays Unknown bs says = (says ≡ unknown) × (bs ≡ [])

abbrev pub says_turn : Option (List ℕ) → Says
says_turn (Some bs) = turn bs
says_turn None = unknown

-- the first word is a name
abbrev pub says_words : List (List ℕ) → Says
says_words [] = blank
says_words (w ∷ ws) = says_turn (row_bytes (find (named w) table) w ws)

-- a line that begins with `#` is a comment
abbrev pub understood : List ℕ → Says
understood line = if slice_index line 0 == 35 then blank else says_words (words_of line)

-- what a reader leaves in a list of bytes: `what` behind what was there, or that there is none; where memory is wanting, nothing is said
abbrev pub ReadsOn : Result (Unit {0}) Unread → List ℕ → List ℕ → Option (List ℕ) → Type 0
ReadsOn (Ok u) old new what = Some new ≡ option_append (Some old) what
ReadsOn (Err NotUnderstood) old new what = None ≡ option_append (Some old) what
ReadsOn (Err NoMemory) old new what = ⊤

-- whether a turn's bytes are those of a row: its head, and as many as its fields have
abbrev pub fits_row : List ℕ → Row → Bool
fits_row bs r = bytes_eq r.head (take (length r.head) bs) && length (drop (length r.head) bs) == sizes r.fields

-- a turn as a line: by the row that it fits, or by its bytes
abbrev pub row_worded : Option Row → List ℕ → List ℕ
row_worded (Some r) bs = r.name ++ spaced (field_words r.fields (drop (length r.head) bs))
row_worded None bs = codes "bytes" ++ spaced (hex bs ∷ [])

abbrev pub worded : List ℕ → List ℕ
worded bs = row_worded (find (fits_row bs) table) bs

-- reading what was written gives the same turn
abbrev pub ReadsBack : Type 0
ReadsBack = (bs : List ℕ) → 0 < length bs → All (λ b. b < 256) bs → understood (worded bs) ≡ turn bs
