-- The forms of command lines: the table, what a field's word means and how it is written. Assumes nothing.
use Rattle.std.specs.Prelude.{ℕ, ◌+◌, ◌*◌, ◌/◌, ◌%◌, if◌then◌else◌, List, [], ◌∷◌, length, take, drop, Some, None, codes, decimal, Option, ◌==◌, slice_index}
use Rattle.std.specs.Option.{option_map}
use Rattle.std.specs.Fmt.{option_append}
use Rattle.words.specs.declared.forms.Field.{Field}
use Rattle.words.specs.declared.forms.Field.TheVariants.{Byte, Short, Colour}
use Rattle.words.specs.declared.forms.Form.{Form}
use Rattle.words.specs.Digits.{number_of, one, hex_bytes, hex}

-- a command: its name, the bytes that its turn begins with, and what follows them
pub record Row : Type 0 where
  pub name : List ℕ
  pub head : List ℕ
  pub fields : List Field

unfoldable pub table : List Row
table =
    record { name = codes "add"; head = 0 ∷ []; fields = [] }
    ∷ record { name = codes "drop"; head = 1 ∷ []; fields = [] }
    ∷ record { name = codes "choose"; head = 2 ∷ []; fields = Byte ∷ [] }
    ∷ record { name = codes "raise"; head = 3 ∷ []; fields = [] }
    ∷ record { name = codes "mode"; head = 4 ∷ []; fields = Byte ∷ [] }
    ∷ record { name = codes "much"; head = 5 ∷ []; fields = Short ∷ [] }
    ∷ record { name = codes "shown"; head = 6 ∷ []; fields = Byte ∷ [] }
    ∷ record { name = codes "merge"; head = 7 ∷ []; fields = [] }
    ∷ record { name = codes "all"; head = 8 ∷ []; fields = [] }
    ∷ record { name = codes "box"; head = 9 ∷ []; fields = Short ∷ Short ∷ Short ∷ Short ∷ [] }
    ∷ record { name = codes "not"; head = 11 ∷ []; fields = [] }
    ∷ record { name = codes "fill"; head = 12 ∷ []; fields = Colour ∷ [] }
    ∷ record { name = codes "undo"; head = 17 ∷ []; fields = [] }
    ∷ record { name = codes "redo"; head = 18 ∷ []; fields = [] }
    ∷ []

-- the row of a form in code
abbrev pub row_of : Form → Row
row_of f = record { name = f.name.now; head = f.head.now; fields = f.fields.now }

-- how many bytes a field has, and fields together
abbrev pub size : Field → ℕ
size Byte = 1
size Short = 2
size Colour = 4

abbrev pub sizes : List Field → ℕ
sizes [] = 0
sizes (f ∷ fs) = size f + sizes fs

-- the bytes of a number of two bytes, the low one first
abbrev pub two : ℕ → List ℕ
two n = n % 256 ∷ n / 256 ∷ []

-- the bytes that a field's word means
abbrev pub field_bytes : Field → List ℕ → Option (List ℕ)
field_bytes Byte w = one (number_of 255 w)
field_bytes Short w = option_map two (number_of 65535 w)
field_bytes Colour w = if length w == 8 then hex_bytes w else None

-- those of the words of a list of fields, as many as there are fields
abbrev pub fields_bytes : List Field → List (List ℕ) → Option (List ℕ)
fields_bytes [] [] = Some []
fields_bytes [] (w ∷ ws) = None
fields_bytes (f ∷ fs) [] = None
fields_bytes (f ∷ fs) (w ∷ ws) = option_append (field_bytes f w) (fields_bytes fs ws)

-- the word of a field whose bytes come first
abbrev pub field_word : Field → List ℕ → List ℕ
field_word Byte bs = decimal (slice_index bs 0)
field_word Short bs = decimal (slice_index bs 0 + 256 * slice_index bs 1)
field_word Colour bs = hex (take 4 bs)

abbrev pub field_words : List Field → List ℕ → List (List ℕ)
field_words [] bs = []
field_words (f ∷ fs) bs = field_word f bs ∷ field_words fs (drop (size f) bs)
