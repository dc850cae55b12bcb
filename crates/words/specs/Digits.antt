-- Numbers in decimal and bytes in hex, as words. Assumes nothing.
-- `digitValue` is 0 to 9 at the decimal digits, 10 to 15 at `a` to `f` in either case, and more elsewhere; `digitChar` is the lower-case digit.
use Rattle.std.specs.Prelude.{ℕ, ◌+◌, ◌*◌, ◌/◌, ◌%◌, if◌then◌else◌, ◌&&◌, List, [], ◌∷◌, Some, None, Option, nat_le, nat_lt}
use Rattle.std.specs.Option.{option_map}
use Rattle.std.specs.Char.{digit_value, digit_char}
use Rattle.std.specs.Fmt.{option_append}

-- the number of n's digits and then those of a word; none where one is no decimal digit, or the number passes `most`
abbrev pub number_on : ℕ → ℕ → List ℕ → Option ℕ
number_on most n [] = Some n
number_on most n (b ∷ bs) = if nat_lt (digit_value b) 10 && nat_le (10 * n + digit_value b) most then number_on most (10 * n + digit_value b) bs else None

-- the number of a word, which is never empty
abbrev pub number_of : ℕ → List ℕ → Option ℕ
number_of most w = number_on most 0 w

-- the byte of two hex digits
abbrev pub hex_pair : ℕ → ℕ → Option ℕ
hex_pair a b = if nat_lt (digit_value a) 16 && nat_lt (digit_value b) 16 then Some (16 * digit_value a + digit_value b) else None

-- one byte, if there is one
abbrev pub one : Option ℕ → Option (List ℕ)
one o = option_map (λ n. n ∷ []) o

-- the bytes of a word of hex digits, two to a byte
abbrev pub hex_bytes : List ℕ → Option (List ℕ)
hex_bytes [] = Some []
hex_bytes (a ∷ []) = None
hex_bytes (a ∷ b ∷ bs) = option_append (one (hex_pair a b)) (hex_bytes bs)

-- bytes as hex digits
abbrev pub hex : List ℕ → List ℕ
hex [] = []
hex (b ∷ bs) = digit_char (b / 16) ∷ digit_char (b % 16) ∷ hex bs
