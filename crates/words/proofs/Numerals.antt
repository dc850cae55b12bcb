-- What is written in decimal or hex is read back.
use Rattle.std.proofs.Common.{◌≡◌, ℕ, ◌+◌, ◌-◌, ◌*◌, ◌/◌, ◌%◌, ◌^◌, ◌<◌, ◌≤◌, Bool, true, false, cond, ◌&&◌, ltb, leb, List, [], ◌∷◌, ◌++◌, length, get_or, take, drop, Some, None, decimal, Option, sym, refl, ap, ◌∙◌, arith}
use Rattle.std.specs.Char.{digit_value, digit_char}
use Rattle.std.specs.Fmt.{option_append}
use Rattle.std.specs.List.{AllByRecursion}
use Rattle.std.proofs.lemmas.Bool.Decides.{nat_tests}
use Rattle.std.proofs.lemmas.Bool.{cond-true}
use Rattle.std.proofs.lemmas.List.{take_all}
use Rattle.std.proofs.ByRecursion.{All-push}
use Rattle.std.proofs.lemmas.Fmt.{decimal_by_steps, decimal_nonempty}
use Rattle.words.specs.Digits.{number_on, number_of, hex_pair, one, hex_bytes, hex}
use Rattle.words.proofs.Splitting.{Inside, Word}

pub value_back : (d : ℕ) → d < 16 → digit_value (digit_char d) ≡ d
value_back d h = grind (arith, nat_tests)

pub char_inside : (d : ℕ) → d < 16 → Inside (digit_char d)
char_inside d h = grind (arith, nat_tests)

pub pair_back : (x y : ℕ) → x < 16 → y < 16 → hex_pair (digit_char x) (digit_char y) ≡ Some (16 * x + y)
pair_back x y h k = rw (value_back x h, value_back y k) (grind (arith, nat_tests))

pub hex_back : (bs : List ℕ) → AllByRecursion (λ b. b < 256) bs → hex_bytes (hex bs) ≡ Some bs
hex_back [] h = refl
hex_back (b ∷ bs) h = rw (pair_back (b / 16) (b % 16) (omega arith) (omega arith), hex_back bs h.1) (ap (λ a. Some (a ∷ bs)) (omega arith))

hex_inside : (bs : List ℕ) → AllByRecursion (λ b. b < 256) bs → AllByRecursion Inside (hex bs)
hex_inside [] h = tt
hex_inside (b ∷ bs) h = (char_inside (b / 16) (omega arith), (char_inside (b % 16) (omega arith), hex_inside bs h.1))

pub hex_word : (bs : List ℕ) → 0 < length bs → AllByRecursion (λ b. b < 256) bs → Word (hex bs)
hex_word [] h each = absurd (omega arith)
hex_word (b ∷ bs) h each = record { some = omega arith; inside = hex_inside (b ∷ bs) each }

opened : (t : Bool) (o : Option ℕ) (v : ℕ) → cond t o None ≡ Some v → (t ≡ true) × (o ≡ Some v)
opened true o v e = (refl, e)
opened false o v e = let z : ◌≡◌ {A = ℕ} 0 1 = cc in absurd (omega arith)

number_push : (most m v : ℕ) (ds : List ℕ) (c : ℕ) → number_on most m ds ≡ Some v → number_on most m (ds ++ c ∷ []) ≡ number_on most v (c ∷ [])
number_push most m v [] c e = let q : m ≡ v = cc in ap (λ n. number_on most n (c ∷ [])) q
number_push most m v (d ∷ ds) c e =
    let p = opened (ltb (digit_value d) 10 && leb (10 * m + digit_value d) most) _ v e in
    cond-true _ _ None p.0 ∙ number_push most (10 * m + digit_value d) v ds c p.1

-- one digit more
number_digit : (most m n d : ℕ) → d < 10 → 10 * m + d ≡ n → n ≤ most → number_on most m ((48 + d) ∷ []) ≡ Some n
number_digit most m n d h e k =
    let v : digit_value (48 + d) ≡ d = grind (arith, nat_tests) in rw v (grind (arith, nat_tests))

pub number_back : (most n : ℕ) → n ≤ most → n < 2 ^ 64 → number_of most (decimal n) ≡ Some n
number_back most n h k =
    decimal_by_steps (λ m ds. m ≤ most → number_of most ds ≡ Some m)
    (λ m l below. number_digit most 0 m m l (omega arith) below)
    (λ m ds l so below.
    number_push most 0 (m / 10) ds (48 + m % 10) (so (omega arith))
    ∙ number_digit most (m / 10) m (m % 10) (omega arith) (omega arith) below)
    n k h

pub decimal_word : (n : ℕ) → n < 2 ^ 64 → Word (decimal n)
decimal_word n h =
    record {
      some = decimal_nonempty n h;
      inside =
          decimal_by_steps (λ m ds. AllByRecursion Inside ds) (λ m l. (grind (arith, nat_tests), tt))
          (λ m ds l so. All-push Inside ds (48 + m % 10) so (grind (arith, nat_tests))) n h;
    }

-- the first byte of a word in hex, and what follows it
pub hex_front : (w : List ℕ) → 2 ≤ length w →
    hex_bytes w ≡ option_append (one (hex_pair (get_or w 0 0) (get_or w 1 0))) (hex_bytes (take (length w - 2) (drop 2 w)))
hex_front [] h = absurd (omega arith)
hex_front (a ∷ []) h = absurd (omega arith)
hex_front (a ∷ b ∷ bs) h = ap (λ ds. option_append (one (hex_pair a b)) (hex_bytes ds)) (sym (take_all (length (a ∷ b ∷ bs) - 2) bs (omega arith)))
