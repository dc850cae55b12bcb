-- The words of a row's fields are read back, whatever the fields are; a row is found again by its name.
use Rattle.std.proofs.Common.{◌≡◌, ℕ, ◌+◌, ◌*◌, ◌/◌, ◌%◌, ◌<◌, ◌≤◌, Bool, true, false, not, ◌&&◌, eqb, List, [], ◌∷◌, ◌++◌, map, length, get_or, take, drop, Some, None, codes, sym, refl, ap, ◌∙◌, subst, inl, inr, arith, length-drop, take-append-drop, length-take}
use Rattle.std.specs.List.{AllByRecursion, find}
use Rattle.std.specs.Option.{option_map}
use Rattle.std.proofs.ByRecursion.{All-take, All-drop}
use Rattle.std.proofs.lemmas.Slice.Eq.{bytes_eq-Decides}
use Rattle.std.proofs.lemmas.Bool.{eqb-true, cases_Bool, cond-true, cond-false, and_parts, not-true, false≢true}
use Rattle.words.specs.declared.forms.Field.{Field}
use Rattle.words.specs.declared.forms.Field.TheVariants.{Byte, Short, Colour}
use Rattle.words.specs.declared.forms.Form.{Form}
use Rattle.words.specs.Split.{is_space}
use Rattle.words.specs.Table.{Row, table, row_of, size, sizes, field_bytes, fields_bytes, field_word, field_words}
use Rattle.words.specs.Lines.{named, fits_row}
use Rattle.words.proofs.Splitting.{Inside, Word}
use Rattle.words.proofs.Numerals.{hex_back, hex_word, number_back, decimal_word}

pub record Back (f : Field) (bs : List ℕ) : Type 0 where
  pub back : field_bytes f (field_word f bs) ≡ Some (take (size f) bs)
  pub word : Word (field_word f bs)

two_back : (m a n b : ℕ) → m ≡ a → n ≡ b → Some (m ∷ n ∷ []) ≡ Some (a ∷ b ∷ [])
two_back m a n b e f = cc

-- one field
pub field_back : (f : Field) (bs : List ℕ) → size f ≤ length bs → AllByRecursion (λ b. b < 256) bs → Back f bs
field_back Byte [] h each = absurd (omega arith)
field_back Byte (a ∷ bs) h each = record { back = rw (number_back 255 a (omega arith) (omega arith)); word = decimal_word a (omega arith) }
field_back Short [] h each = absurd (omega arith)
field_back Short (a ∷ []) h each = absurd (omega arith)
field_back Short (a ∷ b ∷ bs) h each =
    record {
      back =
          rw (number_back 65535 (a + 256 * b) (omega arith) (omega arith))
          (two_back ((a + 256 * b) % 256) a ((a + 256 * b) / 256) b (omega arith) (omega arith));
      word = decimal_word (a + 256 * b) (omega arith);
    }
field_back Colour [] h each = absurd (omega arith)
field_back Colour (a ∷ []) h each = absurd (omega arith)
field_back Colour (a ∷ b ∷ []) h each = absurd (omega arith)
field_back Colour (a ∷ b ∷ c ∷ []) h each = absurd (omega arith)
field_back Colour (a ∷ b ∷ c ∷ d ∷ bs) h each =
    let four : AllByRecursion (λ b. b < 256) (a ∷ b ∷ c ∷ d ∷ []) = All-take (λ b. b < 256) 4 (a ∷ b ∷ c ∷ d ∷ bs) each in
    record { back = hex_back (a ∷ b ∷ c ∷ d ∷ []) four; word = hex_word (a ∷ b ∷ c ∷ d ∷ []) (omega arith) four }

-- all fields
pub fields_back : (fs : List Field) (bs : List ℕ) → length bs ≡ sizes fs → AllByRecursion (λ b. b < 256) bs → fields_bytes fs (field_words fs bs) ≡ Some bs
fields_back [] [] h each = refl
fields_back [] (b ∷ bs) h each = absurd (omega arith)
fields_back (f ∷ fs) bs h each =
    let rest : length (drop (size f) bs) ≡ sizes fs = simp length-drop (omega arith) in
    let small : AllByRecursion (λ b. b < 256) (drop (size f) bs) = All-drop (λ b. b < 256) (size f) bs each in
    rw ((field_back f bs (omega arith) each).back, fields_back fs (drop (size f) bs) rest small) (ap (λ (xs : List ℕ). Some xs) (take-append-drop (size f) bs))

pub fields_words : (fs : List Field) (bs : List ℕ) → length bs ≡ sizes fs → AllByRecursion (λ b. b < 256) bs → AllByRecursion Word (field_words fs bs)
fields_words [] bs h each = tt
fields_words (f ∷ fs) bs h each =
    let rest : length (drop (size f) bs) ≡ sizes fs = simp length-drop (omega arith) in
    ((field_back f bs (omega arith) each).word, fields_words fs (drop (size f) bs) rest (All-drop (λ b. b < 256) (size f) bs each))

-- a row that is found passes the test, and what holds of all rows
pub found : (test : Row → Bool) (P : Row → Type 0) (rs : List Row) (r : Row) → find test rs ≡ Some r → AllByRecursion P rs → (test r ≡ true) × P r
found test P [] r e each = let z : ◌≡◌ {A = ℕ} 0 1 = cc in absurd (omega arith)
found test P (q ∷ rs) r e each =
    elim (cases_Bool (test q)) [
      | inl t ↦
          let s : Some q ≡ Some r = sym (cond-true (test q) (Some q) (find test rs) t) ∙ e in
          let same : q ≡ r = cc in subst (λ (x : Row). (test x ≡ true) × P x) same (t, each.0)
      | inr f ↦ found test P rs r (sym (cond-false (test q) (Some q) (find test rs) f) ∙ e) each.1
    ]

-- the bytes of a turn that fits a row
pub record Fitted (bs : List ℕ) (r : Row) : Type 0 where
  pub begins : r.head ≡ take (length r.head) bs
  pub long : length r.head ≤ length bs
  pub rest : length (drop (length r.head) bs) ≡ sizes r.fields

pub fitted : (bs : List ℕ) (r : Row) → fits_row bs r ≡ true → Fitted bs r
fitted bs r h =
    let p = and_parts _ _ h in
    let same : r.head ≡ take (length r.head) bs = (bytes_eq-Decides r.head (take (length r.head) bs)).0 p.0 in
    record { begins = same; long = omega (arith, ap length same, length-take (length r.head) bs); rest = eqb-true _ _ p.1 }

-- what a row's name has to be: the name of no row before it, a word, and the beginning of no comment
pub record Nameable (r : Row) : Type 0 where
  pub again : find (named r.name) table ≡ Some r
  pub word : Word r.name
  pub no_comment : (rest : List ℕ) → eqb (get_or (r.name ++ rest) 0 0) 35 ≡ false

no_space : List ℕ → Bool
no_space [] = true
no_space (b ∷ bs) = not (is_space b) && no_space bs

plain : List ℕ → Bool
plain [] = false
plain (b ∷ bs) = not (eqb b 35) && no_space (b ∷ bs)

inside_from : (w : List ℕ) → no_space w ≡ true → AllByRecursion Inside w
unfolding no_space
inside_from [] h = tt
inside_from (b ∷ bs) h = let p = and_parts _ _ h in (not-true (is_space b) p.0, inside_from bs p.1)

-- a name of this kind is a word, and begins no comment
plain_word : (w : List ℕ) → plain w ≡ true → Word w × ((rest : List ℕ) → eqb (get_or (w ++ rest) 0 0) 35 ≡ false)
unfolding plain
plain_word [] h = absurd (false≢true h)
plain_word (b ∷ bs) h =
    let p = and_parts _ _ h in
    (record { some = omega arith; inside = inside_from (b ∷ bs) p.1 }, λ rest. not-true (eqb b 35) p.0)

nameable : (r : Row) → find (named r.name) table ≡ Some r → plain r.name ≡ true → Nameable r
nameable r e h = let p = plain_word r.name h in record { again = e; word = p.0; no_comment = p.1 }

pub all_nameable : AllByRecursion Nameable table
unfolding table no_space plain
all_nameable = (
  nameable _ refl refl,
  (
    nameable _ refl refl,
    (
      nameable _ refl refl,
      (
        nameable _ refl refl,
        (
          nameable _ refl refl,
          (
            nameable _ refl refl,
            (
              nameable _ refl refl,
              (
                nameable _ refl refl,
                (
                  nameable _ refl refl,
                  (
                    nameable _ refl refl,
                    (
                      nameable _ refl refl,
                      (
                        nameable _ refl refl,
                        (
                          nameable _ refl refl,
                          (
                            nameable _ refl refl,
                            tt,
                          ),
                        ),
                      ),
                    ),
                  ),
                ),
              ),
            ),
          ),
        ),
      ),
    ),
  ),
)

-- `bytes` is the name of no row
pub bytes_no_row : find (named (codes "bytes")) table ≡ None
unfolding table
bytes_no_row = refl

-- the first form whose row passes is that of the first row that does
pub find_row : (test : Row → Bool) (fs : List Form) → option_map row_of (find (λ f. test (row_of f)) fs) ≡ find test (map row_of fs)
find_row test [] = refl
find_row test (f ∷ fs) = elim (cases_Bool (test (row_of f))) [ inl t ↦ rw t refl | inr n ↦ rw n (find_row test fs) ]
