-- The law: a turn's words are read back as the turn.
use Rattle.std.proofs.Common.{◌≡◌, ℕ, ◌<◌, true, false, eqb, List, [], ◌∷◌, ◌++◌, length, get_or, drop, Some, None, codes, Option, refl, ap, ◌∙◌, append-nil, take-append-drop}
use Rattle.std.specs.List.{AllByRecursion}
use Rattle.std.proofs.ByRecursion.{All-drop, All-from_get_or}
use Rattle.std.proofs.lemmas.Bool.{cond-false}
use Rattle.std.specs.List.{find}
use Rattle.words.specs.Split.{spaced}
use Rattle.words.specs.Digits.{hex}
use Rattle.words.specs.Table.{Row, table}
use Rattle.words.specs.Lines.{turn, says_words, understood, fits_row, row_worded, ReadsBack}
use Rattle.words.proofs.Splitting.{Word, words_back}
use Rattle.words.proofs.Numerals.{hex_back, hex_word}
use Rattle.words.proofs.Rows.{Nameable, all_nameable, bytes_no_row, fitted, found, fields_back, fields_words}

-- a line of a name and words is understood by them
named_line : (w : List ℕ) (ws : List (List ℕ)) → Word w → ((rest : List ℕ) → eqb (get_or (w ++ rest) 0 0) 35 ≡ false) → AllByRecursion Word ws →
    understood (w ++ spaced ws) ≡ says_words (w ∷ ws)
named_line w ws h begins each = cond-false _ _ _ (begins (spaced ws)) ∙ ap says_words (words_back w ws h each)

raw_line : (bs : List ℕ) → 0 < length bs → AllByRecursion (λ b. b < 256) bs → understood (row_worded None bs) ≡ turn bs
raw_line bs h each =
    ap (λ ws. says_words (codes "bytes" ∷ ws)) (words_back (hex bs) [] (hex_word bs h each) tt)
    ∙ rw (bytes_no_row, hex_back bs each) (ap turn (append-nil bs))

row_line : (bs : List ℕ) (r : Row) → fits_row bs r ≡ true → Nameable r → AllByRecursion (λ b. b < 256) bs → understood (row_worded (Some r) bs) ≡ turn bs
row_line bs r fits name each =
    let n : ℕ = length r.head in
    let so = fitted bs r fits in
    let small : AllByRecursion (λ b. b < 256) (drop n bs) = All-drop (λ b. b < 256) n bs each in
    named_line r.name _ name.word name.no_comment (fields_words r.fields (drop n bs) so.rest small)
    ∙ rw (name.again, fields_back r.fields (drop n bs) so.rest small)
    (ap turn (ap (λ hs. hs ++ drop n bs) so.begins ∙ take-append-drop n bs))

by_row : (bs : List ℕ) (o : Option Row) → find (fits_row bs) table ≡ o → 0 < length bs → AllByRecursion (λ b. b < 256) bs →
    understood (row_worded o bs) ≡ turn bs
by_row bs None e h each = raw_line bs h each
by_row bs (Some r) e h each = let p = found (fits_row bs) Nameable table r e all_nameable in row_line bs r p.0 p.1 each

pub reads_back : ReadsBack
reads_back bs h each = by_row bs (find (fits_row bs) table) refl h (All-from_get_or (λ b. b < 256) bs 0 (λ i l. each i 0 l))
