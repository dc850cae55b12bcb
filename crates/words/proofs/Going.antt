-- Readers go on from what was read: one step, whatever is read.
use Rattle.std.proofs.Common.{◌≡◌, ℕ, ◌+◌, ◌<◌, List, [], ◌∷◌, length, get_or, drop, Some, None, Err, Option, sym, refl, ap, ◌∙◌, append_assoc}
use Rattle.std.specs.Fmt.{option_append}
use Rattle.std.proofs.lemmas.List.{at_drop_more}
use Rattle.words.specs.declared.lines.Unread.{Unread}
use Rattle.words.specs.declared.lines.Unread.TheVariants.{NotUnderstood, NoMemory}
use Rattle.words.specs.declared.forms.Field.{Field}
use Rattle.words.specs.Table.{field_bytes, fields_bytes}
use Rattle.words.specs.Digits.{hex_bytes}
use Rattle.words.specs.Lines.{ReadsOn, hex_words}

pub then_assoc : (o p q : Option (List ℕ)) → option_append (option_append o p) q ≡ option_append o (option_append p q)
then_assoc None p q = refl
then_assoc (Some a) None q = refl
then_assoc (Some a) (Some b) None = refl
then_assoc (Some a) (Some b) (Some c) = ap (λ (xs : List ℕ). Some xs) (append_assoc a b c)

-- o, what there is after a step, and then the rest: the step before the rest
pub then_on : (o : Option (List ℕ)) (old : List ℕ) (step rest : Option (List ℕ)) → o ≡ option_append (Some old) step →
    option_append o rest ≡ option_append (Some old) (option_append step rest)
then_on o old step rest e = ap (λ p. option_append p rest) e ∙ then_assoc (Some old) step rest

-- the steps of a reader of fields: a word, no word
module _ (fs : List Field) (i : ℕ) (d : Field) (old : List ℕ) where
  -- the field that comes, at words that are known
  fields_at : (ws vs : List (List ℕ)) → i < length fs → ws ≡ vs → fields_bytes (get_or fs i d ∷ drop (i + 1) fs) vs ≡ fields_bytes (drop i fs) ws
  fields_at ws vs h e = ap (fields_bytes (get_or fs i d ∷ drop (i + 1) fs)) (sym e) ∙ sym (at_drop_more (λ gs. fields_bytes gs ws) fs i d h)

  pub fields_step : (o : Option (List ℕ)) (ws : List (List ℕ)) (w : List ℕ) (rest : List (List ℕ)) → i < length fs → ws ≡ w ∷ rest →
      o ≡ option_append (Some old) (field_bytes (get_or fs i d) w) → option_append o (fields_bytes (drop (i + 1) fs) rest) ≡ option_append (Some old) (fields_bytes (drop i fs) ws)
  fields_step o ws w rest h e g =
      then_on o old (field_bytes (get_or fs i d) w) (fields_bytes (drop (i + 1) fs) rest) g
      ∙ ap (option_append (Some old)) (fields_at ws (w ∷ rest) h e)

  pub fields_short : (ws : List (List ℕ)) → i < length fs → ws ≡ [] → None ≡ option_append (Some old) (fields_bytes (drop i fs) ws)
  fields_short ws h e = ap (option_append (Some old)) (fields_at ws [] h e)

-- the same of a reader of words in hex
pub hexes_step : (o : Option (List ℕ)) (old : List ℕ) (ws : List (List ℕ)) (w : List ℕ) (rest : List (List ℕ)) → ws ≡ w ∷ rest →
    o ≡ option_append (Some old) (hex_bytes w) → option_append o (hex_words rest) ≡ option_append (Some old) (hex_words ws)
hexes_step o old ws w rest e g = then_on o old (hex_bytes w) (hex_words rest) g ∙ ap (λ vs. option_append (Some old) (hex_words vs)) (sym e)

-- where a step has none, the whole has none
pub none_on : (why : Unread) (was new old last : List ℕ) (step whole : Option (List ℕ)) → ReadsOn (Err why) was new step →
    (None ≡ option_append (Some was) step → None ≡ option_append (Some old) whole) → ReadsOn (Err why) old last whole
none_on NotUnderstood was new old last step whole h so = so h
none_on NoMemory was new old last step whole h so = tt
