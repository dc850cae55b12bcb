use Rattle.std.proofs.Common.{◌≡◌, ℕ, ◌-◌, List, length, take, drop, Some, vec_items, sym, ap, ◌∙◌, rules}
use Rattle.std.specs.Fmt.{option_append}
use Rattle.words.specs.Digits.{one, hex_bytes}
use Rattle.words.proofs.Going.{then_on}
use Rattle.words.proofs.Numerals.{hex_front}
use Rattle.words.proofs.lines.read_hex.Goals as goal

pub loop-rest-preserved : goal.loop-rest-preserved
loop-rest-preserved c =
    let w = c.loop-rest.rest.now in
    let pair : c.hex_pair.result ≡ Some c.in_ok-ok_or.field-0 = search rules in
    let old = vec_items c.loop-rest.turn in
    then_on (Some (vec_items c.push.new.self)) old _ (hex_bytes (take (length w - 2) (drop 2 w)))
    (ap (λ (xs : List ℕ). Some xs) c.in_ok-push.ensures.items ∙ ap (λ o. option_append (Some old) (one o)) (sym pair ∙ c.hex_pair.ensures))
    ∙ (ap (option_append (Some old)) (sym (hex_front w c.in-len2-up.len_at_least)) ∙ c.loop-rest.invariant)
