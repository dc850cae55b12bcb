use Rattle.std.proofs.Common.{◌+◌, ◌-◌, ◌<◌, ◌∷◌, eqb, length, take, drop, sym, ap, ◌∙◌, arith, rules, tests, length-drop}
use Rattle.std.proofs.lemmas.List.{take_all}
use Rattle.std.proofs.lemmas.Bool.{eqb-false}
use Rattle.std.proofs.lemmas.Iterator.{YieldsList-from_slice}
use Rattle.std.proofs.lemmas.Iterator.Search.{position_from_yields_List}
use Rattle.words.specs.Script.{lines_of}
use Rattle.words.proofs.Playing.{line_off, line_last}
use Rattle.words.proofs.script.next_line.Goals as goal

pub returns-in-Some : goal.returns-in-Some
returns-in-Some c =
    let xs = c.args.text.now in
    let end = c.in-Some.end in
    let found = position_from_yields_List (λ b. eqb b 10) _ _ c.position.result c.position.ensures.ran (YieldsList-from_slice xs (cc)) (λ x b q k. search (rules, tests)) in
    let off = line_off xs end (sym found ∙ c.in-Some.is) in
    let rest = take_all (length xs - (end + 1)) (drop (end + 1) xs) (omega (arith, length-drop (end + 1) xs)) in
    (off.1 ∙ ap (λ bs. take end xs ∷ lines_of bs) (sym rest), rw rest (rw (length-drop (end + 1) xs) (omega (arith, off.0))))

pub returns-in-None : goal.returns-in-None
returns-in-None c =
    let xs = c.args.text.now in
    let found = position_from_yields_List (λ b. eqb b 10) _ _ c.position.result c.position.ensures.ran (YieldsList-from_slice xs (cc)) (λ x b q k. search (rules, tests)) in
    let some : 0 < length xs = omega (arith, eqb-false (length xs) 0 (sym c.if-is_empty.ensures)) in
    (line_last xs some (sym found ∙ c.in-None.is), some)
