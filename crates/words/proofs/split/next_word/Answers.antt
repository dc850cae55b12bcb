use Rattle.std.proofs.Common.{◌∙◌, ◌-◌, ap, sym, length, take, drop, unwrap_or, true, false, arith, rules, tests, length-drop}
use Rattle.std.proofs.lemmas.List.{take_all}
use Rattle.std.proofs.lemmas.Iterator.{YieldsList-from_slice}
use Rattle.std.proofs.lemmas.Iterator.Search.{position_from_yields_List}
use Rattle.words.specs.Split.{ends_run}
use Rattle.words.proofs.Splitting.{place_or_end, no_start, first_at}
use Rattle.words.proofs.split.next_word.Goals as goal

pub returns-in_err-start : goal.returns-in_err-start
returns-in_err-start c =
    let xs = c.args.line.now in
    let found = position_from_yields_List (ends_run true) _ _ c.position.result c.position.ensures.ran (YieldsList-from_slice xs (cc)) (λ x b q k. search (rules, tests)) in
    rw c.from_residual.ensures (no_start xs (sym found ∙ c.in_err-start.was))

pub returns : goal.returns
returns c =
    let xs = c.args.line.now in
    let start = c.in_ok-start.start in
    let rest = take (length xs - start) (drop start xs) in
    let found = position_from_yields_List (ends_run true) _ _ c.position.result c.position.ensures.ran (YieldsList-from_slice xs (cc)) (λ x b q k. search (rules, tests)) in
    let last = position_from_yields_List (ends_run false) _ _ c.position-2.result c.position-2.ensures.ran (YieldsList-from_slice rest (cc)) (λ x b q k. search (rules, tests)) in
    let ends = c.unwrap_or-end.ensures ∙ (ap (λ o. unwrap_or o (length rest)) last ∙ place_or_end (ends_run false) rest) in
    first_at xs rest c.split_at.result.0.now c.split_at.result.1.now start c.unwrap_or-end.result (sym found ∙ c.in_ok-start.was)
    (take_all (length xs - start) (drop start xs) (omega (arith, length-drop start xs))) ends c.split_at.ensures.front c.split_at.ensures.back
