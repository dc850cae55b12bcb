use Rattle.std.proofs.Common.{vec_items, ◌∙◌}
use Rattle.words.proofs.Going.{hexes_step}
use Rattle.words.proofs.lines.read_hex_words.Goals as goal

pub loop-word-preserved : goal.loop-word-preserved
loop-word-preserved c = hexes_step _ (vec_items c.loop-word.turn) _ _ _ c.in-Some.ensures c.in_ok-read_hex.ensures ∙ c.loop-word.invariant
