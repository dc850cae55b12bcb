use Rattle.std.proofs.Common.{◌≡◌, List, length, take, drop}
use Rattle.page.specs.Edits.{Edit}
use Rattle.codec.specs.Files.{all_written}
use Rattle.history.specs.Slots.{edits_in, RowStands}
use Rattle.history.proofs.filing.read_slots.Given as goal

-- the first k edits are in their slots, and the rest stands from `at` on
abbrev pub invariant-loop-k : goal.invariant-loop-k
invariant-loop-k l =
    (es : List Edit) → RowStands l.file 16 es → length es ≡ l.count → (drop l.at l.file ≡ all_written (drop l.k es)) × (edits_in l.turns 0 l.k ≡ take l.k es)
