use Rattle.std.proofs.Common.{◌≡◌, ◌≤◌, drop}
use Rattle.words.specs.Digits.{number_on, number_of}
use Rattle.words.proofs.digits.read_number.Given as goal

abbrev pub invariant-loop-b : goal.invariant-loop-b
invariant-loop-b l = (l.n ≤ l.most) × (number_on l.most l.n (drop l.b-index l.word) ≡ number_of l.most l.word)
