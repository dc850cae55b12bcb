use Rattle.std.proofs.Common.{rules, ◌≡◌, ℕ, ◌+◌, ◌*◌}
use Rattle.std.proofs.lemmas.Iterator.{first_from_Range}
use Rattle.pixel.specs.Bytes.{pixel_at}
use Rattle.pixel.proofs.Differing.{first_found}
use Rattle.pixel.proofs.areas.first_unlike.Goals as goal
use borrow.Author.Tests.{tests}

pub returns : goal.returns
returns c =
    let xs = c.args.bytes.now in
    let same : ℕ → Type 0 = λ k. pixel_at xs (c.args.at + 4 * k) ≡ pixel_at xs (c.args.by + 4 * k) in
    first_found xs c.args.at c.args.by c.args.n c.find.result
    (first_from_Range _ _ _ c.find.result (λ k. same k → ⊥) same c.find.ensures.ran (λ x q k. search (rules, tests)) (λ x q k. search (rules, tests)))
