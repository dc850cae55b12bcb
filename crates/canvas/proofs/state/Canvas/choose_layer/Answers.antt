use Rattle.std.proofs.Common.{refl, arith}
use Rattle.page.specs.Edits.{choose_layer}
use Rattle.canvas.proofs.Arranged.{edit_by, not_chosen}
use Rattle.canvas.proofs.Setting.{chosen}
use Rattle.canvas.proofs.state.Canvas.choose_layer.Goals as goal

pub returns-then-k-self : goal.returns-then-k-self
returns-then-k-self c = λ xs. edit_by c.args.self.now _ (choose_layer c.args.k) xs xs refl (chosen c.args.self.now c.from-k.result c.args.k xs c.from-k.ensures (omega arith))

pub returns-else-k-self : goal.returns-else-k-self
returns-else-k-self c = λ xs. not_chosen c.args.self.now xs c.args.k (omega arith)
