use Rattle.std.proofs.Common.{refl, arith}
use Rattle.history.proofs.Histories.{redo_next}
use Rattle.history.proofs.moves.Timeline.redo.Goals as goal

pub returns-then-self-gt0 : goal.returns-then-self-gt0
returns-then-self-gt0 c =
    let made = c.remake-self.ensures in
    let s = c.args.self.now in
    record {
      same_size = made.size_is;
      turns_long = refl;
      tiles_long = made.long;
      few = omega arith;
      history_next = redo_next c.args.turns.now s.done s.undone (λ e. omega arith);
      holds_next = λ held. made.holds;
    }
