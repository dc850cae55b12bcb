use Rattle.std.proofs.Common.{◌≡◌, ℕ, ◌+◌, ◌*◌, ◌≤◌, None, sym, refl, ap, ◌∙◌, arith}
use Rattle.std.proofs.lemmas.Bool.Decides.{nat_tests}
use Rattle.codec.specs.declared.file.Lengths.{Lengths}
use Rattle.editor.specs.declared.state.Editor.{Editor}
use Rattle.editor.specs.Promises.{against, pixels}
use Rattle.editor.proofs.editing.turn.Goals as goal

-- where nothing is against a turn there are bytes enough
enough : (s : Editor) (turns tiles work : ℕ) → against s turns tiles work ≡ None → (8192 * (s.taken + 1) ≤ turns) × (544 * pixels s ≤ tiles)
enough s turns tiles work e = (grind (arith, nat_tests), grind (arith, nat_tests))

pub step-requires : goal.step-requires
step-requires c =
    let s = c.args.editor.now in
    let taken = c.in_ok-turn.ensures.means in
    let lent = c.lengths.result in
    let room = enough s lent.turns lent.tiles lent.work (sym c.against_turn-against.ensures ∙ taken.free) in
    let turns = ap (λ (l : Lengths). l.turns) c.lengths.ensures in
    let tiles = ap (λ (l : Lengths). l.tiles) c.lengths.ensures in (
      record { for_tiles = omega (arith, room.1, tiles); for_turns = omega (arith, room.0, turns) },
      record { is = taken.is; fits = taken.fits; is_built = taken.is_built; held = taken.held; free = refl },
    )
