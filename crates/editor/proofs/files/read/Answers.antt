use Rattle.std.proofs.Common.{◌++◌, sym, refl, ap, ◌∙◌, arith}
use Rattle.pixel.specs.declared.sizes.Size.{Size}
use Rattle.codec.specs.declared.file.Lengths.{Lengths}
use Rattle.codec.specs.Files.{done_of, undone_of, read_file}
use Rattle.editor.proofs.Filing.{taken_row, taken_long, opened, read_ends}
use Rattle.editor.proofs.files.read.Goals as goal

pub read_slots-requires : goal.read_slots-requires
read_slots-requires c =
    let bs = c.args.file.now in
    let f = c.in_ok-head.head in
    let t = c.in_ok-head.ensures.means in
    let turns = ap (λ (l : Lengths). l.turns) c.lengths.ensures in
    (omega (arith, t.enough.for_turns, turns), (done_of bs f ++ undone_of bs f, (taken_row bs _ f t, taken_long bs _ f t)))

pub returns : goal.returns
returns c =
    let bs = c.args.file.now in
    let f = c.in_ok-head.head in
    let t = c.in_ok-head.ensures.means in
    let made = c.remake-canvas.ensures in
    let tiles = sym (ap (λ (l : Lengths). l.tiles) c.lengths.ensures) in
    let row = c.read_slots.ensures.row (done_of bs f ++ undone_of bs f) (taken_row bs _ f t) (taken_long bs _ f t) in
    read_ends bs c.args.turns.now c.args.tiles.now c.args.work.now c.read_slots.new.turns c.remake-canvas.new.tiles c.args.work.now f _ _ (c.in_ok-head.ensures.scans ∙ ap (read_file bs) c.lengths.ensures)
    c.read_slots.ensures.long made.long refl
    (opened bs _ f _ c.read_slots.new.turns c.remake-canvas.new.tiles t (ap (λ (z : Size). z.wide) made.size_is ∙ c.from.ensures) (ap (λ (z : Size). z.high) made.size_is ∙ c.from-2.ensures) refl refl refl row (made.long ∙ tiles) made.holds)
