-- A turn looks at one row of the part.
use Rattle.std.proofs.Common.{◌+◌, sym, subst, mul-le-mul_right, arith}
use Rattle.pixel.specs.declared.areas.Area.{Area}
use Rattle.pixel.specs.Areas.{AreaIn, Around, first_rows}
use Rattle.pixel.specs.Pictures.{Differs}
use Rattle.pixel.proofs.Differing.{around_none, join_in, differs_row}
use Rattle.pixel.proofs.areas.differing.Goals as goal

pub unlike_in_row-here-requires : goal.unlike_in_row-here-requires
unlike_in_row-here-requires c =
    let row = mul-le-mul_right {m = c.args.area.top + c.loop-r.r + 1} {n = c.args.high} c.args.wide (omega arith) in (omega arith, (omega arith, (omega arith, omega arith)))

pub loop-r-init : goal.loop-r-init
loop-r-init c = (around_none _ (λ i j d. omega (arith, d.0.1)), (omega arith, omega arith))

pub loop-r-preserved : goal.loop-r-preserved
loop-r-preserved c =
    let a = c.args.area in
    let here = c.unlike_in_row-here.result in
    let row : AreaIn c.args.wide c.args.high here = (omega (arith, c.unlike_in_row-here.ensures.within), omega (arith, c.unlike_in_row-here.ensures.last)) in
    let P = λ (b : Area). Around (Differs c.args.bytes.now c.args.at c.args.by c.args.wide (first_rows a (c.loop-r.r + 1))) b × AreaIn c.args.wide c.args.high b in
    subst P (sym c.joined-found.ensures)
    (differs_row _ _ _ c.args.wide a c.loop-r.r c.loop-r.found here c.loop-r.invariant.0 c.unlike_in_row-here.ensures, join_in c.args.wide c.args.high c.loop-r.found here c.loop-r.invariant.1 row)
