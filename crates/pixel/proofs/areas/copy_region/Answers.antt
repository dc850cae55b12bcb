-- A turn copies a row of the part, which no turn before it has written.
use Rattle.std.proofs.Common.{◌≡◌, ◌+◌, ◌*◌, ◌≤◌, ◌⊎◌, ap, ◌∙◌, inl, inr, mul-le-mul_right, arith}
use Rattle.pixel.specs.Bytes.{pixel_at}
use Rattle.pixel.proofs.Steps.{pixel_kept}
use Rattle.pixel.proofs.Pictures.{picture_wrote, region_none, region_row}
use Rattle.pixel.proofs.areas.copy_region.Goals as goal

pub loop-r-init : goal.loop-r-init
loop-r-init c = region_none c.args.to c.args.wide c.args.high _ c.args.area c.args.bytes.now

pub copy_pixels-requires : goal.copy_pixels-requires
copy_pixels-requires c = let row = mul-le-mul_right {m = c.args.area.top + c.loop-r.r + 1} {n = c.args.high} c.args.wide (omega arith) in (omega arith, omega arith)

pub loop-r-preserved : goal.loop-r-preserved
loop-r-preserved c =
    let a = c.args.area in
    let w = c.args.wide in
    let r = c.loop-r.r in
    let from = c.args.from in
    let row = mul-le-mul_right {m = a.top + r + 1} {n = c.args.high} w (omega arith) in
    region_row c.args.to w c.args.high _ _ a r _ _ _ (omega arith) (omega arith) c.loop-r.invariant c.copy_pixels.ensures
    (λ k l.
    let place : from + 4 * ((a.top + r) * w + a.left) + 4 * k ≡ from + 4 * ((a.top + r) * w + (a.left + k)) = omega arith in
    let out : (from + 4 * ((a.top + r) * w + a.left) + 4 * k + 4 ≤ c.args.to) ⊎ (c.args.to + 4 * (w * c.args.high) ≤ from + 4 * ((a.top + r) * w + a.left) + 4 * k)
    = elim c.requires.lies.1.1 [ inl u ↦ inl (omega arith) | inr u ↦ inr (omega arith) ] in
    pixel_kept _ _ _ _ _ (picture_wrote c.args.to w c.args.high _ _ _ c.loop-r.invariant) out ∙ ap (pixel_at c.args.bytes.now) place)
