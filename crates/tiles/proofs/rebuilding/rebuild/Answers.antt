-- Each turn of the inner loop joins one tile to those built in its row, and each of the outer one a row.
use Rattle.std.proofs.Common.{◌≡◌, ℕ, ◌+◌, ◌/◌, ◌<◌, inl, inr, arith}
use Rattle.std.proofs.lemmas.Bool.{cases_lt}
use Rattle.tiles.specs.Places.{InBand, Meets}
use Rattle.tiles.proofs.Kept.{where_join, where_is, tile_where, one_or_not, band_or_not, shown_again}
use Rattle.tiles.proofs.rebuilding.rebuild.Goals as goal

pub loop-tx-preserved : goal.loop-tx-preserved
loop-tx-preserved c =
    let tx = c.loop-tx.tx in
    let ty = c.loop-ty.ty in
    let row = InBand ty (c.args.area.left / 32) in
    where_join c.args.canvas.now (row tx) (λ x y. (x ≡ tx) × (y ≡ ty)) (row (tx + 1)) c.loop-ty.tiles c.loop-tx.tiles c.build_tile.new.tiles
    (one_or_not tx ty)
    (λ x y f n. elim (cases_lt x tx) [ inl l ↦ (f.0, (f.1.0, l)) | inr l ↦ absurd (n (omega (arith, f.1.1), f.0)) ])
    (λ x y d. (d.0, (d.1.0, omega (arith, d.1.1))))
    (λ x y e. (e.1, (omega (arith, e.0), omega (arith, e.0))))
    c.loop-tx.invariant
    (tile_where c.args.canvas.now tx ty c.loop-tx.tiles c.build_tile.new.tiles (omega arith) (omega arith) c.build_tile.ensures)

pub loop-ty-preserved : goal.loop-ty-preserved
loop-ty-preserved c =
    let a = c.args.area in
    let ty = c.loop-ty.ty in
    let done : ℕ → ℕ → ℕ → Type 0 = λ t x y. Meets a x y × (y < t) in
    where_join c.args.canvas.now (done ty) (InBand ty (a.left / 32) c.loop-tx.tx) (done (ty + 1)) c.args.tiles.now c.loop-ty.tiles c.loop-tx.tiles
    (band_or_not ty (a.left / 32) c.loop-tx.tx)
    (λ x y f n. elim (cases_lt y ty) [ inl l ↦ (f.0, l) | inr l ↦ absurd (n (omega (arith, f.1), (omega (arith, f.0.0.0), omega (arith, f.0.0.1)))) ])
    (λ x y d. (d.0, omega (arith, d.1)))
    (λ x y e. (((omega (arith, e.1.0), omega (arith, e.1.1)), (omega (arith, e.0), omega (arith, e.0))), omega (arith, e.0)))
    c.loop-ty.invariant c.loop-tx.invariant

pub returns-clause-shown : goal.returns-clause-shown
returns-clause-shown c =
    λ before was only. shown_again c.args.canvas.now before c.args.area c.args.tiles.now c.loop-ty.tiles was only
    (where_is c.args.canvas.now (λ x y. Meets c.args.area x y × (y < c.loop-ty.ty)) (Meets c.args.area) c.args.tiles.now c.loop-ty.tiles
    (λ x y d. d.0) (λ x y m. (m, omega (arith, m.1.1))) c.loop-ty.invariant)
