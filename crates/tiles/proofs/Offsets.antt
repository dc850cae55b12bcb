-- Where tiles lie: each within what is kept for them, no two meet, and a pixel lies in its tile alone. Assumes nothing.
use Rattle.std.proofs.Common.{◌≡◌, ℕ, ◌+◌, ◌-◌, ◌*◌, ◌/◌, ◌%◌, ◌<◌, ◌≤◌, min, ◌⊎◌, sym, ap, inl, inr, mul-le-mul_right, mod-lt, arith}
use native.Mathlib.Nat.{min-le_left, min-le_right, div-add-mod}
use Rattle.std.proofs.lemmas.Bool.{cases_order}
use Rattle.pixel.specs.declared.areas.Area.{Area}
use Rattle.tiles.specs.Places.{tile_of, begins, place}

-- the end of a tile
abbrev pub ends : ℕ → ℕ → Area → ℕ
ends w h a = begins w h a + 4 * (a.high * a.wide)

-- it ends before the selection begins
pub tile_fits : (w h : ℕ) (a : Area) → a.left + a.wide ≤ w → a.top + a.high ≤ h → ends w h a ≤ 516 * (w * h)
tile_fits w h a r b = omega (arith, mul-le-mul_right a.high r, mul-le-mul_right w b)

-- of two tiles, the one in a band above, or to the left in the same band, ends before the other begins
above_ends : (w h : ℕ) (a b : Area) → a.left + a.wide ≤ w → a.top + a.high ≤ b.top → ends w h a ≤ begins w h b
above_ends w h a b r t = omega (arith, mul-le-mul_right a.high r, mul-le-mul_right w t)

left_ends : (w h : ℕ) (a b : Area) → a.top ≡ b.top → a.high ≡ b.high → a.left + a.wide ≤ b.left → ends w h a ≤ begins w h b
left_ends w h a b t e l = omega (arith, ap (λ x. x * w) t, ap (λ x. b.left * x) e, mul-le-mul_right a.high l)

-- along one side of n pixels: tile k ends within it, and before any later one; a pixel lies in its tile
side_ends : (n k : ℕ) → 32 * k < n → 32 * k + min (n - 32 * k) 32 ≤ n
side_ends n k l = omega (arith, min-le_left (n - 32 * k) 32)

side_next : (n k m : ℕ) → k < m → 32 * k + min (n - 32 * k) 32 ≤ 32 * m
side_next n k m l = omega (arith, min-le_right (n - 32 * k) 32)

pub in_side : (n i : ℕ) → i < n → i % 32 < min (n - 32 * (i / 32)) 32
in_side n i l = omega (arith, div-add-mod i 32, mod-lt i {m = 32} (omega arith))

pub side_there : (n i : ℕ) → i < n → 32 * (i / 32) < n
side_there n i l = omega (arith, div-add-mod i 32)

-- a tile of the page
pub tile_ends : (w h tx ty : ℕ) → 32 * tx < w → 32 * ty < h → ends w h (tile_of w h tx ty) ≤ 516 * (w * h)
tile_ends w h tx ty tw th = tile_fits w h (tile_of w h tx ty) (side_ends w tx tw) (side_ends h ty th)

-- a pixel lies in its tile
pub place_in : (w h i j : ℕ) → i < w → j < h → place w h i j + 4 ≤ ends w h (tile_of w h (i / 32) (j / 32))
place_in w h i j iw jh = omega (arith, mul-le-mul_right (min (w - 32 * (i / 32)) 32) (in_side h j jh), in_side w i iw)

pub place_ends : (w h i j : ℕ) → i < w → j < h → place w h i j + 4 ≤ 516 * (w * h)
place_ends w h i j iw jh = omega (arith, place_in w h i j iw jh, tile_ends w h (i / 32) (j / 32) (side_there w i iw) (side_there h j jh))

-- and in no other
pub place_out : (w h i j tx ty : ℕ) → i < w → j < h → 32 * tx < w → 32 * ty < h → ((i / 32 ≡ tx) × (j / 32 ≡ ty) → ⊥) →
    (place w h i j + 4 ≤ begins w h (tile_of w h tx ty)) ⊎ (ends w h (tile_of w h tx ty) ≤ place w h i j)
place_out w h i j tx ty iw jh tw th ne =
    let u : Area = tile_of w h (i / 32) (j / 32) in
    let t : Area = tile_of w h tx ty in
    let lies = place_in w h i j iw jh in
    elim (cases_order (j / 32) ty) [
      | inl e ↦ elim (cases_order (i / 32) tx) [
        | inl f ↦ absurd (ne (f, e))
        | inr o ↦ elim o [
          | inl l ↦ inl (omega (arith, left_ends w h u t (ap (λ k. 32 * k) e) (ap (λ k. min (h - 32 * k) 32) e) (side_next w (i / 32) tx l)))
          | inr l ↦ inr (omega (arith, left_ends w h t u (ap (λ k. 32 * k) (sym e)) (ap (λ k. min (h - 32 * k) 32) (sym e)) (side_next w tx (i / 32) l)))
        ]
      ]
      | inr o ↦ elim o [
        | inl l ↦ inl (omega (arith, above_ends w h u t (side_ends w (i / 32) (side_there w i iw)) (side_next h (j / 32) ty l)))
        | inr l ↦ inr (omega (arith, above_ends w h t u (side_ends w tx tw) (side_next h ty (j / 32) l)))
      ]
    ]
