-- What is seen of the first layers, at one pixel: it rests on their pixels there alone. Assumes nothing.
use Rattle.std.proofs.Common.{◌≡◌, ℕ, zero, suc, ◌+◌, ◌-◌, ◌*◌, ◌<◌, ◌≤◌, ◌⊎◌, true, not, List, get_or, sym, refl, ap, ◌∙◌, subst, inl, inr, add-one, arith, rules, Fits, w8}
use Rattle.std.proofs.lemmas.Nat.{mul-add-lt}
use Rattle.std.proofs.lemmas.Bool.{cond_both}
use Rattle.pixel.specs.declared.Pixel.{Pixel}
use Rattle.pixel.specs.Channels.{Channel, share, lerp, mixed}
use Rattle.pixel.specs.Pixels.{white, pixel_over}
use Rattle.pixel.specs.Bytes.{pixel_at, Wrote}
use Rattle.pixel.proofs.Steps.{same_pixel, pixel_kept}
use Rattle.page.specs.Layers.{layer_over}
use Rattle.page.specs.Edits.{seen}
use Rattle.canvas.specs.declared.state.Layer.{Layer as Entry}
use Rattle.canvas.specs.declared.state.Canvas.{Canvas}
use Rattle.canvas.specs.View.{view, plane_at, no_entry, layer_of, seen_below}
use Rattle.canvas.proofs.Views.{plane_in}
use Rattle.canvas.proofs.Layering.{composite_more}
use Rattle.tiles.specs.declared.layout.Tile.{Tile}
use Rattle.tiles.specs.Laying.{tile_pixel, Laid}
use Rattle.tiles.proofs.Grids.{grid_same}

-- a share of nothing, and what a layer of opacity 0 leaves
share_none : (a : ℕ) → share a 0 ≡ 0
unfolding share
share_none a = omega arith

mixed_none : (m new old : ℕ) → mixed m 0 new old ≡ old
unfolding mixed lerp
mixed_none m new old = omega arith

share_whole : (a : ℕ) → share 255 a ≡ a
unfolding share
share_whole a = omega arith

pub over_none : (m : ℕ) (new old : Pixel) → Channel old.alpha → pixel_over m 0 new old ≡ old
unfolding pixel_over
over_none m new old fits =
    let none = share_none new.alpha in
    same_pixel (pixel_over m 0 new old) old
    (ap (λ s. mixed m s new.red old.red) none ∙ mixed_none m new.red old.red)
    (ap (λ s. mixed m s new.green old.green) none ∙ mixed_none m new.green old.green)
    (ap (λ s. mixed m s new.blue old.blue) none ∙ mixed_none m new.blue old.blue)
    (ap (λ s. 255 - share (255 - s) (255 - old.alpha)) none ∙ ap (λ s. 255 - s) (share_whole (255 - old.alpha)) ∙ omega arith)

-- a layer of opacity 0 laid on a pixel
pub layer_none : (w h : ℕ) (xs : List ℕ) (e : Entry) (i j : ℕ) (p : Pixel) → e.opacity ≡ 0 → Channel p.alpha → p ≡ layer_over (layer_of w h xs e) i j p
layer_none w h xs e i j p none fits =
    let l = layer_of w h xs e in
    cond_both e.visible (pixel_over l.mode e.opacity (l.pixels i j) p) p (λ (d : Pixel). p ≡ d)
    (λ _. sym (ap (λ a. pixel_over l.mode a (l.pixels i j) p) none ∙ over_none l.mode (l.pixels i j) p fits)) (λ _. refl)

module _ (s : Canvas) where
  abbrev n : ℕ
  n = s.size.wide * s.size.high

  -- one layer more
  pub seen_more : (xs : List ℕ) (k i j : ℕ) → k < 64 → seen_below s xs (k + 1) i j ≡ layer_over (layer_of s.size.wide s.size.high xs (get_or s.layers k no_entry)) i j (seen_below s xs k i j)
  seen_more xs k i j l = composite_more s.size.wide s.size.high xs s.layers k no_entry (λ x y. white) i j (omega (arith, s.full))

  -- the planes are the same at a pixel
  abbrev pub SameAt : List ℕ → List ℕ → ℕ → ℕ → Type 0
  SameAt xs ys i j = (k : ℕ) → k < 64 → pixel_at ys (plane_at n k + 4 * (j * s.size.wide + i)) ≡ pixel_at xs (plane_at n k + 4 * (j * s.size.wide + i))

  pub layer_same : (xs ys : List ℕ) (e : Entry) (i j : ℕ) (p q : Pixel) → e.plane < 64 → SameAt xs ys i j → p ≡ q →
      layer_over (layer_of s.size.wide s.size.high ys e) i j p ≡ layer_over (layer_of s.size.wide s.size.high xs e) i j q
  layer_same xs ys e i j p q low same is = rw (same e.plane low, is) refl

  pub first_same : (xs ys : List ℕ) (k i j : ℕ) → k ≤ 64 → SameAt xs ys i j → seen_below s ys k i j ≡ seen_below s xs k i j
  first_same xs ys zero i j l same = refl
  first_same xs ys (suc k) i j l same =
      let e = get_or s.layers k no_entry in
      subst (λ (q : ℕ). seen_below s ys q i j ≡ seen_below s xs q i j) (add-one k)
      (seen_more ys k i j (omega arith) ∙ layer_same xs ys e i j _ _ (s.planes k no_entry (omega arith)) same (first_same xs ys k i j (omega arith) same)
      ∙ sym (seen_more xs k i j (omega arith)))

  pub seen_same : (xs ys : List ℕ) (i j : ℕ) → SameAt xs ys i j → seen (view s ys) i j ≡ seen (view s xs) i j
  seen_same xs ys i j same = first_same xs ys s.count i j s.counted.1 same

  -- where no byte of the planes is written they are the same
  pub planes_kept : (a e : ℕ) (xs ys : List ℕ) (i j : ℕ) → i < s.size.wide → j < s.size.high → 256 * n ≤ a → Wrote a e xs ys → SameAt xs ys i j
  planes_kept a e xs ys i j iw jh l so k low = pixel_kept a e xs ys _ so (inl (omega (arith, plane_in n k low, mul-add-lt j s.size.wide i s.size.high jh iw)))

-- a layer that is not visible, or of opacity 0, laid on a tile: nothing is written
pub laid_none : (e : Entry) (t : Tile) (xs : List ℕ) → ((k : ℕ) → Fits w8 (get_or xs k 0)) → (not e.visible ≡ true) ⊎ (e.opacity ≡ 0) → Laid e t xs xs
laid_none e t xs small none =
    let z = t.canvas.now.size in
    grid_same t.at t.area.wide _ t.area.high xs
    (λ i j iw jh.
    elim none [
      | inl hidden ↦ search rules
      | inr clear ↦ layer_none z.wide z.high xs e (t.area.left + i) (t.area.top + j) (tile_pixel t xs i j) clear (omega (arith, small (t.at + 4 * (j * t.area.wide + i) + 3)))
    ])
