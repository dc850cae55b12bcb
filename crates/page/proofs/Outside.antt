-- Outside what is selected an edit of pixels changes nothing: each paints by `pixel_lerp`, and that by 0 is the old pixel. Assumes nothing.
use Rattle.std.proofs.Common.{◌≡◌, ℕ, zero, suc, List, [], ◌∷◌, get_or, set, refl, ap, ◌∙◌, arith}
use Rattle.pixel.specs.declared.Pixel.{Pixel}
use Rattle.page.specs.Layers.{Picture, Layer, clear_layer, painted}
use Rattle.page.specs.Edits.{Page, layer, active_layer, on_active}
use Rattle.page.specs.Laws.{OnlySelected}
use Rattle.pixel.specs.Channels.{lerp}
use Rattle.pixel.specs.Pixels.{pixel_lerp}

lerp_none : (a b : ℕ) → lerp 0 a b ≡ b
unfolding lerp
lerp_none a b = omega arith

pixel_lerp_none : (a b : Pixel) → pixel_lerp 0 a b ≡ b
unfolding pixel_lerp
pixel_lerp_none a b = simp lerp_none

-- set to a layer whose pixel at i, j is the one that was there: no layer's pixel changes there
set_keeps : (ls : List Layer) (k a : ℕ) (l : Layer) (i j : ℕ) → l.pixels i j ≡ (get_or ls a clear_layer).pixels i j →
    (get_or (set ls a l) k clear_layer).pixels i j ≡ (get_or ls k clear_layer).pixels i j
set_keeps [] k a l i j e = refl
set_keeps (m ∷ ls) zero zero l i j e = e
set_keeps (m ∷ ls) zero (suc a) l i j e = refl
set_keeps (m ∷ ls) (suc k) zero l i j e = refl
set_keeps (m ∷ ls) (suc k) (suc a) l i j e = set_keeps ls k a l i j e

on_active_keeps : (p : Page) (f : Picture) (i j k : ℕ) → p.selected i j ≡ 0 → (layer (on_active p f) k).pixels i j ≡ (layer p k).pixels i j
on_active_keeps p f i j k h =
    set_keeps p.layers k p.active (painted (active_layer p) (λ a b. pixel_lerp (p.selected a b) (f a b) ((active_layer p).pixels a b))) i j
    (ap (λ s. pixel_lerp s (f i j) ((active_layer p).pixels i j)) h ∙ pixel_lerp_none (f i j) ((active_layer p).pixels i j))

pub only_selected : OnlySelected
only_selected p i j k d r x y ats f h =
    (on_active_keeps p _ i j k h, on_active_keeps p _ i j k h, on_active_keeps p _ i j k h, on_active_keeps p _ i j k h)
