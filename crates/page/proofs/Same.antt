-- Pictures that are the same on a page stay so under filters, floods and layers one on the other. Assumes nothing.
use Rattle.std.proofs.Common.{◌≡◌, ℕ, zero, suc, ◌+◌, ◌-◌, ◌*◌, ◌/◌, ◌<◌, ◌≤◌, min, Bool, true, false, ◌&&◌, ltb, List, [], ◌∷◌, length, get_or, set, refl, ap, ◌∙◌, ap₂, arith}
use mathlib.Core.Path.{fun_ext}
use Rattle.std.proofs.lemmas.Bool.{ltb-true, and_parts}
use Rattle.page.specs.Layers.{Picture, Layer, clear_layer, layer_over, composite, put_in, without}
use Rattle.page.specs.Selection.{beside, spread, reached}
use Rattle.page.specs.Filters.{Filter, invert, curve, box_blur, edges, filtered, mean, change, row_sum, window_start, window_size}
use Rattle.page.specs.Agree.{Same, LayerAgree, LayersAgree}
use Rattle.pixel.specs.Pixels.{channel_of, similar}

-- sums over a row and over a square of the page
row_sum_same : (f g : ℕ → ℕ) (a n : ℕ) → ((k : ℕ) → k < a + n → f k ≡ g k) → row_sum f a n ≡ row_sum g a n
row_sum_same f g a zero h = refl
row_sum_same f g a (suc n) h = ap₂ ◌+◌ (h a (omega arith)) (row_sum_same f g (suc a) n (λ k lt. h k (omega arith)))

window_inside : (r a n : ℕ) → a < n → window_start r a + window_size r a n ≤ n
window_inside r a n lt = omega arith

mean_same : (w h r : ℕ) (f g : ℕ → ℕ → ℕ) → Same w h f g → Same w h (mean f r w h) (mean g r w h)
unfolding mean
mean_same w h r f g s i j iw jh =
    ap (λ n. n / (window_size r i w * window_size r j h))
    (row_sum_same (λ b. row_sum (λ a. f a b) (window_start r i) (window_size r i w)) (λ b. row_sum (λ a. g a b) (window_start r i) (window_size r i w))
    (window_start r j) (window_size r j h)
    (λ b bh. row_sum_same (λ a. f a b) (λ a. g a b) (window_start r i) (window_size r i w)
    (λ a aw. s a b (omega (arith, window_inside r i w iw)) (omega (arith, window_inside r j h jh)))))

change_same : (w h : ℕ) (f g : ℕ → ℕ → ℕ) → Same w h f g → Same w h (change f w h) (change g w h)
unfolding change
change_same w h f g s i j iw jh =
    let here = s i j iw jh in
    let next = s (min (suc i) (w - 1)) j (omega arith) jh in
    let below = s i (min (suc j) (h - 1)) iw (omega arith) in
    rw (here, next, below) refl

pub filtered_same : (e : Filter) (w h : ℕ) (f g : Picture) → Same w h f g → Same w h (filtered e w h f) (filtered e w h g)
filtered_same invert w h f g s i j iw jh = rw (s i j iw jh) refl
filtered_same (curve t) w h f g s i j iw jh = rw (s i j iw jh) refl
filtered_same (box_blur r) w h f g s i j iw jh =
    let part : (k : ℕ) → mean (λ a b. channel_of k (f a b)) r w h i j ≡ mean (λ a b. channel_of k (g a b)) r w h i j
    = λ k. mean_same w h r (λ a b. channel_of k (f a b)) (λ a b. channel_of k (g a b)) (λ a b aw bh. ap (channel_of k) (s a b aw bh)) i j iw jh in
    rw (part 0, part 1, part 2, part 3) refl
filtered_same edges w h f g s i j iw jh =
    let part : (k : ℕ) → change (λ a b. channel_of k (f a b)) w h i j ≡ change (λ a b. channel_of k (g a b)) w h i j
    = λ k. change_same w h (λ a b. channel_of k (f a b)) (λ a b. channel_of k (g a b)) (λ a b aw bh. ap (channel_of k) (s a b aw bh)) i j iw jh in
    rw (part 0, part 1, part 2, s i j iw jh) refl

-- floods: beyond the page nothing is reached, and on it only pixels of the page are looked at
and_same : (t a b : Bool) → (t ≡ true → a ≡ b) → (t && a) ≡ (t && b)
and_same true a b h = h refl
and_same false a b h = refl

spread_same : (w h n x y : ℕ) (f g : Picture) → Same w h f g → x < w → y < h → (r : ℕ → ℕ → Bool) → spread f w h n x y r ≡ spread g w h n x y r
unfolding spread
spread_same w h n x y f g s xw yh r =
    fun_ext (λ i. fun_ext (λ j. and_same (ltb i w && ltb j h) _ _
    (λ e. let inside = and_parts (ltb i w) (ltb j h) e in
    ap (λ t. t && beside r i j) (ap₂ (similar n) (s i j (ltb-true i w inside.0) (ltb-true j h inside.1)) (s x y xw yh)))))

pub reached_same : (w h n x y : ℕ) (f g : Picture) → Same w h f g → x < w → y < h → (k : ℕ) → reached f w h n x y k ≡ reached g w h n x y k
reached_same w h n x y f g s xw yh zero = refl
reached_same w h n x y f g s xw yh (suc k) =
    ap (spread f w h n x y) (reached_same w h n x y f g s xw yh k) ∙ spread_same w h n x y f g s xw yh (reached g w h n x y k)

-- layers one on the other
pub composite_same : (w h : ℕ) (ls ms : List Layer) (f g : Picture) → LayersAgree w h ls ms → Same w h f g → Same w h (composite ls f) (composite ms g)
composite_same w h [] [] f g a s = s
composite_same w h [] (m ∷ ms) f g a s = absurd a
composite_same w h (l ∷ ls) [] f g a s = absurd a
composite_same w h (l ∷ ls) (m ∷ ms) f g a s =
    composite_same w h ls ms (λ i j. layer_over l i j (f i j)) (λ i j. layer_over m i j (g i j)) a.1
    (λ i j iw jh. let below = s i j iw jh in let here = a.0.same_pixels i j iw jh in
    rw (below, here, a.0.same_mode, a.0.same_opacity, a.0.same_visible) refl)

-- layers put in, taken out, set and read
module _ (w h : ℕ) where
  pub layer_at : (ls ms : List Layer) (k : ℕ) → LayersAgree w h ls ms → LayerAgree w h (get_or ls k clear_layer) (get_or ms k clear_layer)
  layer_at [] [] k a = record { same_mode = refl; same_opacity = refl; same_visible = refl; same_pixels = λ i j iw jh. refl }
  layer_at [] (m ∷ ms) k a = absurd a
  layer_at (l ∷ ls) [] k a = absurd a
  layer_at (l ∷ ls) (m ∷ ms) zero a = a.0
  layer_at (l ∷ ls) (m ∷ ms) (suc k) a = layer_at ls ms k a.1

  pub set_agree : (ls ms : List Layer) (k : ℕ) (l m : Layer) → LayersAgree w h ls ms → LayerAgree w h l m → LayersAgree w h (set ls k l) (set ms k m)
  set_agree [] [] k l m a b = tt
  set_agree [] (y ∷ ms) k l m a b = absurd a
  set_agree (x ∷ ls) [] k l m a b = absurd a
  set_agree (x ∷ ls) (y ∷ ms) zero l m a b = (b, a.1)
  set_agree (x ∷ ls) (y ∷ ms) (suc k) l m a b = (a.0, set_agree ls ms k l m a.1 b)

  pub put_in_agree : (ls ms : List Layer) (k : ℕ) (l m : Layer) → LayersAgree w h ls ms → LayerAgree w h l m → LayersAgree w h (put_in k l ls) (put_in k m ms)
  put_in_agree ls ms zero l m a b = (b, a)
  put_in_agree [] [] (suc k) l m a b = (b, tt)
  put_in_agree [] (y ∷ ms) (suc k) l m a b = absurd a
  put_in_agree (x ∷ ls) [] (suc k) l m a b = absurd a
  put_in_agree (x ∷ ls) (y ∷ ms) (suc k) l m a b = (a.0, put_in_agree ls ms k l m a.1 b)

  pub without_agree : (ls ms : List Layer) (k : ℕ) → LayersAgree w h ls ms → LayersAgree w h (without k ls) (without k ms)
  without_agree [] [] k a = tt
  without_agree [] (y ∷ ms) k a = absurd a
  without_agree (x ∷ ls) [] k a = absurd a
  without_agree (x ∷ ls) (y ∷ ms) zero a = a.1
  without_agree (x ∷ ls) (y ∷ ms) (suc k) a = (a.0, without_agree ls ms k a.1)

  -- layer by layer
  pub layers_by : (ls ms : List Layer) → length ls ≡ length ms → ((k : ℕ) → k < length ls → LayerAgree w h (get_or ls k clear_layer) (get_or ms k clear_layer)) → LayersAgree w h ls ms
  layers_by [] [] e f = tt
  layers_by [] (m ∷ ms) e f = absurd (omega arith)
  layers_by (l ∷ ls) [] e f = absurd (omega arith)
  layers_by (l ∷ ls) (m ∷ ms) e f = (f 0 (omega arith), layers_by ls ms (omega arith) (λ k lt. f (suc k) (omega arith)))
