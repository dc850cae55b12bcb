-- Pictures and layers, and what is seen of layers one on the other. Assumes nothing.
use Rattle.std.specs.Prelude.{ℕ, zero, suc, Bool, true, if◌then◌else◌, List, [], ◌∷◌}
use Rattle.pixel.specs.declared.Pixel.{Pixel}
use Rattle.pixel.specs.Pixels.{clear, pixel_over}

-- a picture: a pixel for every column and row of the page; what it gives beyond the page is never used
abbrev pub Picture : Type 0
Picture = ℕ → ℕ → Pixel

-- a layer: its picture, its blend mode, its opacity, and whether it is visible
pub record Layer : Type 0 where
  pub pixels : Picture
  pub mode : ℕ
  pub opacity : ℕ
  pub visible : Bool

abbrev pub clear_layer : Layer
clear_layer = record { pixels = λ i j. clear; mode = 0; opacity = 255; visible = true }

abbrev pub painted : Layer → Picture → Layer
painted l f = record { pixels = f; mode = l.mode; opacity = l.opacity; visible = l.visible }

abbrev pub layer_over : Layer → ℕ → ℕ → Pixel → Pixel
layer_over l i j d = if l.visible then pixel_over l.mode l.opacity (l.pixels i j) d else d

-- the visible layers one after the other, from below, on a picture
abbrev pub composite : List Layer → Picture → Picture
composite [] f = f
composite (l ∷ ls) f = composite ls (λ i j. layer_over l i j (f i j))

-- a layer put in before the k-th, and the k-th taken out
abbrev pub put_in : ℕ → Layer → List Layer → List Layer
put_in zero l ls = l ∷ ls
put_in (suc k) l [] = l ∷ []
put_in (suc k) l (m ∷ ms) = m ∷ put_in k l ms

abbrev pub without : ℕ → List Layer → List Layer
without k [] = []
without zero (l ∷ ls) = ls
without (suc k) (l ∷ ls) = l ∷ without k ls
