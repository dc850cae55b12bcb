-- That bytes can carry an edit is a fact with one proof, so it can be kept as a bare fact. Assumes nothing.
use mathlib.Core.Logic.{∥∥₁_elim}
use denote.Struct.Props.{props}
use Rattle.pixel.specs.declared.Pixel.{Pixel}
use Rattle.pixel.specs.Pixels.{PixelFits}
use Rattle.page.specs.Edits.{Edit, add_layer, drop_layer, choose_layer, raise_layer, set_mode, set_opacity, set_visible, merge_down, select_all, select_rect, select_similar, select_inverse, fill, stroke, apply_filter, copy, paste}
use Rattle.page.specs.Filters.{Filter, invert, curve, box_blur, edges}
use Rattle.page.specs.Fits.{Fits, FilterFits}

pixel_known : (d : Pixel) {B : Type 0} → ∥ B ∥₁ → (B → PixelFits d) → PixelFits d
pixel_known d b f =
    record {
      red_fits = ∥∥₁_elim b (hlevel props) (λ x. (f x).red_fits);
      green_fits = ∥∥₁_elim b (hlevel props) (λ x. (f x).green_fits);
      blue_fits = ∥∥₁_elim b (hlevel props) (λ x. (f x).blue_fits);
      alpha_fits = ∥∥₁_elim b (hlevel props) (λ x. (f x).alpha_fits);
    }

filter_known : (f : Filter) → ∥ FilterFits f ∥₁ → FilterFits f
filter_known invert b = tt
filter_known (curve t) b = ∥∥₁_elim b (hlevel props) (λ x. x)
filter_known (box_blur r) b = ∥∥₁_elim b (hlevel props) (λ x. x)
filter_known edges b = tt

pub known : (e : Edit) → ∥ Fits e ∥₁ → Fits e
known add_layer b = tt
known drop_layer b = tt
known (choose_layer k) b = ∥∥₁_elim b (hlevel props) (λ x. x)
known raise_layer b = tt
known (set_mode m) b = ∥∥₁_elim b (hlevel props) (λ x. x)
known (set_opacity a) b = ∥∥₁_elim b (hlevel props) (λ x. x)
known (set_visible v) b = tt
known merge_down b = tt
known select_all b = tt
known (select_rect x y w h) b = ∥∥₁_elim b (hlevel props) (λ f. f)
known (select_similar n x y) b = ∥∥₁_elim b (hlevel props) (λ f. f)
known select_inverse b = tt
known (fill d) b = pixel_known d b (λ x. x)
known (stroke d r ats) b = (
  pixel_known d b (λ x. x.0),
  ∥∥₁_elim b (hlevel props) (λ x. x.1),
  ∥∥₁_elim b (hlevel props) (λ x. x.2),
  ∥∥₁_elim b (hlevel props) (λ x. x.3),
)
known (apply_filter f) b = filter_known f b
known copy b = tt
known (paste x y) b = ∥∥₁_elim b (hlevel props) (λ f. f)
