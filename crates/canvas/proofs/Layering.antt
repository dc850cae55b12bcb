-- One more layer on what is seen of those below it. Assumes nothing.
use Rattle.std.proofs.Common.{◌≡◌, ℕ, ◌+◌, ◌<◌, List, [], ◌∷◌, ◌++◌, length, get_or, take, refl, ap, ◌∙◌}
use Rattle.std.proofs.lemmas.List.{map_more}
use Rattle.page.specs.Layers.{Layer, Picture, layer_over, composite}
use Rattle.canvas.specs.View.{layer_of, layers_of}
use Rattle.canvas.specs.declared.state.Layer.{Layer as Entry}

composite_push : (ls : List Layer) (l : Layer) (f : Picture) (i j : ℕ) → composite (ls ++ l ∷ []) f i j ≡ layer_over l i j (composite ls f i j)
composite_push [] l f i j = refl
composite_push (m ∷ ms) l f i j = composite_push ms l (λ x y. layer_over m x y (f x y)) i j

pub composite_more : (w h : ℕ) (xs : List ℕ) (ls : List Entry) (k : ℕ) (d : Entry) (f : Picture) (i j : ℕ) → k < length ls →
    composite (layers_of w h xs (take (k + 1) ls)) f i j ≡ layer_over (layer_of w h xs (get_or ls k d)) i j (composite (layers_of w h xs (take k ls)) f i j)
composite_more w h xs ls k d f i j l =
    ap (λ ms. composite ms f i j) (map_more (layer_of w h xs) ls k d l) ∙ composite_push (layers_of w h xs (take k ls)) (layer_of w h xs (get_or ls k d)) f i j
