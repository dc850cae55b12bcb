-- One field of the active layer's entry, or another active layer, as the page has it. Assumes nothing.
use Rattle.std.proofs.Common.{◌≡◌, ℕ, ◌<◌, List, map, length, get_or, take, set, sym, ap, ◌∙◌, subst, subst₂, arith}
use lib.Seq.{take-set-lt}
use Rattle.std.proofs.lemmas.List.{map-set}
use Rattle.std.proofs.lemmas.Bool.{lt-ltb}
use Rattle.pixel.specs.declared.modes.Mode.{Mode}
use Rattle.pixel.specs.declared.modes.Mode.TheVariants.{Normal, Multiply, Screen, Darken, Lighten, Add}
use Rattle.pixel.specs.Modes.{mode_number}
use Rattle.page.specs.Layers.{Layer}
use Rattle.page.specs.Edits.{Page, Edit, edited, active_layer, with_layers, with_layer, choose_layer}
use Rattle.page.specs.Agree.{Agree}
use Rattle.page.proofs.Agreeing.{agree_refl}
use Rattle.canvas.specs.declared.state.Layer.{Layer as Entry}
use Rattle.canvas.specs.declared.state.Canvas.{Canvas}
use Rattle.canvas.specs.View.{no_entry, layer_of, layers_of, view}
use Rattle.canvas.proofs.Arranged.{viewed, done}
use Rattle.canvas.proofs.Views.{view_layer, view_count}

pub mode_small : (m : Mode) → mode_number m < 6
mode_small Normal = omega arith
mode_small Multiply = omega arith
mode_small Screen = omega arith
mode_small Darken = omega arith
mode_small Lighten = omega arith
mode_small Add = omega arith

module _ (s : Canvas) where
  abbrev old : Entry
  old = get_or s.layers s.active no_entry

  abbrev changed : Entry → List ℕ → Page
  changed new xs = viewed s.size.wide s.size.high (set s.layers s.active new) s.count s.active xs

  -- an edit of that layer: g of it is laid as the new entry says
  pub entry_edited : (e : Edit) (new : Entry) (g : Layer → Layer) (xs : List ℕ) → layer_of s.size.wide s.size.high xs new ≡ g (layer_of s.size.wide s.size.high xs old) →
      edited (view s xs) e ≡ with_layer (view s xs) (g (active_layer (view s xs))) → Agree (changed new xs) (edited (view s xs) e)
  entry_edited e new g xs is so =
      let f = layer_of s.size.wide s.size.high xs in
      let a = s.active in
      let p = view s xs in
      let made : layers_of s.size.wide s.size.high xs (take s.count (set s.layers a new)) ≡ set p.layers a (g (active_layer p))
      = ap (map f) (take-set-lt s.count s.layers a new s.counted.0) ∙ map-set f (take s.count s.layers) a new ∙ ap (set p.layers a) (is ∙ ap g (sym (view_layer s xs a s.counted.0))) in
      subst₂ Agree (ap (λ (ls : List Layer). with_layers p ls a) (sym made)) (sym so) (agree_refl (with_layer p (g (active_layer p))))

  pub chosen : (m k : ℕ) (xs : List ℕ) → m ≡ k → k < s.count → Agree (viewed s.size.wide s.size.high s.layers s.count m xs) (edited (view s xs) (choose_layer k))
  chosen m k xs is l =
      let q = with_layers (view s xs) (view s xs).layers k in
      done _ (view s xs) q _ (lt-ltb k (length (view s xs).layers) (omega (arith, view_count s xs)))
      (subst (λ (n : ℕ). Agree (viewed s.size.wide s.size.high s.layers s.count n xs) q) (sym is) (agree_refl q))
