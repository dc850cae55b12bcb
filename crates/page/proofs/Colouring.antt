-- All parts of colours stay below 256, in every layer, in the clipboard and in what is seen, whatever edits that fit come to pass. Assumes nothing.
use Rattle.std.proofs.Common.{◌≡◌, ℕ, zero, suc, ◌-◌, ◌*◌, ◌≤◌, Bool, true, false, cond, ◌&&◌, eqb, ltb, leb, List, [], ◌∷◌, get_or, arith}
use Rattle.std.specs.List.{AllByRecursion}
use Rattle.std.proofs.lemmas.Bool.{ltb-true, cond_both}
use Rattle.std.proofs.ByRecursion.{All-set}
use Rattle.page.specs.Layers.{Picture, Layer, clear_layer, layer_over, composite, put_in, without}
use Rattle.page.specs.Selection.{reached, under_stroke, mask_of}
use Rattle.page.specs.Edits.{Page, Edit, edited, blank, after, layer, active_layer, with_layers, with_layer, with_selected, on_active, pasted, merged_layer, add_layer, drop_layer, choose_layer, raise_layer, set_mode, set_opacity, set_visible, merge_down, select_all, select_rect, select_similar, select_inverse, fill, stroke, apply_filter, copy, paste}
use Rattle.page.specs.History.{Turn, History, does, undo, redo, empty, turns, undone_once, redone_once, in_order, page}
use Rattle.page.specs.Fits.{Fits, AllFit}
use Rattle.page.specs.Laws.{Colours}
use Rattle.pixel.proofs.Bounds.{clear_fits, white_fits, cond_fits, pixel_over_fits, pixel_lerp_fits, merged_fits}
use Rattle.page.proofs.Bounds.{filtered_fits}
use Rattle.pixel.specs.Pixels.{PixelFits, clear, white}

-- a picture, a layer and a page whose parts of colours are all below 256
abbrev PictureFits : Picture → Type 0
PictureFits f = (i j : ℕ) → PixelFits (f i j)

record LayerFits (l : Layer) : Type 0 where
  pixels_fit : PictureFits l.pixels
  opacity_fits : l.opacity ≤ 255

record PageFits (p : Page) : Type 0 where
  layers_fit : AllByRecursion LayerFits p.layers
  selected_fits : (i j : ℕ) → p.selected i j ≤ 255
  clipboard_fits : PictureFits p.clipboard

clear_layer_fits : LayerFits clear_layer
clear_layer_fits = record { pixels_fit = λ i j. clear_fits; opacity_fits = omega arith }

composite_fits : (ls : List Layer) (f : Picture) → AllByRecursion LayerFits ls → PictureFits f → PictureFits (composite ls f)
composite_fits [] f a s = s
composite_fits (l ∷ ls) f a s =
    composite_fits ls (λ i j. layer_over l i j (f i j)) a.1
    (λ i j. cond_fits l.visible _ (f i j) (pixel_over_fits l.mode l.opacity (l.pixels i j) (f i j) a.0.opacity_fits (a.0.pixels_fit i j) (s i j)) (s i j))

layer_fits_at : (ls : List Layer) (k : ℕ) → AllByRecursion LayerFits ls → LayerFits (get_or ls k clear_layer)
layer_fits_at [] k a = clear_layer_fits
layer_fits_at (l ∷ ls) zero a = a.0
layer_fits_at (l ∷ ls) (suc k) a = layer_fits_at ls k a.1

put_in_fits : (k : ℕ) (l : Layer) (ls : List Layer) → LayerFits l → AllByRecursion LayerFits ls → AllByRecursion LayerFits (put_in k l ls)
put_in_fits zero l ls f a = (f, a)
put_in_fits (suc k) l [] f a = (f, tt)
put_in_fits (suc k) l (m ∷ ms) f a = (a.0, put_in_fits k l ms f a.1)

without_fits : (k : ℕ) (ls : List Layer) → AllByRecursion LayerFits ls → AllByRecursion LayerFits (without k ls)
without_fits k [] a = tt
without_fits zero (l ∷ ls) a = a.1
without_fits (suc k) (l ∷ ls) a = (a.0, without_fits k ls a.1)

-- an edit of a page that fits
module _ (p : Page) (s : PageFits p) where
  top_fits : LayerFits (active_layer p)
  top_fits = layer_fits_at p.layers p.active s.layers_fit

  layers_done : (ls : List Layer) (k : ℕ) → AllByRecursion LayerFits ls → PageFits (with_layers p ls k)
  layers_done ls k a = record { layers_fit = a; selected_fits = s.selected_fits; clipboard_fits = s.clipboard_fits }

  layer_done : (l : Layer) → LayerFits l → PageFits (with_layer p l)
  layer_done l f = layers_done _ _ (All-set LayerFits p.layers p.active l f s.layers_fit)

  painted_done : (f : Picture) → PictureFits f → PageFits (on_active p f)
  painted_done f g =
      layer_done _ (record {
        pixels_fit = λ i j. pixel_lerp_fits (p.selected i j) (f i j) ((active_layer p).pixels i j) (s.selected_fits i j) (g i j) (top_fits.pixels_fit i j);
        opacity_fits = top_fits.opacity_fits;
      })

  selected_done : (f : ℕ → ℕ → ℕ) → ((i j : ℕ) → f i j ≤ 255) → PageFits (with_selected p f)
  selected_done f g = record { layers_fit = s.layers_fit; selected_fits = g; clipboard_fits = s.clipboard_fits }

  if_done : (b : Bool) (q : Page) → (b ≡ true → PageFits q) → PageFits (cond b q p)
  if_done b q f = cond_both b q p PageFits f (λ _. s)

  mask_most : (b : Bool) → mask_of b ≤ 255
  mask_most true = omega arith
  mask_most false = omega arith

  edit_fits : (e : Edit) → Fits e → PageFits (edited p e)
  edit_fits add_layer f = if_done _ _ (λ _. layers_done _ _ (put_in_fits (suc p.active) clear_layer p.layers clear_layer_fits s.layers_fit))
  edit_fits drop_layer f = if_done _ _ (λ _. layers_done _ _ (without_fits p.active p.layers s.layers_fit))
  edit_fits (choose_layer k) f = if_done _ _ (λ _. layers_done _ _ s.layers_fit)
  edit_fits raise_layer f =
      if_done _ _ (λ _. layers_done _ _ (put_in_fits (suc p.active) (active_layer p) (without p.active p.layers) top_fits (without_fits p.active p.layers s.layers_fit)))
  edit_fits (set_mode m) f = if_done _ _ (λ _. layer_done _ (record { pixels_fit = top_fits.pixels_fit; opacity_fits = top_fits.opacity_fits }))
  edit_fits (set_opacity a) f =
      if_done (ltb a 256) _ (λ e. layer_done _ (record { pixels_fit = top_fits.pixels_fit; opacity_fits = omega (arith, ltb-true a 256 e) }))
  edit_fits (set_visible b) f = layer_done _ (record { pixels_fit = top_fits.pixels_fit; opacity_fits = top_fits.opacity_fits })
  edit_fits merge_down f =
      if_done _ _ (λ _. layers_done _ _ (All-set LayerFits (without p.active p.layers) (p.active - 1) (merged_layer p)
      (record {
        pixels_fit = λ i j. merged_fits (active_layer p).opacity ((active_layer p).pixels i j) ((layer p (p.active - 1)).pixels i j);
        opacity_fits = (layer_fits_at p.layers (p.active - 1) s.layers_fit).opacity_fits;
      })
      (without_fits p.active p.layers s.layers_fit)))
  edit_fits select_all f = selected_done _ (λ i j. omega arith)
  edit_fits (select_rect x y w h) f = selected_done _ (λ i j. mask_most _)
  edit_fits (select_similar n x y) f =
      if_done (ltb x p.wide && ltb y p.high) _ (λ _. selected_done _ (λ i j. mask_most (reached (active_layer p).pixels p.wide p.high n x y (p.wide * p.high) i j)))
  edit_fits select_inverse f = selected_done _ (λ i j. omega arith)
  edit_fits (fill d) f = painted_done _ (λ i j. f)
  edit_fits (stroke d r ats) f = painted_done _ (λ i j. cond_fits (under_stroke r ats i j) d _ f.0 (top_fits.pixels_fit i j))
  edit_fits (apply_filter g) f = painted_done _ (filtered_fits g p.wide p.high (active_layer p).pixels f top_fits.pixels_fit)
  edit_fits copy f =
      record {
        layers_fit = s.layers_fit;
        selected_fits = s.selected_fits;
        clipboard_fits = λ i j. cond_fits (eqb (p.selected i j) 0) clear _ clear_fits (top_fits.pixels_fit i j);
      }
  edit_fits (paste x y) f =
      painted_done (pasted p x y) (λ i j. cond_fits ((leb x i && leb y j) && (ltb (i - x) p.wide && ltb (j - y) p.high)) _ _
      (cond_fits (eqb (p.clipboard (i - x) (j - y)).alpha 0) _ _ (top_fits.pixels_fit i j) (s.clipboard_fits (i - x) (j - y))) (top_fits.pixels_fit i j))

after_fits : (p : Page) (es : List Edit) → PageFits p → AllByRecursion Fits es → PageFits (after p es)
after_fits p [] s a = s
after_fits p (e ∷ es) s a = after_fits (edited p e) es (edit_fits p s e a.0) a.1

-- the edits of a history all fit
record HistoryFits (b : History) : Type 0 where
  done_fit : AllByRecursion Fits b.done
  undone_fit : AllByRecursion Fits b.undone

undo_fits : (es : List Edit) (b : History) → AllByRecursion Fits es → HistoryFits b → HistoryFits (undone_once es b)
undo_fits [] b a s = s
undo_fits (e ∷ es) b a s = record { done_fit = a.1; undone_fit = (a.0, s.undone_fit) }

redo_fits : (es : List Edit) (b : History) → AllByRecursion Fits es → HistoryFits b → HistoryFits (redone_once es b)
redo_fits [] b a s = s
redo_fits (e ∷ es) b a s = record { done_fit = (a.0, s.done_fit); undone_fit = a.1 }

turns_fit : (built : ℕ → Bool) (b : History) (ts : List Turn) → AllFit built ts → HistoryFits b → HistoryFits (turns b ts)
turns_fit built b [] a s = s
turns_fit built b (does e ∷ ts) a s = turns_fit built _ ts a.2 (record { done_fit = (a.0, s.done_fit); undone_fit = tt })
turns_fit built b (undo ∷ ts) a s = turns_fit built _ ts a (undo_fits b.done b s.done_fit s)
turns_fit built b (redo ∷ ts) a s = turns_fit built _ ts a (redo_fits b.undone b s.undone_fit s)

in_order_fits : (xs es : List Edit) → AllByRecursion Fits xs → AllByRecursion Fits es → AllByRecursion Fits (in_order xs es)
in_order_fits [] es a b = b
in_order_fits (x ∷ xs) es a b = in_order_fits xs (x ∷ es) a.1 (a.0, b)

page_fits : (w h : ℕ) (built : ℕ → Bool) (ts : List Turn) → AllFit built ts → PageFits (page w h ts)
unfolding page
page_fits w h built ts a =
    after_fits (blank w h) _ (record { layers_fit = (clear_layer_fits, tt); selected_fits = λ i j. omega arith; clipboard_fits = λ i j. clear_fits })
    (in_order_fits (turns empty ts).done [] (turns_fit built empty ts a (record { done_fit = tt; undone_fit = tt })).done_fit tt)

pub colours : Colours
colours w h i j built ts a iw jh =
    let s = page_fits w h built ts a in (
      composite_fits (page w h ts).layers (λ x y. white) s.layers_fit (λ x y. white_fits) i j,
      λ k. (layer_fits_at (page w h ts).layers k s.layers_fit).pixels_fit i j,
      s.clipboard_fits i j,
    )
