-- From the bytes that an operation leaves to the page that they mean. Assumes nothing.
use Rattle.std.proofs.Common.{◌≡◌, ℕ, ◌+◌, ◌*◌, ◌<◌, ◌≤◌, ◌≢◌, ◌⊎◌, List, [], ◌∷◌, length, get_or, take, set, sym, refl, ap, ◌∙◌, subst, inl, inr, le_refl, arith, length-set, get_or-set_other, get_or-set_same}
use Rattle.std.proofs.lemmas.Nat.{mul-le, mul-add-lt}
use Rattle.std.proofs.lemmas.List.{length-map, length-take-le, get_or-map, get_or-take}
use Rattle.std.proofs.lemmas.Bool.{cases_eq, cases_order}
use Rattle.pixel.specs.declared.Pixel.{Pixel}
use Rattle.pixel.specs.declared.sizes.Size.{Size}
use Rattle.pixel.specs.Bytes.{pixel_at, PixelsTo, BytesTo, Wrote}
use Rattle.pixel.specs.Pixels.{clear, pixel_lerp}
use Rattle.pixel.proofs.Steps.{pixel_kept, pixel_before, pixels_wrote, bytes_wrote}
use Rattle.page.specs.Layers.{Picture, Layer, clear_layer, painted}
use Rattle.page.specs.Edits.{Edit, edited, fill, blank, layer, active_layer, with_layer, with_selected}
use Rattle.page.specs.Agree.{Same, LayerAgree, LayersAgree, Agree}
use Rattle.page.proofs.Same.{layers_by}
use Rattle.canvas.specs.declared.state.Layer.{Layer as Entry}
use Rattle.canvas.specs.declared.state.Canvas.{Canvas}
use Rattle.canvas.specs.Rows.{RowsTo}
use Rattle.canvas.specs.View.{plane_at, selection_at, clipboard_at, fresh, no_entry, layer_of, view, FreshCanvas, BlankMade, Reselected, PlaneEdited}

-- a plane lies below the selection, and two planes lie apart
pub plane_in : (n k : ℕ) → k < 64 → plane_at n k + 4 * n ≤ 256 * n
plane_in n k l = omega (arith, mul-le n (k + 1) n 64 (le_refl n) (omega arith))

pub two_planes : (n k m : ℕ) → k ≢ m → (plane_at n k + 4 * n ≤ plane_at n m) ⊎ (plane_at n m + 4 * n ≤ plane_at n k)
two_planes n k m ne =
    elim (cases_order k m) [
      | inl e ↦ absurd (ne e)
      | inr o ↦ elim o [
        | inl lt ↦ inl (omega (arith, mul-le n (k + 1) n m (le_refl n) (omega arith)))
        | inr gt ↦ inr (omega (arith, mul-le n (m + 1) n k (le_refl n) (omega arith)))
      ]
    ]

pub planes_apart : (n k m q : ℕ) → k ≢ m → q < n → (plane_at n k + 4 * q + 4 ≤ plane_at n m) ⊎ (plane_at n m + 4 * n ≤ plane_at n k + 4 * q)
planes_apart n k m q ne l = elim (two_planes n k m ne) [ inl u ↦ inl (omega arith) | inr u ↦ inr (omega arith) ]

module _ (s : Canvas) where
  abbrev w : ℕ
  w = s.size.wide

  abbrev h : ℕ
  h = s.size.high

  abbrev n : ℕ
  n = s.size.wide * s.size.high

  abbrev entry : ℕ → Entry
  entry k = get_or s.layers k no_entry

  -- the k-th layer of the page is that of the k-th entry
  pub view_layer : (xs : List ℕ) (k : ℕ) → k < s.count → layer (view s xs) k ≡ layer_of w h xs (entry k)
  view_layer xs k l =
      let f = layer_of w h xs in
      let few : s.count ≤ length s.layers = omega (arith, s.full, s.counted.1) in
      let m : k < length (take s.count s.layers) = omega (arith, length-take-le s.count s.layers few) in
      get_or-map f (take s.count s.layers) k no_entry clear_layer m ∙ ap f (get_or-take s.count s.layers k no_entry l)

  pub view_count : (xs : List ℕ) → length (view s xs).layers ≡ s.count
  view_count xs = length-map (take s.count s.layers) (layer_of w h xs) ∙ length-take-le s.count s.layers (omega (arith, s.full, s.counted.1))

  entry_agree : (xs ys : List ℕ) (k : ℕ) → Same w h (layer_of w h ys (entry k)).pixels (layer_of w h xs (entry k)).pixels → LayerAgree w h (layer_of w h ys (entry k)) (layer_of w h xs (entry k))
  entry_agree xs ys k same = record { same_mode = refl; same_opacity = refl; same_visible = refl; same_pixels = same }

  -- layers of which each keeps its pixels
  pub layers_kept : (xs ys : List ℕ) → ((k : ℕ) → k < s.count → Same w h (layer_of w h ys (entry k)).pixels (layer_of w h xs (entry k)).pixels) → LayersAgree w h (view s ys).layers (view s xs).layers
  layers_kept xs ys same =
      layers_by w h (view s ys).layers (view s xs).layers (view_count ys ∙ sym (view_count xs))
      (λ k l. let lt : k < s.count = omega (arith, view_count ys) in
      subst (λ (a : Layer). LayerAgree w h a (layer (view s xs) k)) (sym (view_layer ys k lt))
      (subst (λ (b : Layer). LayerAgree w h (layer_of w h ys (entry k)) b) (sym (view_layer xs k lt)) (entry_agree xs ys k (same k lt))))

  -- Bytes between the planes and the selection are no part of the page.
  pub view_kept : (xs ys : List ℕ) (a e : ℕ) → 256 * n ≤ a → e ≤ 516 * n → Wrote a e xs ys → Agree (view s ys) (view s xs)
  view_kept xs ys a e low high so =
      record {
        same_wide = refl;
        same_high = refl;
        same_active = refl;
        same_layers = layers_kept xs ys (λ k l i j iw jh. pixel_kept _ _ xs ys _ so
            (inl (omega (arith, plane_in n (entry k).plane (s.planes k no_entry (omega (arith, s.full, s.counted.1))), mul-add-lt j w i h jh iw))));
        same_selected = λ i j iw jh. so.after _ (omega arith);
        same_clipboard = λ i j iw jh. pixel_kept _ _ xs ys _ so (inr (omega arith));
      }

  -- A selection: bytes of its part alone are written, and they are g's.
  pub selection_view : (xs ys : List ℕ) (g : ℕ → ℕ → ℕ) → Wrote (selection_at n) (clipboard_at n) xs ys →
      ((i j : ℕ) → i < w → j < h → get_or ys (selection_at n + (j * w + i)) 0 ≡ g i j) → Agree (view s ys) (with_selected (view s xs) g)
  selection_view xs ys g so is =
      record {
        same_wide = refl;
        same_high = refl;
        same_active = refl;
        same_layers = layers_kept xs ys (λ k l i j iw jh. pixel_kept _ _ xs ys _ so
            (inl (omega (arith, plane_in n (entry k).plane (s.planes k no_entry (omega (arith, s.full, s.counted.1))), mul-add-lt j w i h jh iw))));
        same_selected = is;
        same_clipboard = λ i j iw jh. pixel_kept _ _ xs ys _ so (inr (omega arith));
      }

  -- An edit of the active layer: bytes of its plane alone are written, and they are f's.
  pub plane_view : (xs ys : List ℕ) (f : Picture) → Wrote (plane_at n (entry s.active).plane) (plane_at n (entry s.active).plane + 4 * n) xs ys →
      ((i j : ℕ) → i < w → j < h → pixel_at ys (plane_at n (entry s.active).plane + 4 * (j * w + i)) ≡ f i j) →
      Agree (view s ys) (with_layer (view s xs) (painted (active_layer (view s xs)) f))
  plane_view xs ys f so is =
      let a = s.active in
      let at : active_layer (view s xs) ≡ layer_of w h xs (entry a) = view_layer xs a s.counted.0 in
      let low = plane_in n (entry a).plane (s.planes a no_entry (omega (arith, s.counted))) in
      let new : Layer = painted (active_layer (view s xs)) f in
      let here : LayerAgree w h (layer_of w h ys (entry a)) new
      = record { same_mode = sym (ap (λ (l : Layer). l.mode) at); same_opacity = sym (ap (λ (l : Layer). l.opacity) at); same_visible = sym (ap (λ (l : Layer). l.visible) at); same_pixels = is } in
      let other : (k : ℕ) → k < s.count → k ≢ a → LayerAgree w h (layer_of w h ys (entry k)) (layer_of w h xs (entry k))
      = λ k l ne. entry_agree xs ys k (λ i j iw jh. pixel_kept _ _ xs ys _ so
      (planes_apart n (entry k).plane (entry a).plane (j * w + i) (λ e. ne (s.distinct (k, a, no_entry) (omega (arith, s.full, s.counted.1), omega (arith, s.counted), e))) (omega (arith, mul-add-lt j w i h jh iw)))) in
      record {
        same_wide = refl;
        same_high = refl;
        same_active = refl;
        same_layers = layers_by w h (view s ys).layers (set (view s xs).layers a new)
            (view_count ys ∙ sym (length-set (view s xs).layers a new ∙ view_count xs))
            (λ k l. let lt : k < s.count = omega (arith, view_count ys) in
            subst (λ (b : Layer). LayerAgree w h b (get_or (set (view s xs).layers a new) k clear_layer)) (sym (view_layer ys k lt))
            (elim (cases_eq k a) [
              | inl e ↦ subst (λ (m : ℕ). LayerAgree w h (layer_of w h ys (entry m)) (get_or (set (view s xs).layers a new) m clear_layer)) (sym e)
                  (subst (λ (b : Layer). LayerAgree w h (layer_of w h ys (entry a)) b) (sym (get_or-set_same (view s xs).layers a new clear_layer (omega (arith, view_count xs, s.counted)))) here)
              | inr ne ↦ subst (λ (b : Layer). LayerAgree w h (layer_of w h ys (entry k)) b) (sym (get_or-set_other (view s xs).layers a k new clear_layer ne ∙ view_layer xs k lt)) (other k lt ne)
            ]));
        same_selected = λ i j iw jh. so.after _ (omega arith);
        same_clipboard = λ i j iw jh. pixel_kept _ _ xs ys _ so (inr (omega arith));
      }

  -- The same from what the loops leave, with the area as the code has it, in a variable m.
  pub bytes_reselected : (e : Edit) (m : ℕ) (xs ys : List ℕ) (f : ℕ → ℕ) (g : ℕ → ℕ → ℕ) → edited (view s xs) e ≡ with_selected (view s xs) g → m ≡ n →
      BytesTo f (516 * m) m xs ys → ((i j : ℕ) → i < w → j < h → f (j * w + i) ≡ g i j) → Reselected s e xs ys
  bytes_reselected e m xs ys f g by a so is =
      let at : BytesTo f (516 * n) n xs ys = subst (λ (k : ℕ). BytesTo f (516 * k) k xs ys) a so in
      let to : Wrote (selection_at n) (clipboard_at n) xs ys = record { long = at.long; before = at.before; after = λ q l. at.after q (omega arith) } in
      record { agrees = subst (Agree (view s ys)) (sym by) (selection_view xs ys g to (λ i j iw jh. at.written (j * w + i) (mul-add-lt j w i h jh iw) ∙ is i j iw jh)); wrote = to }

  pub rows_reselected : (e : Edit) (m : ℕ) (xs ys : List ℕ) (g : ℕ → ℕ → ℕ) → edited (view s xs) e ≡ with_selected (view s xs) g → m ≡ n → RowsTo g (516 * m) w h xs ys → Reselected s e xs ys
  rows_reselected e m xs ys g by a so =
      let at : RowsTo g (516 * n) w h xs ys = subst (λ (k : ℕ). RowsTo g (516 * k) w h xs ys) a so in
      let to : Wrote (selection_at n) (clipboard_at n) xs ys = record { long = at.long; before = at.before; after = λ q l. at.after q (omega arith) } in
      record { agrees = subst (Agree (view s ys)) (sym by) (selection_view xs ys g to at.written); wrote = to }

  pub filled : (m at : ℕ) (xs ys : List ℕ) (p : Pixel) → m ≡ n → at ≡ plane_at n (entry s.active).plane →
      PixelsTo (λ k. pixel_lerp (get_or xs (516 * m + k) 0) p (pixel_at xs (at + 4 * k))) at m xs ys → PlaneEdited s (fill p) xs ys
  filled m at xs ys p a b so =
      let base = plane_at n (entry s.active).plane in
      let to : PixelsTo (λ k. pixel_lerp (get_or xs (516 * n + k) 0) p (pixel_at xs (base + 4 * k))) base n xs ys
      = subst (λ (r : ℕ). PixelsTo (λ k. pixel_lerp (get_or xs (516 * n + k) 0) p (pixel_at xs (r + 4 * k))) r n xs ys) b
      (subst (λ (k : ℕ). PixelsTo (λ q. pixel_lerp (get_or xs (516 * k + q) 0) p (pixel_at xs (at + 4 * q))) at k xs ys) a so) in
      let wrote = pixels_wrote _ base n xs ys to in
      record {
        agrees = plane_view xs ys _ wrote (λ i j iw jh. to.written (j * w + i) (mul-add-lt j w i h jh iw)
            ∙ ap (λ (l : Layer). pixel_lerp (get_or xs (516 * n + (j * w + i)) 0) p (l.pixels i j)) (sym (view_layer xs s.active s.counted.0)));
        wrote = wrote;
      }

  -- One clear layer, all selected, a clear clipboard.
  pub blank_view : (ys : List ℕ) → s.count ≡ 1 → s.active ≡ 0 → entry 0 ≡ fresh 0 → ((q : ℕ) → q < n → pixel_at ys (0 + 4 * q) ≡ clear) →
      ((q : ℕ) → q < n → get_or ys (516 * n + q) 0 ≡ 255) → ((q : ℕ) → q < n → pixel_at ys (517 * n + 4 * q) ≡ clear) → Agree (view s ys) (blank w h)
  blank_view ys one low is pixels all copied =
      record {
        same_wide = refl;
        same_high = refl;
        same_active = low;
        same_layers = layers_by w h (view s ys).layers (clear_layer ∷ []) (view_count ys ∙ one)
            (λ k l. let zero : k ≡ 0 = omega (arith, view_count ys) in
            subst (λ (m : ℕ). LayerAgree w h (layer (view s ys) m) (get_or (clear_layer ∷ []) m clear_layer)) (sym zero)
            (subst (λ (b : Layer). LayerAgree w h b clear_layer) (sym (view_layer ys 0 (omega arith) ∙ ap (layer_of w h ys) is))
            (record {
              same_mode = refl;
              same_opacity = refl;
              same_visible = refl;
              same_pixels = λ i j iw jh. let at : plane_at n 0 + 4 * (j * w + i) ≡ 0 + 4 * (j * w + i) = omega arith in ap (pixel_at ys) at ∙ pixels (j * w + i) (mul-add-lt j w i h jh iw);
            })));
        same_selected = λ i j iw jh. all (j * w + i) (mul-add-lt j w i h jh iw);
        same_clipboard = λ i j iw jh. copied (j * w + i) (mul-add-lt j w i h jh iw);
      }

-- the blank page from what three loops leave
pub blanked : (z : Size) (m : ℕ) (s : Canvas) (xs ys zs us : List ℕ) → m ≡ z.wide * z.high → FreshCanvas z s → PixelsTo (λ k. clear) 0 m xs ys → BytesTo (λ k. 255) (516 * m) m ys zs →
    PixelsTo (λ k. clear) (517 * m) m zs us → BlankMade z xs us s
blanked z m s xs ys zs us e new so to up =
    let n : m ≡ s.size.wide * s.size.high = e ∙ sym (ap (λ (y : Size). y.wide * y.high) new.size_is) in
    let first : (q : ℕ) → q < m → pixel_at us (0 + 4 * q) ≡ clear
    = λ q l. pixel_before _ _ _ zs us (0 + 4 * q) up (omega arith) ∙ pixel_kept _ _ ys zs (0 + 4 * q) (bytes_wrote _ _ _ ys zs to) (inl (omega arith)) ∙ so.written q l in
    let middle : (q : ℕ) → q < m → get_or us (516 * m + q) 0 ≡ 255 = λ q l. up.before (516 * m + q) (omega arith) ∙ to.written q l in
    let view_is : Agree (view s us) (blank s.size.wide s.size.high)
    = blank_view s us new.one_layer new.lowest (new.own_planes 0 no_entry (omega arith)) (λ q l. first q (omega arith))
    (λ q l. ap (λ k. get_or us (516 * k + q) 0) (sym n) ∙ middle q (omega arith)) (λ q l. ap (λ k. pixel_at us (517 * k + 4 * q)) (sym n) ∙ up.written q (omega arith)) in
    record {
      canvas = new;
      agrees = subst (λ (y : Size). Agree (view s us) (blank y.wide y.high)) new.size_is view_is;
      long = up.long ∙ to.long ∙ so.long;
      between = λ q l u. up.before q (omega arith) ∙ to.before q (omega arith) ∙ so.after q (omega arith);
      beyond = λ q l. up.after q (omega arith) ∙ to.after q (omega arith) ∙ so.after q (omega arith);
    }
