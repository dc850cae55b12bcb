-- From entries that changed places to the page that they mean: each edit of the layers. Assumes nothing.
use Rattle.std.proofs.Common.{◌≡◌, ℕ, suc, ◌+◌, ◌-◌, ◌*◌, ◌<◌, ◌≤◌, Bool, true, false, if◌then◌else◌, ◌≢◌, List, length, get_or, take, set, sym, refl, ap, ◌∙◌, subst, ap₂, subst₂, inl, inr, add-one, arith, length-set, get_or-set_other, get_or-set_same}
use mathlib.Core.Path.{subst₃}
use Rattle.std.proofs.lemmas.Nat.{mul-add-lt}
use Rattle.std.proofs.lemmas.List.{length-map, length-take-le, get_or-map, get_or-take}
use Rattle.std.proofs.lemmas.Bool.{cases_eq, cond-true, cond-false, lt-ltb, le-ltb}
use Rattle.pixel.specs.declared.sizes.Size.{Size}
use Rattle.pixel.specs.Bytes.{pixel_at, PixelsTo, Wrote}
use Rattle.pixel.specs.Pixels.{clear, merged}
use Rattle.pixel.proofs.Steps.{pixel_kept, pixels_wrote}
use Rattle.page.specs.Layers.{Layer, clear_layer, painted, put_in, without}
use Rattle.page.specs.Edits.{Page, Edit, edited, active_layer, with_layers, add_layer, drop_layer, choose_layer, raise_layer, set_mode, set_opacity, merge_down, merged_layer}
use Rattle.page.specs.Agree.{LayerAgree, Agree}
use Rattle.page.proofs.Agreeing.{agree_refl}
use Rattle.page.proofs.Same.{layers_by}
use Rattle.canvas.specs.declared.state.Layer.{Layer as Entry}
use Rattle.canvas.specs.declared.state.Canvas.{Canvas}
use Rattle.canvas.specs.View.{plane_at, selection_at, clipboard_at, fresh, no_entry, layer_of, layers_of, view}
use Rattle.canvas.specs.Arranging.{from_lowered, from_raised, Arranged, LayersEdited, LayersPainted, plane_start}
use Rattle.canvas.proofs.Moving.{first_lowered, lowered_other, raised_in, raised_below, raised_same}
use Rattle.canvas.proofs.Placing.{length-put_in, put_in_at, put_in_from, length_without, without_from, raised_from}
use Rattle.canvas.proofs.Views.{plane_in, planes_apart, view_layer, view_count}

-- nothing is written
wrote_none : (xs : List ℕ) → Wrote 0 0 xs xs
wrote_none xs = record { long = refl; before = λ q l. refl; after = λ q l. refl }

-- the page of a canvas by its fields
abbrev pub viewed : ℕ → ℕ → List Entry → ℕ → ℕ → List ℕ → Page
viewed w h ls n a xs =
    record {
      wide = w;
      high = h;
      layers = layers_of w h xs (take n ls);
      active = a;
      selected = λ i j. get_or xs (selection_at (w * h) + (j * w + i)) 0;
      clipboard = λ i j. pixel_at xs (clipboard_at (w * h) + 4 * (j * w + i));
    }

-- an edit that can be, and one that cannot
pub done : (t : Bool) (p q r : Page) → t ≡ true → Agree r q → Agree r (if t then q else p)
done t p q r e a = subst (Agree r) (sym (cond-true t q p e)) a

left : (t : Bool) (p q : Page) → t ≡ false → Agree p (if t then q else p)
left t p q e = subst (Agree p) (sym (cond-false t q p e)) (agree_refl p)

-- an edit that cannot be leaves everything
module _ (s : Canvas) (xs : List ℕ) where
  stays : (e : Edit) → Agree (view s xs) (edited (view s xs) e) → LayersEdited s e xs s xs
  stays e so = record { agrees = so; same_size = refl }

  pub not_added : 64 ≤ s.count → LayersPainted s add_layer s.count xs s xs
  not_added full =
      record {
        edit = stays add_layer (left _ (view s xs) _ (le-ltb (length (view s xs).layers) 64 (omega (arith, view_count s xs))));
        wrote = record { long = refl; before = λ q l. refl; after = λ q l. refl };
      }

  pub not_chosen : (k : ℕ) → s.count ≤ k → LayersEdited s (choose_layer k) xs s xs
  not_chosen k none = stays (choose_layer k) (left _ (view s xs) _ (le-ltb k (length (view s xs).layers) (omega (arith, view_count s xs))))

  pub not_raised : s.count ≤ s.active + 1 → LayersEdited s raise_layer xs s xs
  not_raised top = stays raise_layer (left _ (view s xs) _ (le-ltb (suc s.active) (length (view s xs).layers) (omega (arith, view_count s xs))))

  pub not_merged : s.active ≡ 0 → LayersPainted s merge_down (s.active - 1) xs s xs
  not_merged lowest =
      record {
        edit = stays merge_down (left _ (view s xs) _ (le-ltb 0 s.active (omega arith)));
        wrote = record { long = refl; before = λ q l. refl; after = λ q l. refl };
      }

  pub not_mode : (m : ℕ) → 5 < m → LayersEdited s (set_mode m) xs s xs
  not_mode m high = stays (set_mode m) (left _ (view s xs) _ (le-ltb m 6 (omega arith)))

  pub not_opacity : (a : ℕ) → 256 ≤ a → LayersEdited s (set_opacity a) xs s xs
  not_opacity a high = stays (set_opacity a) (left _ (view s xs) _ (le-ltb a 256 (omega arith)))

-- layers with another plane keep their pixels
kept_layer : (w h p : ℕ) (xs ys : List ℕ) → Wrote (plane_at (w * h) p) (plane_at (w * h) p + 4 * (w * h)) xs ys → (e : Entry) → e.plane ≢ p → LayerAgree w h (layer_of w h ys e) (layer_of w h xs e)
kept_layer w h p xs ys so e ne =
    record {
      same_mode = refl;
      same_opacity = refl;
      same_visible = refl;
      same_pixels = λ i j iw jh. pixel_kept _ _ xs ys _ so (planes_apart (w * h) e.plane p (j * w + i) ne (omega (arith, mul-add-lt j w i h jh iw)));
    }

-- a cleared plane is a clear layer's
cleared_layer : (w h p : ℕ) (xs ys : List ℕ) → PixelsTo (λ k. clear) (plane_at (w * h) p) (w * h) xs ys → LayerAgree w h (layer_of w h ys (fresh p)) clear_layer
cleared_layer w h p xs ys so =
    record { same_mode = refl; same_opacity = refl; same_visible = refl; same_pixels = λ i j iw jh. so.written (j * w + i) (mul-add-lt j w i h jh iw) }

agree_by : (w h : ℕ) (l l' m m' : Layer) → l ≡ l' → m ≡ m' → LayerAgree w h l' m' → LayerAgree w h l m
agree_by w h l l' m m' e f a = subst₂ (λ x y. LayerAgree w h x y) (sym e) (sym f) a

same_layer : (w h : ℕ) (l m : Layer) → l ≡ m → LayerAgree w h l m
same_layer w h l m e = agree_by w h l m m m e refl (record { same_mode = refl; same_opacity = refl; same_visible = refl; same_pixels = λ i j iw jh. refl })

module _ (s t : Canvas) where
  abbrev w : ℕ
  w = s.size.wide

  abbrev h : ℕ
  h = s.size.high

  abbrev entry : ℕ → Entry
  entry k = get_or s.layers k no_entry

  -- The page of the new canvas, layer by layer; of the bytes only planes may be written.
  page_is : (ls : List Entry) (f : ℕ → ℕ) (n a : ℕ) → Arranged s ls f n a t → length ls ≡ 64 → (xs ys : List ℕ) (b e : ℕ) → Wrote b e xs ys → e ≤ 256 * (w * h) →
      (qs : List Layer) (m : ℕ) → a ≡ m → length qs ≡ n → ((k : ℕ) → k < n → LayerAgree w h (layer_of w h ys (get_or ls (f k) no_entry)) (get_or qs k clear_layer)) →
      Agree (view t ys) (with_layers (view s xs) qs m)
  page_is ls f n a so long xs ys b e wrote low qs m am len each =
      let q = with_layers (view s xs) qs m in
      let ms = t.layers in
      let few : t.count ≤ length ms = omega (arith, t.full, t.counted.1) in
      let count : length (layers_of w h ys (take t.count ms)) ≡ t.count = length-map (take t.count ms) (layer_of w h ys) ∙ length-take-le t.count ms few in
      let at : (k : ℕ) → k < t.count → get_or (layers_of w h ys (take t.count ms)) k clear_layer ≡ layer_of w h ys (get_or ls (f k) no_entry)
      = λ k l. get_or-map (layer_of w h ys) (take t.count ms) k no_entry clear_layer (omega (arith, length-take-le t.count ms few))
      ∙ ap (layer_of w h ys) (get_or-take t.count ms k no_entry l ∙ so.entries.places k no_entry (omega (arith, so.entries.long))) in
      subst (λ (z : Size). Agree (viewed z.wide z.high t.layers t.count t.active ys) q) (sym so.size_is)
      (record {
        same_wide = refl;
        same_high = refl;
        same_active = so.active_is ∙ am;
        same_layers = layers_by w h _ qs (count ∙ so.count_is ∙ sym len)
            (λ k l. let lt : k < t.count = omega (arith, count) in agree_by w h _ _ _ _ (at k lt) refl (each k (omega (arith, so.count_is))));
        same_selected = λ i j iw jh. wrote.after _ (omega arith);
        same_clipboard = λ i j iw jh. pixel_kept _ _ xs ys _ wrote (inr (omega arith));
      })

  pub edit_by : (e : Edit) (xs ys : List ℕ) → t.size ≡ s.size → Agree (view t ys) (edited (view s xs) e) → LayersEdited s e xs t ys
  edit_by e xs ys same so = record { agrees = so; same_size = same }

  -- one taken out
  pub dropped : Arranged s s.layers (from_raised s.active (s.count - 1)) (s.count - 1) (s.active - 1) t → 1 < s.count → (xs : List ℕ) → LayersEdited s drop_layer xs t xs
  dropped so some xs =
      let p = view s xs in
      let qs = without s.active p.layers in
      let count = view_count s xs in
      let there = s.counted.0 in
      edit_by drop_layer xs xs so.size_is
      (done _ p (with_layers p qs (s.active - 1)) (view t xs) (lt-ltb 1 (length p.layers) (omega arith))
      (page_is s.layers (from_raised s.active (s.count - 1)) (s.count - 1) (s.active - 1) so s.full xs xs 0 0 (wrote_none xs) (omega arith) qs (s.active - 1) refl
      (omega (arith, length_without s.active p.layers (omega arith)))
      (λ k l. same_layer w h _ _ (sym (without_from s.active (s.count - 1) p.layers k clear_layer l
      ∙ view_layer s xs (from_raised s.active (s.count - 1) k) (raised_in s.active (s.count - 1) s.count k (omega arith) (omega arith) (omega arith)))))))

  -- one that changes places with the next
  pub raised : (above : ℕ) → above ≡ s.active + 1 → Arranged s s.layers (from_raised s.active above) s.count above t → above < s.count → (xs : List ℕ) → LayersEdited s raise_layer xs t xs
  raised above is by less xs =
      let p = view s xs in
      let a = s.active in
      let so : Arranged s s.layers (from_raised a (a + 1)) s.count (a + 1) t = subst (λ (k : ℕ). Arranged s s.layers (from_raised a k) s.count k t) is by in
      let some : a + 1 < s.count = omega arith in
      let qs = put_in (suc a) (active_layer p) (without a p.layers) in
      let count = view_count s xs in
      edit_by raise_layer xs xs so.size_is
      (done _ p (with_layers p qs (suc a)) (view t xs) (lt-ltb (suc a) (length p.layers) (omega arith))
      (page_is s.layers (from_raised a (a + 1)) s.count (a + 1) so s.full xs xs 0 0 (wrote_none xs) (omega arith) qs (suc a) (add-one a)
      (length-put_in (suc a) (active_layer p) (without a p.layers) ∙ length_without a p.layers (omega arith) ∙ count)
      (λ k l. same_layer w h _ _ (sym (raised_from a p.layers k clear_layer (omega arith)
      ∙ view_layer s xs (from_raised a (a + 1) k) (raised_in a (a + 1) s.count k (omega arith) some l))))))

  -- a clear one put in: the entry of the spare plane behind the others, after it is cleared
  pub added : (xs ys : List ℕ) → s.count < 64 →
      Arranged s (set s.layers s.count (fresh (entry s.count).plane)) (from_lowered (s.active + 1) s.count) (s.count + 1) (s.active + 1) t →
      PixelsTo (λ k. clear) (plane_start s s.count) (w * h) xs ys → LayersPainted s add_layer s.count xs t ys
  added xs ys few so cleared =
      let p = view s xs in
      let a = s.active in
      let n = s.count in
      let new = fresh (entry n).plane in
      let ls = set s.layers n new in
      let qs = put_in (suc a) clear_layer p.layers in
      let count = view_count s xs in
      let there = s.counted.0 in
      let full = s.full in
      let wrote = pixels_wrote _ _ _ xs ys cleared in
      let f = from_lowered (a + 1) n in
      let first : f (a + 1) ≡ n = first_lowered (a + 1) n in
      let each : (k : ℕ) → k < n + 1 → LayerAgree w h (layer_of w h ys (get_or ls (f k) no_entry)) (get_or qs k clear_layer)
      = λ k l. elim (cases_eq k (a + 1)) [
        | inl e ↦ agree_by w h _ _ _ _ (ap (λ i. layer_of w h ys (get_or ls (f i) no_entry)) e ∙ ap (λ i. layer_of w h ys (get_or ls i no_entry)) first ∙ ap (layer_of w h ys) (get_or-set_same s.layers n new no_entry (omega arith)))
            (ap (λ i. get_or qs i clear_layer) (e ∙ add-one a) ∙ put_in_at (suc a) clear_layer p.layers clear_layer (omega arith)) (cleared_layer w h (entry n).plane xs ys cleared)
        | inr ne ↦
            let in_it : f k < n = lowered_other (a + 1) n k (omega arith) (omega arith) ne in
            let from : get_or qs k clear_layer ≡ layer_of w h xs (entry (f k))
            = ap (λ i. get_or (put_in i clear_layer p.layers) k clear_layer) (sym (add-one a)) ∙ put_in_from (a + 1) n clear_layer p.layers k clear_layer (omega arith) (omega arith) ne ∙ view_layer s xs (f k) in_it in
            agree_by w h _ _ _ _ (ap (layer_of w h ys) (get_or-set_other s.layers n (f k) new no_entry (λ e. omega arith))) from
            (kept_layer w h (entry n).plane xs ys wrote (entry (f k)) (λ e. let same : f k ≡ n = s.distinct (f k, n, no_entry) (omega arith, few, e) in omega arith))
      ] in
      record {
        edit = edit_by add_layer xs ys so.size_is
            (done _ p (with_layers p qs (suc a)) (view t ys) (lt-ltb (length p.layers) 64 (omega arith))
            (page_is ls f (n + 1) (a + 1) so (length-set s.layers n new ∙ full) xs ys _ _ wrote (plane_in (w * h) (entry n).plane (s.planes n no_entry few)) qs (suc a) (add-one a)
            (length-put_in (suc a) clear_layer p.layers ∙ ap suc count ∙ sym (add-one n)) each));
        wrote = wrote;
      }

  -- one taken out, after it is merged into the one below
  pub merged_down : (xs ys : List ℕ) (below m at from : ℕ) → below + 1 ≡ s.active → m ≡ w * h → at ≡ plane_start s below → from ≡ plane_start s s.active →
      Arranged s s.layers (from_raised s.active (s.count - 1)) (s.count - 1) (s.active - 1) t →
      PixelsTo (λ k. merged (entry s.active).opacity (pixel_at xs (from + 4 * k)) (pixel_at xs (at + 4 * k))) at m xs ys → LayersPainted s merge_down (s.active - 1) xs t ys
  merged_down xs ys below m at from is size_is at-is from_is so into =
      let p = view s xs in
      let a = s.active in
      let b = s.active - 1 in
      let hi = s.count - 1 in
      let f = from_raised a hi in
      let one_below : below ≡ b = omega arith in
      let P : ℕ → ℕ → ℕ → Type 0 = λ q r n. PixelsTo (λ k. merged (entry a).opacity (pixel_at xs (q + 4 * k)) (pixel_at xs (r + 4 * k))) r n xs ys in
      let to : P (plane_start s a) (plane_start s b) (w * h) = subst₃ P from_is (at-is ∙ ap (plane_start s) one_below) size_is into in
      let rest = without a p.layers in
      let qs = set rest b (merged_layer p) in
      let count = view_count s xs in
      let there = s.counted in
      let size : length rest ≡ hi = omega (arith, length_without a p.layers (omega arith)) in
      let wrote = pixels_wrote _ _ _ xs ys to in
      let made : merged_layer p ≡ painted (layer_of w h xs (entry b)) (λ i j. merged (entry a).opacity ((layer_of w h xs (entry a)).pixels i j) ((layer_of w h xs (entry b)).pixels i j))
      = ap₂ (λ (l m : Layer). painted l (λ i j. merged m.opacity (m.pixels i j) (l.pixels i j))) (view_layer s xs b (omega arith)) (view_layer s xs a (omega arith)) in
      let here : LayerAgree w h (layer_of w h ys (entry b)) (painted (layer_of w h xs (entry b)) (λ i j. merged (entry a).opacity ((layer_of w h xs (entry a)).pixels i j) ((layer_of w h xs (entry b)).pixels i j)))
      = record { same_mode = refl; same_opacity = refl; same_visible = refl; same_pixels = λ i j iw jh. to.written (j * w + i) (mul-add-lt j w i h jh iw) } in
      let each : (k : ℕ) → k < hi → LayerAgree w h (layer_of w h ys (get_or s.layers (f k) no_entry)) (get_or qs k clear_layer)
      = λ k l. elim (cases_eq k b) [
        | inl e ↦ agree_by w h _ _ _ _ (ap (λ i. layer_of w h ys (entry (f i))) e ∙ ap (λ i. layer_of w h ys (entry i)) (raised_below a hi b (omega arith)))
            (ap (λ i. get_or qs i clear_layer) e ∙ get_or-set_same rest b (merged_layer p) clear_layer (omega arith) ∙ made) here
        | inr ne ↦
            let in_it : f k < s.count = raised_in a hi s.count k (omega arith) (omega arith) (omega arith) in
            let from : get_or qs k clear_layer ≡ layer_of w h xs (entry (f k))
            = get_or-set_other rest b k (merged_layer p) clear_layer ne ∙ without_from a hi p.layers k clear_layer l ∙ view_layer s xs (f k) in_it in
            agree_by w h _ _ _ _ refl from
            (kept_layer w h (entry b).plane xs ys wrote (entry (f k)) (λ e. ne (raised_same a hi k b (omega arith) l (s.distinct (f k, b, no_entry) (omega arith, omega arith, e)))))
      ] in
      record {
        edit = edit_by merge_down xs ys so.size_is
            (done _ p (with_layers p qs b) (view t ys) (lt-ltb 0 a (omega arith))
            (page_is s.layers f hi b so s.full xs ys _ _ wrote (plane_in (w * h) (entry b).plane (s.planes b no_entry (omega arith))) qs b refl (length-set rest b (merged_layer p) ∙ size) each));
        wrote = wrote;
      }
