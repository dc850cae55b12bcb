-- Agreement of pages is an equivalence, edits keep it, and where pages agree the same is seen. Assumes nothing.
use Rattle.std.proofs.Common.{◌≡◌, ℕ, suc, ◌-◌, ◌*◌, ◌<◌, Bool, true, false, cond, ◌&&◌, ltb, List, [], ◌∷◌, length, set, sym, refl, ap, ◌∙◌, subst₂, true≢false, arith}
use mathlib.Core.Path.{subst₃}
use mathlib.Core.Bool.{false≢true}
use Rattle.std.proofs.lemmas.Bool.{ltb-true, and_parts}
use Rattle.std.proofs.lemmas.List.Elements.{length_all_zip}
use Rattle.page.specs.Layers.{Picture, Layer, clear_layer, painted, put_in, without}
use Rattle.page.specs.Selection.{under_stroke, mask_of}
use Rattle.page.specs.Edits.{Page, Edit, edited, after, seen, layer, active_layer, with_layers, with_layer, with_selected, on_active, merged_layer, add_layer, drop_layer, choose_layer, raise_layer, set_mode, set_opacity, set_visible, merge_down, select_all, select_rect, select_similar, select_inverse, fill, stroke, apply_filter, copy, paste}
use Rattle.page.specs.Agree.{Same, LayerAgree, LayersAgree, Agree, Agreement}
use Rattle.page.proofs.Same.{filtered_same, reached_same, composite_same, layer_at, set_agree, put_in_agree, without_agree}
use Rattle.pixel.specs.Pixels.{pixel_lerp, white}

-- an equivalence, at one size
module _ (w h : ℕ) where
  layer_refl : (l : Layer) → LayerAgree w h l l
  layer_refl l = record { same_mode = refl; same_opacity = refl; same_visible = refl; same_pixels = λ i j iw jh. refl }

  layers_refl : (ls : List Layer) → LayersAgree w h ls ls
  layers_refl [] = tt
  layers_refl (l ∷ ls) = (layer_refl l, layers_refl ls)

  layer_sym : (l m : Layer) → LayerAgree w h l m → LayerAgree w h m l
  layer_sym l m a =
      record { same_mode = sym a.same_mode; same_opacity = sym a.same_opacity; same_visible = sym a.same_visible; same_pixels = λ i j iw jh. sym (a.same_pixels i j iw jh) }

  layers_sym : (ls ms : List Layer) → LayersAgree w h ls ms → LayersAgree w h ms ls
  layers_sym [] [] a = tt
  layers_sym [] (m ∷ ms) a = absurd a
  layers_sym (l ∷ ls) [] a = absurd a
  layers_sym (l ∷ ls) (m ∷ ms) a = (layer_sym l m a.0, layers_sym ls ms a.1)

  layer_trans : (l m n : Layer) → LayerAgree w h l m → LayerAgree w h m n → LayerAgree w h l n
  layer_trans l m n a b =
      record {
        same_mode = a.same_mode ∙ b.same_mode;
        same_opacity = a.same_opacity ∙ b.same_opacity;
        same_visible = a.same_visible ∙ b.same_visible;
        same_pixels = λ i j iw jh. a.same_pixels i j iw jh ∙ b.same_pixels i j iw jh;
      }

  layers_trans : (ls ms ns : List Layer) → LayersAgree w h ls ms → LayersAgree w h ms ns → LayersAgree w h ls ns
  layers_trans [] [] ns a b = b
  layers_trans [] (m ∷ ms) ns a b = absurd a
  layers_trans (l ∷ ls) [] ns a b = absurd a
  layers_trans (l ∷ ls) (m ∷ ms) [] a b = absurd b
  layers_trans (l ∷ ls) (m ∷ ms) (n ∷ ns) a b = (layer_trans l m n a.0 b.0, layers_trans ls ms ns a.1 b.1)

pub agree_refl : (p : Page) → Agree p p
agree_refl p =
    record {
      same_wide = refl;
      same_high = refl;
      same_active = refl;
      same_layers = layers_refl p.wide p.high p.layers;
      same_selected = λ i j iw jh. refl;
      same_clipboard = λ i j iw jh. refl;
    }

pub agree_sym : (p q : Page) → Agree p q → Agree q p
agree_sym p q a =
    record {
      same_wide = sym a.same_wide;
      same_high = sym a.same_high;
      same_active = sym a.same_active;
      same_layers = subst₂ (λ w h. LayersAgree w h q.layers p.layers) a.same_wide a.same_high (layers_sym p.wide p.high p.layers q.layers a.same_layers);
      same_selected = subst₂ (λ w h. Same w h q.selected p.selected) a.same_wide a.same_high (λ i j iw jh. sym (a.same_selected i j iw jh));
      same_clipboard = subst₂ (λ w h. Same w h q.clipboard p.clipboard) a.same_wide a.same_high (λ i j iw jh. sym (a.same_clipboard i j iw jh));
    }

pub agree_trans : (p q r : Page) → Agree p q → Agree q r → Agree p r
agree_trans p q r a b =
    let layers_b : LayersAgree p.wide p.high q.layers r.layers
    = subst₂ (λ w h. LayersAgree w h q.layers r.layers) (sym a.same_wide) (sym a.same_high) b.same_layers in
    let selected_b : Same p.wide p.high q.selected r.selected
    = subst₂ (λ w h. Same w h q.selected r.selected) (sym a.same_wide) (sym a.same_high) b.same_selected in
    let clipboard_b : Same p.wide p.high q.clipboard r.clipboard
    = subst₂ (λ w h. Same w h q.clipboard r.clipboard) (sym a.same_wide) (sym a.same_high) b.same_clipboard in
    record {
      same_wide = a.same_wide ∙ b.same_wide;
      same_high = a.same_high ∙ b.same_high;
      same_active = a.same_active ∙ b.same_active;
      same_layers = layers_trans p.wide p.high p.layers q.layers r.layers a.same_layers layers_b;
      same_selected = λ i j iw jh. a.same_selected i j iw jh ∙ selected_b i j iw jh;
      same_clipboard = λ i j iw jh. a.same_clipboard i j iw jh ∙ clipboard_b i j iw jh;
    }

pub seen_agree : (p q : Page) (i j : ℕ) → Agree p q → i < p.wide → j < p.high → seen p i j ≡ seen q i j
seen_agree p q i j a iw jh =
    composite_same p.wide p.high p.layers q.layers (λ x y. white) (λ x y. white) a.same_layers (λ x y xw yh. refl) i j iw jh

-- a test that comes out the same, before pages that agree
cond_agree : (b c : Bool) (x y p q : Page) → b ≡ c → (b ≡ true → Agree x y) → Agree p q → Agree (cond b x p) (cond c y q)
cond_agree true true x y p q e f g = f refl
cond_agree true false x y p q e f g = absurd (true≢false e)
cond_agree false true x y p q e f g = absurd (false≢true e)
cond_agree false false x y p q e f g = g

-- two pages of one size with one layer active: what agrees of them agrees after an edit
module _ (w h a : ℕ) (ls ms : List Layer) (s t : ℕ → ℕ → ℕ) (c d : Picture) (same_l : LayersAgree w h ls ms) (same_s : Same w h s t) (same_c : Same w h c d) where
  abbrev one : Page
  one = record { wide = w; high = h; layers = ls; active = a; selected = s; clipboard = c }

  abbrev two : Page
  two = record { wide = w; high = h; layers = ms; active = a; selected = t; clipboard = d }

  both : Agree one two
  both = record { same_wide = refl; same_high = refl; same_active = refl; same_layers = same_l; same_selected = same_s; same_clipboard = same_c }

  tops : LayerAgree w h (active_layer one) (active_layer two)
  tops = layer_at w h ls ms a same_l

  lengths : length ls ≡ length ms
  lengths = length_all_zip (LayerAgree w h) ls ms same_l

  other_layers : (k : ℕ) (ls' ms' : List Layer) → LayersAgree w h ls' ms' → Agree (with_layers one ls' k) (with_layers two ms' k)
  other_layers k ls' ms' e = record { same_wide = refl; same_high = refl; same_active = refl; same_layers = e; same_selected = same_s; same_clipboard = same_c }

  other_selected : (s' t' : ℕ → ℕ → ℕ) → Same w h s' t' → Agree (with_selected one s') (with_selected two t')
  other_selected s' t' e = record { same_wide = refl; same_high = refl; same_active = refl; same_layers = same_l; same_selected = e; same_clipboard = same_c }

  other_layer : (l m : Layer) → LayerAgree w h l m → Agree (with_layer one l) (with_layer two m)
  other_layer l m e = other_layers a (set ls a l) (set ms a m) (set_agree w h ls ms a l m same_l e)

  other_pixels : (f g : Picture) → Same w h f g → Agree (on_active one f) (on_active two g)
  other_pixels f g e =
      other_layer (painted (active_layer one) (λ i j. pixel_lerp (s i j) (f i j) ((active_layer one).pixels i j))) (painted (active_layer two) (λ i j. pixel_lerp (t i j) (g i j) ((active_layer two).pixels i j)))
      (record {
        same_mode = tops.same_mode;
        same_opacity = tops.same_opacity;
        same_visible = tops.same_visible;
        same_pixels = λ i j iw jh. rw (same_s i j iw jh, e i j iw jh, tops.same_pixels i j iw jh) refl;
      })

  below : LayerAgree w h (layer one (a - 1)) (layer two (a - 1))
  below = layer_at w h ls ms (a - 1) same_l

  edit_both : (e : Edit) → Agree (edited one e) (edited two e)
  edit_both add_layer =
      cond_agree (ltb (length ls) 64) (ltb (length ms) 64) _ _ _ _ (ap (λ n. ltb n 64) lengths)
      (λ _. other_layers (suc a) (put_in (suc a) clear_layer ls) (put_in (suc a) clear_layer ms) (put_in_agree w h ls ms (suc a) clear_layer clear_layer same_l (layer_refl w h clear_layer))) both
  edit_both drop_layer =
      cond_agree (ltb 1 (length ls)) (ltb 1 (length ms)) _ _ _ _ (ap (ltb 1) lengths)
      (λ _. other_layers (a - 1) (without a ls) (without a ms) (without_agree w h ls ms a same_l)) both
  edit_both (choose_layer k) = cond_agree (ltb k (length ls)) (ltb k (length ms)) _ _ _ _ (ap (ltb k) lengths) (λ _. other_layers k ls ms same_l) both
  edit_both raise_layer =
      cond_agree (ltb (suc a) (length ls)) (ltb (suc a) (length ms)) _ _ _ _ (ap (ltb (suc a)) lengths)
      (λ _. other_layers (suc a) (put_in (suc a) (active_layer one) (without a ls)) (put_in (suc a) (active_layer two) (without a ms))
      (put_in_agree w h (without a ls) (without a ms) (suc a) (active_layer one) (active_layer two) (without_agree w h ls ms a same_l) tops)) both
  edit_both (set_mode m) =
      cond_agree (ltb m 6) (ltb m 6) _ _ _ _ refl
      (λ _. other_layer _ _ (record { same_mode = refl; same_opacity = tops.same_opacity; same_visible = tops.same_visible; same_pixels = tops.same_pixels })) both
  edit_both (set_opacity n) =
      cond_agree (ltb n 256) (ltb n 256) _ _ _ _ refl
      (λ _. other_layer _ _ (record { same_mode = tops.same_mode; same_opacity = refl; same_visible = tops.same_visible; same_pixels = tops.same_pixels })) both
  edit_both (set_visible b) =
      other_layer _ _ (record { same_mode = tops.same_mode; same_opacity = tops.same_opacity; same_visible = refl; same_pixels = tops.same_pixels })
  edit_both merge_down =
      cond_agree (ltb 0 a) (ltb 0 a) _ _ _ _ refl
      (λ _. other_layers (a - 1) (set (without a ls) (a - 1) (merged_layer one)) (set (without a ms) (a - 1) (merged_layer two))
      (set_agree w h (without a ls) (without a ms) (a - 1) (merged_layer one) (merged_layer two) (without_agree w h ls ms a same_l)
      (record {
        same_mode = below.same_mode;
        same_opacity = below.same_opacity;
        same_visible = below.same_visible;
        same_pixels = λ i j iw jh. rw (tops.same_opacity, tops.same_pixels i j iw jh, below.same_pixels i j iw jh) refl;
      }))) both
  edit_both select_all = other_selected _ _ (λ i j iw jh. refl)
  edit_both (select_rect x y m n) = other_selected _ _ (λ i j iw jh. refl)
  edit_both (select_similar n x y) =
      cond_agree (ltb x w && ltb y h) (ltb x w && ltb y h) _ _ _ _ refl
      (λ e. let inside = and_parts (ltb x w) (ltb y h) e in
      other_selected _ _ (λ i j iw jh. ap (λ r. mask_of (r i j)) (reached_same w h n x y (active_layer one).pixels (active_layer two).pixels tops.same_pixels
      (ltb-true x w inside.0) (ltb-true y h inside.1) (w * h)))) both
  edit_both select_inverse = other_selected _ _ (λ i j iw jh. ap (◌-◌ 255) (same_s i j iw jh))
  edit_both (fill p) = other_pixels _ _ (λ i j iw jh. refl)
  edit_both (stroke p r ats) = other_pixels _ _ (λ i j iw jh. ap (cond (under_stroke r ats i j) p) (tops.same_pixels i j iw jh))
  edit_both (apply_filter f) = other_pixels _ _ (filtered_same f w h (active_layer one).pixels (active_layer two).pixels tops.same_pixels)
  edit_both copy =
      record {
        same_wide = refl;
        same_high = refl;
        same_active = refl;
        same_layers = same_l;
        same_selected = same_s;
        same_clipboard = λ i j iw jh. rw (same_s i j iw jh, tops.same_pixels i j iw jh) refl;
      }
  edit_both (paste x y) =
      other_pixels _ _ (λ i j iw jh. let there = same_c (i - x) (j - y) (omega arith) (omega arith) in rw (there, tops.same_pixels i j iw jh) refl)

pub edits_agree : (p q : Page) (e : Edit) → Agree p q → Agree (edited p e) (edited q e)
edits_agree p q e a =
    subst₃ (λ w h k. Agree (edited p e) (edited (record { wide = w; high = h; layers = q.layers; active = k; selected = q.selected; clipboard = q.clipboard }) e))
    a.same_wide a.same_high a.same_active
    (edit_both p.wide p.high p.active p.layers q.layers p.selected q.selected p.clipboard q.clipboard a.same_layers a.same_selected a.same_clipboard e)

pub rows_agree : (p q : Page) (es : List Edit) → Agree p q → Agree (after p es) (after q es)
rows_agree p q [] a = a
rows_agree p q (e ∷ es) a = rows_agree (edited p e) (edited q e) es (edits_agree p q e a)

pub agreement : Agreement
agreement = record { reflexive = agree_refl; symmetric = agree_sym; transitive = agree_trans; edits_agree = edits_agree; rows_agree = rows_agree; seen_agree = seen_agree }
