-- What an edit does not touch is seen as before. Assumes nothing.
use Rattle.std.proofs.Common.{◌≡◌, ℕ, zero, suc, ◌<◌, Bool, true, false, cond, not, ◌&&◌, eqb, ltb, ◌⊎◌, List, [], ◌∷◌, length, get_or, set, sym, refl, ap, ◌∙◌, inl, inr, get_or-set_same}
use Rattle.std.proofs.lemmas.Bool.{cases_eq, cases_Bool, cond-false, eqb-true, not_from_false}
use Rattle.pixel.specs.declared.Pixel.{Pixel}
use Rattle.pixel.proofs.Steps.{same_pixel}
use Rattle.page.specs.Layers.{Picture, Layer, clear_layer, painted, layer_over, composite}
use Rattle.page.specs.Edits.{Page, seen, active_layer, with_layer, add_layer, drop_layer, choose_layer, raise_layer, set_mode, set_opacity, set_visible, merge_down, select_all, select_rect, select_similar, select_inverse, fill, stroke, apply_filter, copy, paste}
use Rattle.page.specs.Touched.{UntouchedSeen}

-- two pixels are the same or not
pub pixel_or_not : (p q : Pixel) → (p ≡ q) ⊎ (p ≡ q → ⊥)
pixel_or_not p q =
    elim (cases_eq p.red q.red) [
      | inr n ↦ inr (λ e. n (ap (λ (d : Pixel). d.red) e))
      | inl r ↦ elim (cases_eq p.green q.green) [
        | inr n ↦ inr (λ e. n (ap (λ (d : Pixel). d.green) e))
        | inl g ↦ elim (cases_eq p.blue q.blue) [
          | inr n ↦ inr (λ e. n (ap (λ (d : Pixel). d.blue) e))
          | inl b ↦ elim (cases_eq p.alpha q.alpha) [
            | inr n ↦ inr (λ e. n (ap (λ (d : Pixel). d.alpha) e))
            | inl a ↦ inl (same_pixel p q r g b a)
          ]
        ]
      ]
    ]

-- what is seen rests on what is below at that pixel
composite_from : (ls : List Layer) (f g : Picture) (i j : ℕ) → f i j ≡ g i j → composite ls f i j ≡ composite ls g i j
composite_from [] f g i j e = e
composite_from (l ∷ ls) f g i j e = composite_from ls _ _ i j (ap (layer_over l i j) e)

-- a layer put in the place of one that looks the same at a pixel
composite_set : (ls : List Layer) (k : ℕ) (l : Layer) (f g : Picture) (i j : ℕ) → ((d : Pixel) → layer_over l i j d ≡ layer_over (get_or ls k clear_layer) i j d) → f i j ≡ g i j →
    composite (set ls k l) f i j ≡ composite ls g i j
composite_set [] k l f g i j same e = e
composite_set (m ∷ ms) zero l f g i j same e = composite_from ms _ _ i j (same (f i j) ∙ ap (layer_over m i j) e)
composite_set (m ∷ ms) (suc k) l f g i j same e = composite_set ms k l _ _ i j same (ap (layer_over m i j) e)

module _ (p : Page) (i j : ℕ) where
  abbrev old : Layer
  old = active_layer p

  set_same : (l : Layer) → ((d : Pixel) → layer_over l i j d ≡ layer_over old i j d) → seen (with_layer p l) i j ≡ seen p i j
  set_same l same = composite_set p.layers p.active l _ _ i j same refl

  -- an edit that cannot be
  left : (t : Bool) (q : Page) → t ≡ false → seen (cond t q p) i j ≡ seen p i j
  left t q e = ap (λ (r : Page). seen r i j) (cond-false t q p e)

  -- an edit of one attribute to what it is
  set_or_left : (t u : Bool) (l : Layer) → ((t && not u) ≡ true → ⊥) → (u ≡ true → (d : Pixel) → layer_over l i j d ≡ layer_over old i j d) → seen (cond t (with_layer p l) p) i j ≡ seen p i j
  set_or_left true u l un same = set_same l (elim (cases_Bool u) [ inl e ↦ same e | inr e ↦ absurd (un (not_from_false u e)) ])
  set_or_left false u l un same = refl

  -- a picture that has the old pixel here
  painted_same : (f : Picture) → p.active < length p.layers → (((active_layer (with_layer p (painted old f))).pixels i j ≡ old.pixels i j → ⊥) → ⊥) → seen (with_layer p (painted old f)) i j ≡ seen p i j
  painted_same f there un =
      let is : active_layer (with_layer p (painted old f)) ≡ painted old f = get_or-set_same p.layers p.active (painted old f) clear_layer there in
      let here : f i j ≡ old.pixels i j
      = elim (pixel_or_not (f i j) (old.pixels i j)) [ inl e ↦ e | inr n ↦ absurd (un (λ e. n (sym (ap (λ (l : Layer). l.pixels i j) is) ∙ e))) ] in
      set_same (painted old f) (λ d. ap (λ (q : Pixel). layer_over (painted old (λ x y. q)) i j d) here)

rearranged : (p : Page) (i j : ℕ) (t : Bool) (q : Page) → (t ≡ true → ⊥) → seen (cond t q p) i j ≡ seen p i j
rearranged p i j t q un = elim (cases_Bool t) [ inl e ↦ absurd (un e) | inr e ↦ left p i j t q e ]

visible_same : (a b : Bool) → (cond b (not a) a ≡ true → ⊥) → b ≡ a
visible_same true true un = refl
visible_same true false un = absurd (un refl)
visible_same false true un = absurd (un refl)
visible_same false false un = refl

similar_left : (p : Page) (t : Bool) (s : ℕ → ℕ → ℕ) (i j : ℕ) → seen (cond t (record { wide = p.wide; high = p.high; layers = p.layers; active = p.active; selected = s; clipboard = p.clipboard }) p) i j ≡ seen p i j
similar_left p true s i j = refl
similar_left p false s i j = refl

chosen_left : (p : Page) (t : Bool) (k i j : ℕ) → seen (cond t (record { wide = p.wide; high = p.high; layers = p.layers; active = k; selected = p.selected; clipboard = p.clipboard }) p) i j ≡ seen p i j
chosen_left p true k i j = refl
chosen_left p false k i j = refl

pub untouched_seen : UntouchedSeen
untouched_seen p add_layer i j so iw jh un = rearranged p i j _ _ (λ e. un (iw, jh, e))
untouched_seen p drop_layer i j so iw jh un = rearranged p i j _ _ (λ e. un (iw, jh, e))
untouched_seen p (choose_layer k) i j so iw jh un = chosen_left p _ k i j
untouched_seen p raise_layer i j so iw jh un = rearranged p i j _ _ (λ e. un (iw, jh, e))
untouched_seen p (set_mode m) i j so iw jh un =
    set_or_left p i j (ltb m 6) (eqb m (active_layer p).mode) _ (λ e. un (iw, jh, e))
    (λ e d. ap (λ n. layer_over (record { pixels = (active_layer p).pixels; mode = n; opacity = (active_layer p).opacity; visible = (active_layer p).visible }) i j d) (eqb-true _ _ e))
untouched_seen p (set_opacity a) i j so iw jh un =
    set_or_left p i j (ltb a 256) (eqb a (active_layer p).opacity) _ (λ e. un (iw, jh, e))
    (λ e d. ap (λ n. layer_over (record { pixels = (active_layer p).pixels; mode = (active_layer p).mode; opacity = n; visible = (active_layer p).visible }) i j d) (eqb-true _ _ e))
untouched_seen p (set_visible b) i j so iw jh un =
    set_same p i j _ (λ d. ap (λ (v : Bool). layer_over (record { pixels = (active_layer p).pixels; mode = (active_layer p).mode; opacity = (active_layer p).opacity; visible = v }) i j d)
    (visible_same (active_layer p).visible b (λ e. un (iw, jh, e))))
untouched_seen p merge_down i j so iw jh un = rearranged p i j _ _ (λ e. un (iw, jh, e))
untouched_seen p select_all i j so iw jh un = refl
untouched_seen p (select_rect x y w h) i j so iw jh un = refl
untouched_seen p (select_similar n x y) i j so iw jh un = similar_left p _ _ i j
untouched_seen p select_inverse i j so iw jh un = refl
untouched_seen p (fill d) i j so iw jh un = painted_same p i j _ so.active_there (λ n. un (iw, jh, n))
untouched_seen p (stroke d r ats) i j so iw jh un = painted_same p i j _ so.active_there (λ n. un (iw, jh, n))
untouched_seen p (apply_filter f) i j so iw jh un = painted_same p i j _ so.active_there (λ n. un (iw, jh, n))
untouched_seen p copy i j so iw jh un = refl
untouched_seen p (paste x y) i j so iw jh un = painted_same p i j _ so.active_there (λ n. un (iw, jh, n))
