-- What a page is, what each edit makes of it, and what is seen of it, pixel by pixel. No tiles, sums, snapshots or deltas: this is the meaning that the editor is held to. Assumes nothing.
use Rattle.std.specs.Prelude.{ℕ, suc, ◌+◌, ◌-◌, ◌*◌, Bool, if◌then◌else◌, ◌&&◌, List, [], ◌∷◌, length, ◌==◌, nat_le, nat_lt, slice_index_or, slice_set}
use Rattle.pixel.specs.declared.Pixel.{Pixel}
use Rattle.page.specs.Layers.{Picture, Layer, clear_layer, painted, composite, put_in, without}
use Rattle.page.specs.Selection.{reached, under_stroke, mask_of}
use Rattle.page.specs.Filters.{Filter, filtered}
use Rattle.pixel.specs.Pixels.{clear, merged, pixel_lerp, white}

-- a page: its size, its layers from below, the active one, how much each pixel is selected (0 or 255), and the clipboard
pub record Page : Type 0 where
  pub wide : ℕ
  pub high : ℕ
  pub layers : List Layer
  pub active : ℕ
  pub selected : ℕ → ℕ → ℕ
  pub clipboard : Picture

pub data Edit : Type 0 where
  add_layer : Edit
  drop_layer : Edit
  choose_layer : ℕ → Edit
  raise_layer : Edit
  set_mode : ℕ → Edit
  set_opacity : ℕ → Edit
  set_visible : Bool → Edit
  merge_down : Edit
  select_all : Edit
  select_rect : ℕ → ℕ → ℕ → ℕ → Edit
  select_similar : ℕ → ℕ → ℕ → Edit
  select_inverse : Edit
  fill : Pixel → Edit
  stroke : Pixel → ℕ → List (ℕ × ℕ) → Edit
  apply_filter : Filter → Edit
  copy : Edit
  paste : ℕ → ℕ → Edit

-- what is seen at a pixel: the layers on white
abbrev pub seen : Page → ℕ → ℕ → Pixel
seen p = composite p.layers (λ i j. white)

abbrev pub layer : Page → ℕ → Layer
layer p k = slice_index_or p.layers k clear_layer

abbrev pub active_layer : Page → Layer
active_layer p = layer p p.active

-- a page with other layers, another active layer, other pixels in it, another selection, another clipboard
abbrev pub with_layers : Page → List Layer → ℕ → Page
with_layers p ls k =
    record { wide = p.wide; high = p.high; layers = ls; active = k; selected = p.selected; clipboard = p.clipboard }

abbrev pub with_layer : Page → Layer → Page
with_layer p l = with_layers p (slice_set p.layers p.active l) p.active

abbrev pub with_selected : Page → (ℕ → ℕ → ℕ) → Page
with_selected p s =
    record { wide = p.wide; high = p.high; layers = p.layers; active = p.active; selected = s; clipboard = p.clipboard }

abbrev pub with_clipboard : Page → Picture → Page
with_clipboard p c =
    record { wide = p.wide; high = p.high; layers = p.layers; active = p.active; selected = p.selected; clipboard = c }

-- a picture taken over in the active layer, as far as it is selected
abbrev pub on_active : Page → Picture → Page
on_active p f = with_layer p (painted (active_layer p) (λ i j. pixel_lerp (p.selected i j) (f i j) ((active_layer p).pixels i j)))

-- the clipboard laid on a picture at x, y, as far as it is not clear there
abbrev pub pasted : Page → ℕ → ℕ → Picture
pasted p x y i j =
    if (nat_le x i && nat_le y j) && (nat_lt (i - x) p.wide && nat_lt (j - y) p.high)
    then (if (p.clipboard (i - x) (j - y)).alpha == 0 then (active_layer p).pixels i j else p.clipboard (i - x) (j - y))
    else (active_layer p).pixels i j

-- the layer below the active one, with that merged into it
abbrev pub merged_layer : Page → Layer
merged_layer p =
    painted (layer p (p.active - 1)) (λ i j. merged (active_layer p).opacity ((active_layer p).pixels i j) ((layer p (p.active - 1)).pixels i j))

-- an edit; one that can't be leaves the page
abbrev pub edited : Page → Edit → Page
edited p add_layer = if nat_lt (length p.layers) 64 then with_layers p (put_in (suc p.active) clear_layer p.layers) (suc p.active) else p
edited p drop_layer = if nat_lt 1 (length p.layers) then with_layers p (without p.active p.layers) (p.active - 1) else p
edited p (choose_layer k) = if nat_lt k (length p.layers) then with_layers p p.layers k else p
edited p raise_layer =
    if nat_lt (suc p.active) (length p.layers) then with_layers p (put_in (suc p.active) (active_layer p) (without p.active p.layers)) (suc p.active) else p
edited p (set_mode m) = if nat_lt m 6 then with_layer p (record { pixels = (active_layer p).pixels; mode = m; opacity = (active_layer p).opacity; visible = (active_layer p).visible }) else p
edited p (set_opacity a) = if nat_lt a 256 then with_layer p (record { pixels = (active_layer p).pixels; mode = (active_layer p).mode; opacity = a; visible = (active_layer p).visible }) else p
edited p (set_visible b) = with_layer p (record { pixels = (active_layer p).pixels; mode = (active_layer p).mode; opacity = (active_layer p).opacity; visible = b })
edited p merge_down = if nat_lt 0 p.active then with_layers p (slice_set (without p.active p.layers) (p.active - 1) (merged_layer p)) (p.active - 1) else p
edited p select_all = with_selected p (λ i j. 255)
edited p (select_rect x y w h) = with_selected p (λ i j. mask_of ((nat_le x i && nat_lt i (x + w)) && (nat_le y j && nat_lt j (y + h))))
edited p (select_similar n x y) =
    if nat_lt x p.wide && nat_lt y p.high then with_selected p (λ i j. mask_of (reached (active_layer p).pixels p.wide p.high n x y (p.wide * p.high) i j)) else p
edited p select_inverse = with_selected p (λ i j. 255 - p.selected i j)
edited p (fill d) = on_active p (λ i j. d)
edited p (stroke d r ats) = on_active p (λ i j. if under_stroke r ats i j then d else (active_layer p).pixels i j)
edited p (apply_filter f) = on_active p (filtered f p.wide p.high (active_layer p).pixels)
edited p copy = with_clipboard p (λ i j. if p.selected i j == 0 then clear else (active_layer p).pixels i j)
edited p (paste x y) = on_active p (pasted p x y)

abbrev pub blank : ℕ → ℕ → Page
blank w h =
    record { wide = w; high = h; layers = clear_layer ∷ []; active = 0; selected = λ i j. 255; clipboard = λ i j. clear }

abbrev pub after : Page → List Edit → Page
after p [] = p
after p (e ∷ es) = after (edited p e) es
