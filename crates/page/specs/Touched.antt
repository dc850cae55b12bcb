-- Which pixels an edit touches, so that what is seen of others stays. Assumes nothing.
use Rattle.std.specs.Prelude.{◌≡◌, ℕ, suc, ◌<◌, Bool, true, if◌then◌else◌, not, ◌&&◌, length, ◌==◌, nat_lt}
use Rattle.page.specs.Edits.{Page, Edit, edited, seen, active_layer, add_layer, drop_layer, choose_layer, raise_layer, set_mode, set_opacity, set_visible, merge_down, select_all, select_rect, select_similar, select_inverse, fill, stroke, apply_filter, copy, paste}
use Rattle.page.specs.Agree.{Formed}

-- an edit of the layers' order, mode, opacity or visibility, or of how many there are, that changes them
abbrev pub Rearranges : Bool → Type 0
Rearranges b = b ≡ true

-- an edit that gives the active layer another pixel at i, j
abbrev pub Repaints : Page → Edit → ℕ → ℕ → Type 0
Repaints p e i j = (active_layer (edited p e)).pixels i j ≡ (active_layer p).pixels i j → ⊥

-- what an edit changes at a pixel, by its kind: one of the layers that changes them counts as changing every pixel; one of the selection, the clipboard or the active layer as changing none
abbrev pub Alters : Page → Edit → ℕ → ℕ → Type 0
Alters p add_layer i j = Rearranges (nat_lt (length p.layers) 64)
Alters p drop_layer i j = Rearranges (nat_lt 1 (length p.layers))
Alters p (choose_layer k) i j = ⊥
Alters p raise_layer i j = Rearranges (nat_lt (suc p.active) (length p.layers))
Alters p (set_mode m) i j = Rearranges (nat_lt m 6 && not (m == (active_layer p).mode))
Alters p (set_opacity a) i j = Rearranges (nat_lt a 256 && not (a == (active_layer p).opacity))
Alters p (set_visible b) i j = Rearranges (if b then not (active_layer p).visible else (active_layer p).visible)
Alters p merge_down i j = Rearranges (nat_lt 0 p.active)
Alters p select_all i j = ⊥
Alters p (select_rect x y w h) i j = ⊥
Alters p (select_similar n x y) i j = ⊥
Alters p select_inverse i j = ⊥
Alters p (fill d) i j = Repaints p (fill d) i j
Alters p (stroke d r ats) i j = Repaints p (stroke d r ats) i j
Alters p (apply_filter f) i j = Repaints p (apply_filter f) i j
Alters p copy i j = ⊥
Alters p (paste x y) i j = Repaints p (paste x y) i j

-- a pixel of the page that an edit touches
abbrev pub Touched : Page → Edit → ℕ → ℕ → Type 0
Touched p e i j = (i < p.wide) × (j < p.high) × Alters p e i j

-- what is seen at a pixel that an edit does not touch stays
abbrev pub UntouchedSeen : Type 0
UntouchedSeen = (p : Page) (e : Edit) (i j : ℕ) → Formed p → i < p.wide → j < p.high → (Touched p e i j → ⊥) → seen (edited p e) i j ≡ seen p i j
