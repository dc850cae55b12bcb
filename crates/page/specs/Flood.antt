-- What is selected as similar: the pixels to which a row of similar pixels leads, side by side, and no others. Assumes nothing.
use Rattle.std.specs.Prelude.{◌≡◌, ℕ, suc, ◌*◌, ◌<◌, true}
use Rattle.page.specs.Layers.{Picture}
use Rattle.page.specs.Selection.{reached}
use Rattle.page.specs.Edits.{Page, edited, active_layer, select_similar}
use Rattle.pixel.specs.Pixels.{similar}

pub data Leads (f : Picture) (w h n x y : ℕ) : ℕ → ℕ → Type 0 where
  here : Leads f w h n x y x y
  right : {i j : ℕ} → Leads f w h n x y i j → suc i < w → similar n (f (suc i) j) (f x y) ≡ true → Leads f w h n x y (suc i) j
  left : {i j : ℕ} → Leads f w h n x y (suc i) j → similar n (f i j) (f x y) ≡ true → Leads f w h n x y i j
  down : {i j : ℕ} → Leads f w h n x y i j → suc j < h → similar n (f i (suc j)) (f x y) ≡ true → Leads f w h n x y i (suc j)
  up : {i j : ℕ} → Leads f w h n x y i (suc j) → similar n (f i j) (f x y) ≡ true → Leads f w h n x y i j

-- as many steps as there are pixels are enough
abbrev pub EnoughSteps : Type 0
EnoughSteps =
    (f : Picture) (w h n x y i j : ℕ) → x < w → y < h →
    (Leads f w h n x y i j → reached f w h n x y (w * h) i j ≡ true) × (reached f w h n x y (w * h) i j ≡ true → Leads f w h n x y i j)

-- and of the edit: what it selects, it selects wholly
abbrev pub SimilarSelected : Type 0
SimilarSelected =
    (p : Page) (n x y i j : ℕ) → x < p.wide → y < p.high →
    (Leads (active_layer p).pixels p.wide p.high n x y i j → (edited p (select_similar n x y)).selected i j ≡ 255)
    × ((edited p (select_similar n x y)).selected i j ≡ 255 → Leads (active_layer p).pixels p.wide p.high n x y i j)
