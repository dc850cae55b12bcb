-- Four pages worked out by hand: what is seen at every pixel, row by row, as numbers of red, green and blue. Assumes nothing.
use Rattle.std.specs.Prelude.{◌≡◌, ℕ, zero, suc, ◌+◌, ◌*◌, List, [], ◌∷◌}
use Rattle.pixel.specs.declared.Pixel.{Pixel}
use Rattle.page.specs.Edits.{Page, seen, blank, after, add_layer, set_mode, select_rect, fill, stroke}

abbrev pub colour : Pixel → ℕ
colour d = (d.red * 256 + d.green) * 256 + d.blue

-- what f gives at n places from a on
abbrev pub from : {A : Type 0} → (ℕ → A) → ℕ → ℕ → List A
from f a zero = []
from f a (suc n) = f a ∷ from f (suc a) n

-- all that is seen of a page
abbrev pub rows : Page → List (List ℕ)
rows p = from (λ j. from (λ i. colour (seen p i j)) 0 p.wide) 0 p.high

abbrev pub paint : ℕ → ℕ → ℕ → ℕ → Pixel
paint r g b a = record { red = r; green = g; blue = b; alpha = a }

-- a square of a row, selected and filled
abbrev pub PageA : Type 0
PageA = rows (after (blank 3 1) (select_rect 1 0 1 1 ∷ fill (paint 0xff 0 0 0xff) ∷ [])) ≡ (0xffffff ∷ 0xff0000 ∷ 0xffffff ∷ []) ∷ []

-- half-covering blue in a layer over red
abbrev pub PageB : Type 0
PageB = rows (after (blank 2 1) (fill (paint 0xff 0 0 0xff) ∷ add_layer ∷ fill (paint 0 0 0xff 0x80) ∷ [])) ≡ (0x7f0080 ∷ 0x7f0080 ∷ []) ∷ []

-- a layer multiplied into grey
abbrev pub PageC : Type 0
PageC =
    rows (after (blank 2 1) (fill (paint 0x64 0x64 0x64 0xff) ∷ add_layer ∷ fill (paint 0xc8 0x64 0 0xff) ∷ set_mode 1 ∷ []))
    ≡ (0x4e2700 ∷ 0x4e2700 ∷ []) ∷ []

-- a round brush of radius 1
abbrev pub PageF : Type 0
PageF =
    rows (after (blank 5 5) (stroke (paint 0xff 0 0 0xff) 1 ((2, 2) ∷ []) ∷ []))
    ≡ (0xffffff ∷ 0xffffff ∷ 0xffffff ∷ 0xffffff ∷ 0xffffff ∷ []) ∷ (0xffffff ∷ 0xffffff ∷ 0xff0000 ∷ 0xffffff ∷ 0xffffff ∷ [])
    ∷ (0xffffff ∷ 0xff0000 ∷ 0xff0000 ∷ 0xff0000 ∷ 0xffffff ∷ []) ∷ (0xffffff ∷ 0xffffff ∷ 0xff0000 ∷ 0xffffff ∷ 0xffffff ∷ [])
    ∷ (0xffffff ∷ 0xffffff ∷ 0xffffff ∷ 0xffffff ∷ 0xffffff ∷ []) ∷ []

pub record Worked : Type 0 where
  pub page_a : PageA
  pub page_b : PageB
  pub page_c : PageC
  pub page_f : PageF
