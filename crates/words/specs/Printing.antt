-- What is printed of a page: as text, rows of colours in hex; or as a PPM, P6. Assumes nothing.
use Rattle.std.specs.Prelude.{ℕ, zero, suc, List, [], ◌∷◌, ◌++◌, codes, decimal}
use Rattle.pixel.specs.declared.Pixel.{Pixel}
use Rattle.words.specs.declared.showing.Format.{Format}
use Rattle.words.specs.declared.showing.Format.TheVariants.{Text, Ppm}
use Rattle.words.specs.Digits.{hex}

-- a piece for each number below n, one after the other
abbrev pub upto : (ℕ → List ℕ) → ℕ → List ℕ
upto f zero = []
upto f (suc n) = upto f n ++ f n

-- a space before each but the first
abbrev pub gap : ℕ → List ℕ
gap zero = []
gap (suc x) = 32 ∷ []

abbrev pub colour : Pixel → List ℕ
colour p = p.red ∷ p.green ∷ p.blue ∷ []

abbrev pub heading : Format → ℕ → ℕ → List ℕ
heading Text w h = codes "page " ++ (decimal w ++ (codes " " ++ (decimal h ++ codes "\n")))
heading Ppm w h = codes "P6\n" ++ (decimal w ++ (codes " " ++ (decimal h ++ codes "\n255\n")))

-- the pixel of column x
abbrev pub cell : Format → ℕ → Pixel → List ℕ
cell Text x p = gap x ++ hex (colour p)
cell Ppm x p = colour p

abbrev pub row_end : Format → List ℕ
row_end Text = 10 ∷ []
row_end Ppm = []

-- the first w pixels of a row, and the first h rows of a page
abbrev pub cells : Format → ℕ → (ℕ → Pixel) → List ℕ
cells format w f = upto (λ x. cell format x (f x)) w

abbrev pub rows : Format → ℕ → ℕ → (ℕ → ℕ → Pixel) → List ℕ
rows format w h f = upto (λ y. cells format w (λ x. f x y) ++ row_end format) h

abbrev pub printed : Format → ℕ → ℕ → (ℕ → ℕ → Pixel) → List ℕ
printed format w h f = heading format w h ++ rows format w h f
