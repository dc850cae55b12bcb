-- Parts of a page, and the smallest one around some pixels. Assumes nothing.
use Rattle.std.specs.Prelude.{◌≡◌, ℕ, ◌+◌, ◌-◌, ◌<◌, ◌≤◌, min, max, Bool, if◌then◌else◌, ◌&&◌, ◌⊎◌, ◌==◌, nat_le, nat_lt}
use Rattle.pixel.specs.declared.areas.Area.{Area}

-- k is one of the n columns (or rows) from `first` on; the same as a test
abbrev pub Within : ℕ → ℕ → ℕ → Type 0
Within first n k = (first ≤ k) × (k < first + n)

abbrev pub is_within : ℕ → ℕ → ℕ → Bool
is_within first n k = nat_le first k && nat_lt k (first + n)

-- a pixel lies in a part of the page; the same as a test
abbrev pub InArea : Area → ℕ → ℕ → Type 0
InArea a i j = Within a.left a.wide i × Within a.top a.high j

abbrev pub inside : Area → ℕ → ℕ → Bool
inside a i j = is_within a.left a.wide i && is_within a.top a.high j

-- a part of a page of w by h
abbrev pub AreaIn : ℕ → ℕ → Area → Type 0
AreaIn w h a = (a.left + a.wide ≤ w) × (a.top + a.high ≤ h)

-- no pixel; all of a page; the first n rows of a part
abbrev pub nowhere : Area
nowhere = record { left = 0; top = 0; wide = 0; high = 0 }

abbrev pub whole : ℕ → ℕ → Area
whole w h = record { left = 0; top = 0; wide = w; high = h }

abbrev pub first_rows : Area → ℕ → Area
first_rows a n = record { left = a.left; top = a.top; wide = a.wide; high = n }

-- D holds somewhere on each side of the part
pub record Touches (D : ℕ → ℕ → Type 0) (a : Area) : Type 0 where
  pub left_side : (j : ℕ) × D a.left j
  pub right_side : (j : ℕ) × D (a.left + a.wide - 1) j
  pub top_side : (i : ℕ) × D i a.top
  pub bottom_side : (i : ℕ) × D i (a.top + a.high - 1)

-- THE SMALLEST PART of the page in which all pixels lie of which D holds: nowhere, or one that D touches on all sides
pub record Around (D : ℕ → ℕ → Type 0) (a : Area) : Type 0 where
  pub covers : (i j : ℕ) → D i j → InArea a i j
  pub tight : (a ≡ nowhere) ⊎ Touches D a

-- along one side, from the first of two runs to the end of the last
abbrev pub joined_size : ℕ → ℕ → ℕ → ℕ → ℕ
joined_size a n b m = max (a + n) (b + m) - min a b

-- the smallest part around two
abbrev pub join : Area → Area → Area
join a b =
    if a.wide == 0 then b
    else if b.wide == 0 then a
    else (record { left = min a.left b.left; top = min a.top b.top; wide = joined_size a.left a.wide b.left b.wide; high = joined_size a.top a.high b.top b.high })
