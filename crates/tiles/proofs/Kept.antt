-- Tiles built one after the other, and what the tiles show after an edit and a rebuild. Assumes nothing.
use Rattle.std.proofs.Common.{◌≡◌, ℕ, ◌+◌, ◌*◌, ◌/◌, ◌%◌, ◌<◌, ◌≤◌, ◌⊎◌, List, get_or, sym, ap, ◌∙◌, subst₂, inl, inr, arith}
use native.Mathlib.Nat.{div-add-mod}
use Rattle.std.proofs.lemmas.Bool.{cases_eq, cases_lt}
use Rattle.pixel.specs.declared.areas.Area.{Area}
use Rattle.pixel.specs.Bytes.{Wrote}
use Rattle.pixel.specs.Areas.{InArea}
use Rattle.pixel.proofs.Steps.{pixel_kept}
use Rattle.page.specs.Edits.{Page, seen}
use Rattle.canvas.specs.declared.state.Canvas.{Canvas}
use Rattle.canvas.specs.View.{view}
use Rattle.tiles.specs.Places.{tile_of, begins, place, TileBuilt, BuiltWhere, Meets, InBand, Shown, OnlyIn}
use Rattle.tiles.proofs.Offsets.{ends, in_side, side_there, tile_ends, place_ends, place_out}
use Rattle.tiles.proofs.Grids.{wrote_join, wrote_wider, pixel_within}
use Rattle.tiles.proofs.Seeing.{SameAt, seen_same, planes_kept}

-- tests that come out one way or the other
abbrev OrNot : Type 0 → Type 0
OrNot P = P ⊎ (P → ⊥)

both : {P Q : Type 0} → OrNot P → OrNot Q → OrNot (P × Q)
both p q = elim p [ inl a ↦ elim q [ inl b ↦ inl (a, b) | inr n ↦ inr (λ u. n u.1) ] | inr n ↦ inr (λ u. n u.0) ]

below : (a b : ℕ) → OrNot (a < b)
below a b = elim (cases_lt a b) [ inl l ↦ inl l | inr l ↦ inr (λ m. omega arith) ]

up_to : (a b : ℕ) → OrNot (a ≤ b)
up_to a b = elim (cases_lt b a) [ inl l ↦ inr (λ m. omega arith) | inr l ↦ inl l ]

pub one_or_not : (tx ty x y : ℕ) → OrNot ((x ≡ tx) × (y ≡ ty))
one_or_not tx ty x y = both (cases_eq x tx) (cases_eq y ty)

pub band_or_not : (row first n x y : ℕ) → OrNot (InBand row first n x y)
band_or_not row first n x y = both (cases_eq y row) (both (up_to first x) (below x n))

meets_or_not : (a : Area) (x y : ℕ) → OrNot (Meets a x y)
meets_or_not a x y = both (both (below a.left (32 * x + 32)) (below (32 * x) (a.left + a.wide))) (both (below a.top (32 * y + 32)) (below (32 * y) (a.top + a.high)))

module _ (s : Canvas) where
  abbrev w : ℕ
  w = s.size.wide

  abbrev h : ℕ
  h = s.size.high

  abbrev n : ℕ
  n = s.size.wide * s.size.high

  -- what is seen rests on the planes, which building tiles leaves
  seen_kept : (xs ys : List ℕ) (i j : ℕ) → i < w → j < h → Wrote (512 * n) (516 * n) xs ys → seen (view s ys) i j ≡ seen (view s xs) i j
  seen_kept xs ys i j iw jh so = seen_same s xs ys i j (planes_kept s (512 * n) (516 * n) xs ys i j iw jh (omega arith) so)

  -- one tile
  pub tile_where : (tx ty : ℕ) (xs ys : List ℕ) → 32 * tx < w → 32 * ty < h → TileBuilt s (tile_of w h tx ty) xs ys → BuiltWhere (λ x y. (x ≡ tx) × (y ≡ ty)) s xs ys
  tile_where tx ty xs ys tw th t =
      record {
        wrote = wrote_wider (begins w h (tile_of w h tx ty)) (ends w h (tile_of w h tx ty)) (512 * n) (516 * n) xs ys (omega arith) (tile_ends w h tx ty tw th) t.wrote;
        built = λ i j iw jh e.
            let u : TileBuilt s (tile_of w h (i / 32) (j / 32)) xs ys = subst₂ (λ (x y : ℕ). TileBuilt s (tile_of w h x y) xs ys) (sym e.0) (sym e.1) t in
            u.written (i % 32) (j % 32) (in_side w i iw) (in_side h j jh) ∙ ap (λ x. seen (view s xs) x (32 * (j / 32) + j % 32)) (div-add-mod i 32) ∙ ap (seen (view s xs) i) (div-add-mod j 32);
        kept = λ i j iw jh ne. pixel_kept _ _ xs ys (place w h i j) t.wrote (place_out w h i j tx ty iw jh tw th ne);
      }

  -- those of D, then those of E: those of F, which is D or E
  pub where_join : (D E F : ℕ → ℕ → Type 0) (xs ys zs : List ℕ) → ((x y : ℕ) → OrNot (E x y)) →
      ((x y : ℕ) → F x y → (E x y → ⊥) → D x y) → ((x y : ℕ) → D x y → F x y) → ((x y : ℕ) → E x y → F x y) →
      BuiltWhere D s xs ys → BuiltWhere E s ys zs → BuiltWhere F s xs zs
  where_join D E F xs ys zs test keep grow more so to =
      record {
        wrote = wrote_join (512 * n) (516 * n) xs ys zs so.wrote to.wrote;
        built = λ i j iw jh f.
            elim (test (i / 32) (j / 32)) [
              | inl e ↦ to.built i j iw jh e ∙ seen_kept xs ys i j iw jh so.wrote
              | inr ne ↦ to.kept i j iw jh ne ∙ so.built i j iw jh (keep (i / 32) (j / 32) f ne)
            ];
        kept = λ i j iw jh ne. to.kept i j iw jh (λ e. ne (more (i / 32) (j / 32) e)) ∙ so.kept i j iw jh (λ d. ne (grow (i / 32) (j / 32) d));
      }

  -- the same tiles by another name
  pub where_is : (D E : ℕ → ℕ → Type 0) (xs ys : List ℕ) → ((x y : ℕ) → D x y → E x y) → ((x y : ℕ) → E x y → D x y) → BuiltWhere D s xs ys → BuiltWhere E s xs ys
  where_is D E xs ys to from so =
      record { wrote = so.wrote; built = λ i j iw jh e. so.built i j iw jh (from (i / 32) (j / 32) e); kept = λ i j iw jh ne. so.kept i j iw jh (λ d. ne (to (i / 32) (j / 32) d)) }

  -- Where the tiles showed the page before an edit, and what is seen differs in an area only, then after a rebuild of that area they show the page as it is.
  pub shown_again : (p : Page) (a : Area) (xs ys : List ℕ) → Shown s p xs → OnlyIn a p (view s xs) → BuiltWhere (Meets a) s xs ys → Shown s (view s ys) ys
  shown_again p a xs ys was only so i j iw jh =
      elim (meets_or_not a (i / 32) (j / 32)) [
        | inl m ↦ so.built i j iw jh m
        | inr ne ↦ so.kept i j iw jh ne ∙ was i j iw jh
            ∙ only i j iw jh (λ u. ne ((omega (arith, u.0.0), omega (arith, u.0.1)), (omega (arith, u.1.0), omega (arith, u.1.1))))
      ]
      ∙ sym (seen_kept xs ys i j iw jh so.wrote)

  -- an edit of the planes that leaves every pixel outside an area changes what is seen in that area only
  pub only_in_by : (a : Area) (xs ys : List ℕ) → ((i j : ℕ) → i < w → j < h → (InArea a i j → ⊥) → SameAt s xs ys i j) → OnlyIn a (view s xs) (view s ys)
  only_in_by a xs ys so i j iw jh out = sym (seen_same s xs ys i j (so i j iw jh out))

  -- and where it leaves the tiles they show what they showed
  pub shown_kept : (p : Page) (xs ys : List ℕ) → ((q : ℕ) → 512 * n ≤ q → q < 516 * n → get_or ys q 0 ≡ get_or xs q 0) → Shown s p xs → Shown s p ys
  shown_kept p xs ys so was i j iw jh = pixel_within (512 * n) (516 * n) xs ys (place w h i j) so (omega arith) (place_ends w h i j iw jh) ∙ was i j iw jh

  -- the whole page
  pub shown_all : (xs ys : List ℕ) → BuiltWhere (Meets (record { left = 0; top = 0; wide = s.size.wide; high = s.size.high })) s xs ys → Shown s (view s ys) ys
  shown_all xs ys so i j iw jh =
      so.built i j iw jh ((omega arith, omega (arith, side_there w i iw)), (omega arith, omega (arith, side_there h j jh))) ∙ sym (seen_kept xs ys i j iw jh so.wrote)
