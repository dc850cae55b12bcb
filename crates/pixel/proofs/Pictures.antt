-- Pictures written row by row, and parts of them. Assumes nothing.
use Rattle.std.proofs.Common.{◌≡◌, ℕ, ◌+◌, ◌-◌, ◌*◌, ◌<◌, ◌≤◌, true, false, ◌⊎◌, List, sym, refl, ap, ◌∙◌, ap₂, inl, inr, mul-le-mul_right, arith}
use Rattle.std.proofs.lemmas.Bool.{cases_eq, cases_order, cases_lt, cases_Bool, cond-true, cond-false, and_parts, leb-true, ltb-true, le-leb, lt-ltb, and_from, true≢false}
use Rattle.pixel.specs.declared.Pixel.{Pixel}
use Rattle.pixel.specs.declared.areas.Area.{Area}
use Rattle.pixel.specs.Areas.{Within, is_within, InArea, inside, first_rows}
use Rattle.pixel.specs.Bytes.{pixel_at, PixelsTo, Wrote}
use Rattle.pixel.specs.Pictures.{picture_in, PictureTo, RegionTo}
use Rattle.pixel.proofs.Steps.{pixel_kept, pixels_wrote}

-- the tests for a run and for a part say what they are
pub within_true : (first n k : ℕ) → is_within first n k ≡ true → Within first n k
within_true first n k e = let p = and_parts _ _ e in (leb-true _ _ p.0, ltb-true _ _ p.1)

pub true_within : (first n k : ℕ) → Within first n k → is_within first n k ≡ true
true_within first n k u = and_from _ _ (le-leb _ _ u.0) (lt-ltb _ _ u.1)

pub inside_true : (a : Area) (i j : ℕ) → inside a i j ≡ true → InArea a i j
inside_true a i j e = let p = and_parts _ _ e in (within_true _ _ i p.0, within_true _ _ j p.1)

pub true_inside : (a : Area) (i j : ℕ) → InArea a i j → inside a i j ≡ true
true_inside a i j u = and_from _ _ (true_within _ _ i u.0) (true_within _ _ j u.1)

pub inside_false : (a : Area) (i j : ℕ) → inside a i j ≡ false → InArea a i j → ⊥
inside_false a i j e u = true≢false (sym (true_inside a i j u) ∙ e)

pub false_inside : (a : Area) (i j : ℕ) → (InArea a i j → ⊥) → inside a i j ≡ false
false_inside a i j n = elim (cases_Bool (inside a i j)) [ inl t ↦ absurd (n (inside_true a i j t)) | inr f ↦ f ]

-- either way
pub inside_or_not : (a : Area) (i j : ℕ) → InArea a i j ⊎ (InArea a i j → ⊥)
inside_or_not a i j = elim (cases_Bool (inside a i j)) [ inl t ↦ inl (inside_true a i j t) | inr f ↦ inr (inside_false a i j f) ]

module _ (at w h : ℕ) where
  -- nothing written
  pub picture_none : (f : ℕ → ℕ → Pixel) (xs : List ℕ) → ((i j : ℕ) → i < w → j < h → picture_in xs at w i j ≡ f i j) → PictureTo f at w h xs xs
  picture_none f xs so = record { long = refl; written = so; before = λ q l. refl; after = λ q l. refl }

  -- the same picture by another name
  pub picture_is : (f g : ℕ → ℕ → Pixel) (xs ys : List ℕ) → ((i j : ℕ) → i < w → j < h → f i j ≡ g i j) → PictureTo f at w h xs ys → PictureTo g at w h xs ys
  picture_is f g xs ys same so =
      record { long = so.long; written = λ i j iw jh. so.written i j iw jh ∙ same i j iw jh; before = so.before; after = so.after }

  pub picture_wrote : (f : ℕ → ℕ → Pixel) (xs ys : List ℕ) → PictureTo f at w h xs ys → Wrote at (at + 4 * (w * h)) xs ys
  picture_wrote f xs ys so = record { long = so.long; before = so.before; after = so.after }

  -- a pixel is one of the n from column c on in row j, or lies before or behind them all
  run_or_not : (c j n i k : ℕ) → c + n ≤ w → i < w →
      ((k ≡ j) × Within c n i) ⊎ (((k ≡ j) × Within c n i → ⊥) × ((at + 4 * (k * w + i) + 4 ≤ at + 4 * (j * w + c)) ⊎ (at + 4 * (j * w + c) + 4 * n ≤ at + 4 * (k * w + i))))
  run_or_not c j n i k fits iw =
      elim (cases_order k j) [
        | inl e ↦
            let same : k * w ≡ j * w = ap (λ m. m * w) e in
            elim (cases_lt i c) [
              | inl l ↦ inr ((λ u. omega (arith, u.1)), inl (omega arith))
              | inr l ↦ elim (cases_lt i (c + n)) [
                | inl m ↦ inl (e, (l, m))
                | inr m ↦ inr ((λ u. omega (arith, u.1)), inr (omega arith))
              ]
            ]
        | inr o ↦ elim o [
          | inl l ↦ inr ((λ u. omega (arith, u.0)), inl (omega (arith, mul-le-mul_right {m = k + 1} {n = j} w (omega arith))))
          | inr l ↦ inr ((λ u. omega (arith, u.0)), inr (omega (arith, mul-le-mul_right {m = j + 1} {n = k} w (omega arith))))
        ]
      ]

  -- ONE MORE RUN: n pixels from column c of row j on are written
  pub picture_run : (f g : ℕ → ℕ → Pixel) (new : ℕ → Pixel) (c j n : ℕ) (xs ys zs : List ℕ) → c + n ≤ w → j < h → PictureTo f at w h xs ys → PixelsTo new (at + 4 * (j * w + c)) n ys zs →
      ((k : ℕ) → k < n → new k ≡ g (c + k) j) → ((i k : ℕ) → i < w → k < h → ((k ≡ j) × Within c n i → ⊥) → f i k ≡ g i k) → PictureTo g at w h xs zs
  picture_run f g new c j n xs ys zs fits jh so to here there =
      let row = mul-le-mul_right {m = j + 1} {n = h} w (omega arith) in
      record {
        long = to.long ∙ so.long;
        written = λ i k iw kh.
            elim (run_or_not c j n i k fits iw) [
              | inl u ↦
                  let col : i ≡ c + (i - c) = omega (arith, u.1) in
                  let place : at + 4 * (k * w + i) ≡ at + 4 * (j * w + c) + 4 * (i - c) = omega (arith, u.1, ap (λ m. m * w) u.0) in
                  ap (pixel_at zs) place ∙ to.written (i - c) (omega (arith, u.1)) ∙ here (i - c) (omega (arith, u.1)) ∙ ap₂ g (sym col) (sym u.0)
              | inr u ↦ pixel_kept _ _ ys zs (at + 4 * (k * w + i)) (pixels_wrote _ _ _ ys zs to) u.1 ∙ so.written i k iw kh ∙ there i k iw kh u.0
            ];
        before = λ q l. to.before q (omega arith) ∙ so.before q l;
        after = λ q l. to.after q (omega arith) ∙ so.after q l;
      }

  -- a part with no rows yet, and one more of its rows
  pub region_none : (g : ℕ → ℕ → Pixel) (a : Area) (xs : List ℕ) → RegionTo g at w h (first_rows a 0) xs xs
  region_none g a xs = picture_none _ xs (λ i j iw jh. sym (cond-false _ _ _ (false_inside (first_rows a 0) i j (λ u. omega (arith, u.1)))))

  pub region_row : (g : ℕ → ℕ → Pixel) (new : ℕ → Pixel) (a : Area) (r : ℕ) (xs ys zs : List ℕ) → a.left + a.wide ≤ w → a.top + r < h →
      RegionTo g at w h (first_rows a r) xs ys → PixelsTo new (at + 4 * ((a.top + r) * w + a.left)) a.wide ys zs → ((k : ℕ) → k < a.wide → new k ≡ g (a.left + k) (a.top + r)) →
      RegionTo g at w h (first_rows a (r + 1)) xs zs
  region_row g new a r xs ys zs right low so to is =
      picture_run _ _ new a.left (a.top + r) a.wide xs ys zs right low so to
      (λ k l. is k l ∙ sym (cond-true _ _ _ (true_inside (first_rows a (r + 1)) (a.left + k) (a.top + r) ((omega arith, omega arith), (omega arith, omega arith)))))
      (λ i k iw kh out.
      elim (inside_or_not (first_rows a r) i k) [
        | inl u ↦ cond-true _ _ _ (true_inside (first_rows a r) i k u) ∙ sym (cond-true _ _ _ (true_inside (first_rows a (r + 1)) i k (u.0, (omega (arith, u.1), omega (arith, u.1)))))
        | inr n ↦
            let no : InArea (first_rows a (r + 1)) i k → ⊥
            = λ v. elim (cases_eq k (a.top + r)) [ inl e ↦ out (e, v.0) | inr ne ↦ n (v.0, (omega (arith, v.1), omega (arith, v.1))) ] in
            cond-false _ _ _ (false_inside (first_rows a r) i k n) ∙ sym (cond-false _ _ _ (false_inside (first_rows a (r + 1)) i k no))
      ])
