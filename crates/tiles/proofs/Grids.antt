-- Bytes written in a range, and rows of pixels in it. Assumes nothing.
use Rattle.std.proofs.Common.{◌≡◌, ℕ, ◌+◌, ◌-◌, ◌*◌, ◌<◌, ◌≤◌, List, length, get_or, take, drop, refl, ap, ◌∙◌, subst, inr, mul-le-mul_right, arith, length-drop, rules, below_more}
use borrow.Rule.Slice.PartMut.{put_mid}
use Rattle.std.proofs.lemmas.List.{length-take-le, places}
use Rattle.pixel.specs.declared.Pixel.{Pixel}
use Rattle.pixel.specs.Pixels.{white}
use Rattle.pixel.specs.Bytes.{pixel_at, PixelsTo, Wrote}
use Rattle.pixel.proofs.Steps.{same_pixel, pixel_kept, pixel_before}
use Rattle.tiles.specs.Grids.{GridTo}

pub wrote_none : (a e : ℕ) (xs : List ℕ) → Wrote a e xs xs
wrote_none a e xs = record { long = refl; before = λ q l. refl; after = λ q l. refl }

-- one after the other, and in a wider range
pub wrote_join : (a e : ℕ) (xs ys zs : List ℕ) → Wrote a e xs ys → Wrote a e ys zs → Wrote a e xs zs
wrote_join a e xs ys zs so to =
    record {
      long = to.long ∙ so.long;
      before = λ q l. to.before q l ∙ so.before q l;
      after = λ q l. to.after q l ∙ so.after q l;
    }

pub wrote_wider : (a e b f : ℕ) (xs ys : List ℕ) → b ≤ a → e ≤ f → Wrote a e xs ys → Wrote b f xs ys
wrote_wider a e b f xs ys l m so =
    record { long = so.long; before = λ q u. so.before q (omega arith); after = λ q u. so.after q (omega arith) }

-- a pixel whose bytes are all the same
pub pixel_within : (a e : ℕ) (xs ys : List ℕ) (q : ℕ) → ((p : ℕ) → a ≤ p → p < e → get_or ys p 0 ≡ get_or xs p 0) → a ≤ q → q + 4 ≤ e → pixel_at ys q ≡ pixel_at xs q
pixel_within a e xs ys q so l m =
    same_pixel (pixel_at ys q) (pixel_at xs q) (so q l (omega arith)) (so (q + 1) (omega arith) (omega arith)) (so (q + 2) (omega arith) (omega arith)) (so (q + 3) (omega arith) (omega arith))

module _ (at w : ℕ) where
  -- nothing written: what is there is what is wanted
  pub grid_same : (f : ℕ → ℕ → Pixel) (h : ℕ) (xs : List ℕ) → ((c r : ℕ) → c < w → r < h → pixel_at xs (at + 4 * (r * w + c)) ≡ f c r) → GridTo f at w h xs xs
  grid_same f h xs so = record { wrote = wrote_none at (at + 4 * (h * w)) xs; written = so }

  -- one more row
  pub grid_more : (f : ℕ → ℕ → Pixel) (g : ℕ → Pixel) (r : ℕ) (xs ys zs : List ℕ) → GridTo f at w r xs ys → PixelsTo g (at + 4 * (r * w)) w ys zs →
      ((c : ℕ) → c < w → g c ≡ f c r) → GridTo f at w (r + 1) xs zs
  grid_more f g r xs ys zs so to same =
      let P : ℕ → Type 0 = λ s. (c : ℕ) → c < w → pixel_at zs (at + 4 * (s * w + c)) ≡ f c s in
      let old : (s : ℕ) → s < r → P s
      = λ s sr c cw. pixel_before g (at + 4 * (r * w)) w ys zs (at + 4 * (s * w + c)) to (omega (arith, mul-le-mul_right w sr)) ∙ so.written c s cw sr in
      let new : P r
      = λ c cw. let e : at + 4 * (r * w + c) ≡ at + 4 * (r * w) + 4 * c = omega arith in ap (pixel_at zs) e ∙ to.written c cw ∙ same c cw in
      record {
        wrote = record {
          long = to.long ∙ so.wrote.long;
          before = λ q l. to.before q (omega arith) ∙ so.wrote.before q l;
          after = λ q l. to.after q (omega arith) ∙ so.wrote.after q (omega arith);
        };
        written = λ c s cw sr. below_more P r old new s sr c cw;
      }

  -- a pixel of a row that the loop has not come to
  pub grid_after : (f : ℕ → ℕ → Pixel) (h : ℕ) (xs ys : List ℕ) (q : ℕ) → GridTo f at w h xs ys → at + 4 * (h * w) ≤ q → pixel_at ys q ≡ pixel_at xs q
  grid_after f h xs ys q so l = pixel_kept at (at + 4 * (h * w)) xs ys q so.wrote (inr l)

  -- the same pixels by another name, and the loop at its end
  pub grid_is : (f g : ℕ → ℕ → Pixel) (r h : ℕ) (xs ys : List ℕ) → r ≡ h → ((i j : ℕ) → i < w → j < h → f i j ≡ g i j) → GridTo f at w r xs ys → GridTo g at w h xs ys
  grid_is f g r h xs ys e same so =
      let to : GridTo f at w h xs ys = subst (λ (k : ℕ). GridTo f at w k xs ys) e so in
      record { wrote = to.wrote; written = λ i j iw jh. to.written i j iw jh ∙ same i j iw jh }

  -- all rows, on rows that were written before
  pub grid_again : (f g : ℕ → ℕ → Pixel) (h : ℕ) (xs ys zs : List ℕ) → Wrote at (at + 4 * (h * w)) xs ys → GridTo f at w h ys zs →
      ((c r : ℕ) → c < w → r < h → f c r ≡ g c r) → GridTo g at w h xs zs
  grid_again f g h xs ys zs so to same =
      let e = at + 4 * (h * w) in
      record {
        wrote = wrote_join at e xs ys zs so to.wrote;
        written = λ c r cw rh. to.written c r cw rh ∙ same c r cw rh;
      }

  -- a part of the n bytes from `at` on, lent on and made white
  pub grid_white : (h n : ℕ) (xs t : List ℕ) → n ≡ 4 * (h * w) → at + n ≤ length xs → length t ≡ length (take n (drop at xs)) →
      ((k : ℕ) → k < length (take n (drop at xs)) → get_or t k 0 ≡ 255) → GridTo (λ c r. white) at w h xs (put_mid at n xs t)
  grid_white h n xs t e fits long so =
      let ys = put_mid at n xs t in
      let size : length (take n (drop at xs)) ≡ n = length-take-le n (drop at xs) (simp length-drop (omega arith)) in
      let same : length t ≡ n = long ∙ size in
      let byte : (q : ℕ) → at ≤ q → q < at + n → get_or ys q 0 ≡ 255 = λ q l m. let is = so (q - at) (omega arith) in grind (arith, places) in
      record {
        wrote = record { long = search (rules, places); before = λ q l. search (rules, places); after = λ q l. search (rules, places) };
        written = λ c r cw rh.
            let q = at + 4 * (r * w + c) in
            let m : q + 4 ≤ at + n = omega (arith, mul-le-mul_right w rh) in
            same_pixel (pixel_at ys q) white (byte q (omega arith) (omega arith)) (byte (q + 1) (omega arith) (omega arith))
            (byte (q + 2) (omega arith) (omega arith)) (byte (q + 3) (omega arith) (omega arith));
      }
