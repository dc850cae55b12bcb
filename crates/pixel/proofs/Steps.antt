-- The step of every loop over pixels and over bytes. Assumes nothing.
use Rattle.std.proofs.Common.{◌≡◌, ℕ, ◌+◌, ◌*◌, ◌<◌, ◌≤◌, ◌≢◌, ◌⊎◌, List, length, get_or, set, sym, refl, ◌∙◌, subst, inl, inr, arith, length-set, get_or-set_other, get_or-set_same, below_more}
use Rattle.pixel.specs.declared.Pixel.{Pixel}
use Rattle.pixel.specs.Bytes.{pixel_at, put_pixel, PixelsTo, PixelsBy, BytesTo, Wrote}

pub length-put : (xs : List ℕ) (at : ℕ) (p : Pixel) → length (put_pixel xs at p) ≡ length xs
length-put xs at p = simp length-set

-- a byte outside the four that are written
pub get_or-put_other : (xs : List ℕ) (at : ℕ) (p : Pixel) (q : ℕ) → (q < at) ⊎ (at + 4 ≤ q) → get_or (put_pixel xs at p) q 0 ≡ get_or xs q 0
get_or-put_other xs at p q h =
    let a : q ≢ at = λ e. elim h [ inl l ↦ omega arith | inr l ↦ omega arith ] in
    let b : q ≢ at + 1 = λ e. elim h [ inl l ↦ omega arith | inr l ↦ omega arith ] in
    let c : q ≢ at + 2 = λ e. elim h [ inl l ↦ omega arith | inr l ↦ omega arith ] in
    let d : q ≢ at + 3 = λ e. elim h [ inl l ↦ omega arith | inr l ↦ omega arith ] in
    rw (get_or-set_other, get_or-set_other, get_or-set_other, get_or-set_other)

-- a pixel is its four parts
mk : ℕ → ℕ → ℕ → ℕ → Pixel
mk r g b a = record { red = r; green = g; blue = b; alpha = a }

same_parts : (r s g h b c a d : ℕ) → r ≡ s → g ≡ h → b ≡ c → a ≡ d → mk r g b a ≡ mk s h c d
same_parts r s g h b c a d e f i j = cc

pub same_pixel : (p q : Pixel) → p.red ≡ q.red → p.green ≡ q.green → p.blue ≡ q.blue → p.alpha ≡ q.alpha → p ≡ q
unfolding mk
same_pixel p q e f g h = same_parts p.red q.red p.green q.green p.blue q.blue p.alpha q.alpha e f g h

-- the pixel that is written
pub pixel_put_same : (xs : List ℕ) (at : ℕ) (p : Pixel) → at + 4 ≤ length xs → pixel_at (put_pixel xs at p) at ≡ p
pixel_put_same xs at p h =
    let ab : at ≢ at + 1 = λ e. omega arith in
    let ac : at ≢ at + 2 = λ e. omega arith in
    let ad : at ≢ at + 3 = λ e. omega arith in
    let bc : at + 1 ≢ at + 2 = λ e. omega arith in
    let bd : at + 1 ≢ at + 3 = λ e. omega arith in
    let cd : at + 2 ≢ at + 3 = λ e. omega arith in
    let la : at < length xs = omega arith in
    let lb : at + 1 < length (set xs at p.red) = simp length-set (omega arith) in
    let lc : at + 2 < length (set (set xs at p.red) (at + 1) p.green) = simp length-set (omega arith) in
    let ld : at + 3 < length (set (set (set xs at p.red) (at + 1) p.green) (at + 2) p.blue) = simp length-set (omega arith) in
    same_pixel (pixel_at (put_pixel xs at p) at) p
    (rw (get_or-set_other, get_or-set_other, get_or-set_other, get_or-set_same))
    (rw (get_or-set_other, get_or-set_other, get_or-set_same))
    (rw (get_or-set_other, get_or-set_same))
    (rw get_or-set_same)

pub pixel_put_other : (xs : List ℕ) (at : ℕ) (p : Pixel) (q : ℕ) → (q + 4 ≤ at) ⊎ (at + 4 ≤ q) → pixel_at (put_pixel xs at p) q ≡ pixel_at xs q
pixel_put_other xs at p q h =
    let out : (m : ℕ) → m < 4 → (q + m < at) ⊎ (at + 4 ≤ q + m) = λ m l. elim h [ inl u ↦ inl (omega arith) | inr u ↦ inr (omega arith) ] in
    let out0 : (q < at) ⊎ (at + 4 ≤ q) = elim h [ inl u ↦ inl (omega arith) | inr u ↦ inr (omega arith) ] in
    same_pixel (pixel_at (put_pixel xs at p) q) (pixel_at xs q) (get_or-put_other xs at p q out0) (get_or-put_other xs at p (q + 1) (out 1 (omega arith)))
    (get_or-put_other xs at p (q + 2) (out 2 (omega arith))) (get_or-put_other xs at p (q + 3) (out 3 (omega arith)))

pub pixels_none : (f : ℕ → Pixel) (at : ℕ) (xs : List ℕ) → PixelsTo f at 0 xs xs
pixels_none f at xs = record { long = refl; written = λ k h. absurd (omega arith); before = λ q h. refl; after = λ q h. refl }

pub pixels_more : (f : ℕ → Pixel) (at k : ℕ) (xs ys : List ℕ) (p : Pixel) → at + 4 * (k + 1) ≤ length ys → p ≡ f k → PixelsTo f at k xs ys → PixelsTo f at (k + 1) xs (put_pixel ys (at + 4 * k) p)
pixels_more f at k xs ys p long is so = record {
  long = length-put ys (at + 4 * k) p ∙ so.long;
  written = below_more (λ m. pixel_at (put_pixel ys (at + 4 * k) p) (at + 4 * m) ≡ f m) k (λ m h. pixel_put_other ys (at + 4 * k) p (at + 4 * m) (inl (omega arith)) ∙ so.written m h) (pixel_put_same ys (at + 4 * k) p (omega arith) ∙ is);
  before = λ q h. get_or-put_other ys (at + 4 * k) p q (inl (omega arith)) ∙ so.before q h;
  after = λ q h. get_or-put_other ys (at + 4 * k) p q (inr (omega arith)) ∙ so.after q (omega arith);
}

pub bytes_none : (f : ℕ → ℕ) (at : ℕ) (xs : List ℕ) → BytesTo f at 0 xs xs
bytes_none f at xs = record { long = refl; written = λ k h. absurd (omega arith); before = λ q h. refl; after = λ q h. refl }

pub bytes_more : (f : ℕ → ℕ) (at k : ℕ) (xs ys : List ℕ) (v : ℕ) → at + (k + 1) ≤ length ys → v ≡ f k → BytesTo f at k xs ys → BytesTo f at (k + 1) xs (set ys (at + k) v)
bytes_more f at k xs ys v long is so = record {
  long = length-set ys (at + k) v ∙ so.long;
  written = below_more (λ m. get_or (set ys (at + k) v) (at + m) 0 ≡ f m) k (λ m h. get_or-set_other ys (at + k) (at + m) v 0 (λ e. omega arith) ∙ so.written m h) (get_or-set_same ys (at + k) v 0 (omega arith) ∙ is);
  before = λ q h. get_or-set_other ys (at + k) q v 0 (λ e. omega arith) ∙ so.before q h;
  after = λ q h. get_or-set_other ys (at + k) q v 0 (λ e. omega arith) ∙ so.after q (omega arith);
}

-- the same after a call that writes the pixel
pub pixels_step : (f : ℕ → Pixel) (at k : ℕ) (xs ys zs : List ℕ) (p : Pixel) → at + 4 * (k + 1) ≤ length ys → zs ≡ put_pixel ys (at + 4 * k) p → p ≡ f k → PixelsTo f at k xs ys → PixelsTo f at (k + 1) xs zs
pixels_step f at k xs ys zs p long e is so = subst (λ (ws : List ℕ). PixelsTo f at (k + 1) xs ws) (sym e) (pixels_more f at k xs ys p long is so)

-- what a loop leaves, without what it writes
pub pixels_wrote : (f : ℕ → Pixel) (at n : ℕ) (xs ys : List ℕ) → PixelsTo f at n xs ys → Wrote at (at + 4 * n) xs ys
pixels_wrote f at n xs ys so = record { long = so.long; before = so.before; after = so.after }

pub bytes_wrote : (f : ℕ → ℕ) (at n : ℕ) (xs ys : List ℕ) → BytesTo f at n xs ys → Wrote at (at + n) xs ys
bytes_wrote f at n xs ys so = record { long = so.long; before = so.before; after = so.after }

-- a pixel outside what is written
pub pixel_kept : (a e : ℕ) (xs ys : List ℕ) (q : ℕ) → Wrote a e xs ys → (q + 4 ≤ a) ⊎ (e ≤ q) → pixel_at ys q ≡ pixel_at xs q
pixel_kept a e xs ys q so h =
    let byte : (p : ℕ) → q ≤ p → p < q + 4 → get_or ys p 0 ≡ get_or xs p 0
    = λ p l m. elim h [ inl u ↦ so.before p (omega arith) | inr u ↦ so.after p (omega arith) ] in
    same_pixel (pixel_at ys q) (pixel_at xs q) (byte q (omega arith) (omega arith)) (byte (q + 1) (omega arith) (omega arith)) (byte (q + 2) (omega arith) (omega arith)) (byte (q + 3) (omega arith) (omega arith))

pub pixel_after : (f : ℕ → Pixel) (at n : ℕ) (xs ys : List ℕ) (q : ℕ) → PixelsTo f at n xs ys → at + 4 * n ≤ q → pixel_at ys q ≡ pixel_at xs q
pixel_after f at n xs ys q so h = pixel_kept at (at + 4 * n) xs ys q (pixels_wrote f at n xs ys so) (inr h)

pub pixel_before : (f : ℕ → Pixel) (at n : ℕ) (xs ys : List ℕ) (q : ℕ) → PixelsTo f at n xs ys → q + 4 ≤ at → pixel_at ys q ≡ pixel_at xs q
pixel_before f at n xs ys q so h = pixel_kept at (at + 4 * n) xs ys q (pixels_wrote f at n xs ys so) (inl h)

-- a step's run: nothing written, and one pixel more
pub pixels_by_none : (R : Pixel → Pixel → Pixel → Type 0) (from at : ℕ) (xs : List ℕ) → PixelsBy R from at 0 xs xs
pixels_by_none R from at xs = record { long = refl; written = λ k h. absurd (omega arith); before = λ q h. refl; after = λ q h. refl }

pub pixels_by_wrote : (R : Pixel → Pixel → Pixel → Type 0) (from at n : ℕ) (xs ys : List ℕ) → PixelsBy R from at n xs ys → Wrote at (at + 4 * n) xs ys
pixels_by_wrote R from at n xs ys so = record { long = so.long; before = so.before; after = so.after }

pub pixels_by_step : (R : Pixel → Pixel → Pixel → Type 0) (from at n k : ℕ) (xs ys zs : List ℕ) (p : Pixel) {a b : Pixel} → k < n → at + 4 * n ≤ length xs → (at + 4 * n ≤ from) ⊎ (from + 4 * n ≤ at) →
    zs ≡ put_pixel ys (at + 4 * k) p → PixelsBy R from at k xs ys → a ≡ pixel_at ys (from + 4 * k) → b ≡ pixel_at ys (at + 4 * k) → R a b p → PixelsBy R from at (k + 1) xs zs
pixels_by_step R from at n k xs ys zs p {a} {b} less long apart e so mate here allowed =
    let wrote = pixels_by_wrote R from at k xs ys so in
    let out : (from + 4 * k + 4 ≤ at) ⊎ (at + 4 * k ≤ from + 4 * k) = elim apart [ inl l ↦ inr (omega arith) | inr l ↦ inl (omega arith) ] in
    let from_is : a ≡ pixel_at xs (from + 4 * k) = mate ∙ pixel_kept _ _ xs ys (from + 4 * k) wrote out in
    let at_is : b ≡ pixel_at xs (at + 4 * k) = here ∙ pixel_kept _ _ xs ys (at + 4 * k) wrote (inr (omega arith)) in
    let last : R (pixel_at xs (from + 4 * k)) (pixel_at xs (at + 4 * k)) p = subst (λ (c : Pixel). R c (pixel_at xs (at + 4 * k)) p) from_is (subst (λ (c : Pixel). R a c p) at_is allowed) in
    let ws = put_pixel ys (at + 4 * k) p in
    subst (λ (us : List ℕ). PixelsBy R from at (k + 1) xs us) (sym e) (record {
      long = length-put ys (at + 4 * k) p ∙ so.long;
      written = below_more (λ m. R (pixel_at xs (from + 4 * m)) (pixel_at xs (at + 4 * m)) (pixel_at ws (at + 4 * m))) k
          (λ m h. subst (R (pixel_at xs (from + 4 * m)) (pixel_at xs (at + 4 * m))) (sym (pixel_put_other ys (at + 4 * k) p (at + 4 * m) (inl (omega arith)))) (so.written m h))
          (subst (R (pixel_at xs (from + 4 * k)) (pixel_at xs (at + 4 * k))) (sym (pixel_put_same ys (at + 4 * k) p (omega (arith, so.long)))) last);
      before = λ q h. get_or-put_other ys (at + 4 * k) p q (inl (omega arith)) ∙ so.before q h;
      after = λ q h. get_or-put_other ys (at + 4 * k) p q (inr (omega arith)) ∙ so.after q (omega arith);
    })

-- where what is allowed is one pixel, that one is written
pub pixels_by_one : (R : Pixel → Pixel → Pixel → Type 0) (f : Pixel → Pixel → Pixel) (from at n : ℕ) (xs ys : List ℕ) → ((k : ℕ) → k < n → R (pixel_at xs (from + 4 * k)) (pixel_at xs (at + 4 * k)) (pixel_at ys (at + 4 * k)) → pixel_at ys (at + 4 * k) ≡ f (pixel_at xs (from + 4 * k)) (pixel_at xs (at + 4 * k))) →
    PixelsBy R from at n xs ys → PixelsTo (λ k. f (pixel_at xs (from + 4 * k)) (pixel_at xs (at + 4 * k))) at n xs ys
pixels_by_one R f from at n xs ys one so = record { long = so.long; written = λ k h. one k h (so.written k h); before = so.before; after = so.after }
