-- Filters keep channels below 256. Assumes nothing.
use Rattle.std.proofs.Common.{ℕ, zero, suc, ◌*◌, ◌/◌, ◌<◌, ◌≤◌, eqb, le_trans, div-lt_iff_lt-mul, div-le_self, arith}
use Rattle.std.proofs.lemmas.Bool.{cond_both}
use Rattle.pixel.specs.declared.Pixel.{Pixel}
use Rattle.page.specs.Layers.{Picture}
use Rattle.page.specs.Filters.{Filter, invert, curve, box_blur, edges, filtered, mean, change, row_sum, square_sum, window_start, window_size}
use Rattle.page.specs.Fits.{FilterFits}
use Rattle.pixel.specs.Channels.{Channel}
use Rattle.pixel.specs.Pixels.{PixelFits, channel_of}
use Rattle.pixel.proofs.Bounds.{capped}

pub row_sum_most : (f : ℕ → ℕ) (m a n : ℕ) → ((k : ℕ) → f k ≤ m) → row_sum f a n ≤ m * n
row_sum_most f m a zero h = omega arith
row_sum_most f m a (suc n) h = omega (arith, h a, row_sum_most f m (suc a) n h)

div_most : (s m c : ℕ) → s ≤ m * c → s / c ≤ m
div_most s m zero h = le_trans (div-le_self s 0) (omega arith)
div_most s m (suc c) h = let lt : s / suc c < suc m = (div-lt_iff_lt-mul {k = suc c} {x = s} {y = suc m} (omega arith)).1 (omega arith) in omega arith

quotient_fits : (s m n : ℕ) → s ≤ 255 * m * n → Channel (s / (m * n))
quotient_fits s m n h = omega (arith, div_most s 255 (m * n) (omega arith))

mean_fits : (f : ℕ → ℕ → ℕ) (r w h i j : ℕ) → ((a b : ℕ) → Channel (f a b)) → Channel (mean f r w h i j)
unfolding mean
mean_fits f r w h i j fits =
    let rows : (b : ℕ) → row_sum (λ a. f a b) (window_start r i) (window_size r i w) ≤ 255 * window_size r i w
    = λ b. row_sum_most (λ a. f a b) 255 (window_start r i) (window_size r i w) (λ a. omega (arith, fits a b)) in
    let most : square_sum f (window_start r i) (window_start r j) (window_size r i w) (window_size r j h) ≤ 255 * window_size r i w * window_size r j h
    = row_sum_most (λ b. row_sum (λ a. f a b) (window_start r i) (window_size r i w)) (255 * window_size r i w) (window_start r j) (window_size r j h) rows in
    quotient_fits _ (window_size r i w) (window_size r j h) most

change_fits : (f : ℕ → ℕ → ℕ) (w h i j : ℕ) → Channel (change f w h i j)
unfolding change
change_fits f w h i j = capped _

channel_fits : (k : ℕ) (d : Pixel) → PixelFits d → Channel (channel_of k d)
channel_fits k d f =
    cond_both (eqb k 0) _ _ Channel (λ _. f.red_fits) (λ _. cond_both (eqb k 1) _ _ Channel (λ _. f.green_fits) (λ _. cond_both (eqb k 2) _ _ Channel (λ _. f.blue_fits) (λ _. f.alpha_fits)))

pub filtered_fits : (e : Filter) (w h : ℕ) (f : Picture) → FilterFits e → ((i j : ℕ) → PixelFits (f i j)) → (i j : ℕ) → PixelFits (filtered e w h f i j)
filtered_fits invert w h f g s i j =
    record { red_fits = omega arith; green_fits = omega arith; blue_fits = omega arith; alpha_fits = (s i j).alpha_fits }
filtered_fits (curve t) w h f g s i j = record { red_fits = g.1 _; green_fits = g.1 _; blue_fits = g.1 _; alpha_fits = (s i j).alpha_fits }
filtered_fits (box_blur r) w h f g s i j =
    let part : (k : ℕ) → Channel (mean (λ a b. channel_of k (f a b)) r w h i j) = λ k. mean_fits (λ a b. channel_of k (f a b)) r w h i j (λ a b. channel_fits k (f a b) (s a b)) in
    record { red_fits = part 0; green_fits = part 1; blue_fits = part 2; alpha_fits = part 3 }
filtered_fits edges w h f g s i j =
    let part : (k : ℕ) → Channel (change (λ a b. channel_of k (f a b)) w h i j) = λ k. change_fits (λ a b. channel_of k (f a b)) w h i j in
    record { red_fits = part 0; green_fits = part 1; blue_fits = part 2; alpha_fits = (s i j).alpha_fits }
