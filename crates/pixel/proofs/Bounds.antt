-- Channels stay below 256 under shares, blends, mixes and merges. Assumes nothing.
use Rattle.std.proofs.Common.{◌≡◌, ℕ, ◌+◌, ◌-◌, ◌*◌, ◌/◌, ◌≤◌, Bool, cond, eqb, mul-le-mul_right, mul-le-mul_left, arith}
use Rattle.std.proofs.lemmas.Bool.{cond_both}
use Rattle.pixel.specs.declared.Pixel.{Pixel}
use Rattle.pixel.specs.Channels.{Channel, at_most_255, share, blended, lerp, mixed, merged_channel}
use Rattle.pixel.specs.Pixels.{PixelFits, clear, white, pixel_over, pixel_lerp, merged_by, merged}

pub clear_fits : PixelFits clear
clear_fits = omega arith

pub white_fits : PixelFits white
white_fits = omega arith

pub cond_fits : (b : Bool) (x y : Pixel) → PixelFits x → PixelFits y → PixelFits (cond b x y)
cond_fits b x y f g = cond_both b x y PixelFits (λ _. f) (λ _. g)

pub capped : (a : ℕ) → Channel (at_most_255 a)
unfolding at_most_255
capped a = omega arith

pub share_fits : (a b : ℕ) → Channel a → Channel b → Channel (share a b)
unfolding share
share_fits a b ha hb =
    let p : a * b ≤ a * 255 = mul-le-mul_left a (omega arith) in omega arith

pub blended_fits : (m a b : ℕ) → Channel a → Channel b → Channel (blended m a b)
unfolding blended
blended_fits m a b ha hb =
    cond_both (eqb m 0) _ _ Channel (λ _. ha)
    (λ _. cond_both (eqb m 1) _ _ Channel (λ _. share_fits a b ha hb)
    (λ _. cond_both (eqb m 2) _ _ Channel (λ _. omega arith)
    (λ _. cond_both (eqb m 3) _ _ Channel (λ _. omega arith)
    (λ _. cond_both (eqb m 4) _ _ Channel (λ _. omega arith) (λ _. capped (a + b))))))

lerp_sum : (a b s u : ℕ) → s + u ≡ 255 → Channel a → Channel b → Channel ((a * s + b * u + 127) / 255)
lerp_sum a b s u e ha hb =
    let p : a * s ≤ 255 * s = mul-le-mul_right s (omega arith) in
    let q : b * u ≤ 255 * u = mul-le-mul_right u (omega arith) in omega arith

pub lerp_fits : (s a b : ℕ) → s ≤ 255 → Channel a → Channel b → Channel (lerp s a b)
unfolding lerp
lerp_fits s a b hs ha hb = lerp_sum a b s (255 - s) (omega arith) ha hb

pub mixed_fits : (m s a b : ℕ) → s ≤ 255 → Channel a → Channel b → Channel (mixed m s a b)
unfolding mixed
mixed_fits m s a b hs ha hb = lerp_fits s (blended m a b) b hs (blended_fits m a b ha hb) hb

pub pixel_over_fits : (m s : ℕ) (a b : Pixel) → s ≤ 255 → PixelFits a → PixelFits b → PixelFits (pixel_over m s a b)
unfolding pixel_over
pixel_over_fits m s a b hs fa fb =
    let by : share a.alpha s ≤ 255 = omega (arith, share_fits a.alpha s fa.alpha_fits (omega arith)) in
    record {
      red_fits = mixed_fits m _ _ _ by fa.red_fits fb.red_fits;
      green_fits = mixed_fits m _ _ _ by fa.green_fits fb.green_fits;
      blue_fits = mixed_fits m _ _ _ by fa.blue_fits fb.blue_fits;
      alpha_fits = omega arith;
    }

pub pixel_lerp_fits : (s : ℕ) (a b : Pixel) → s ≤ 255 → PixelFits a → PixelFits b → PixelFits (pixel_lerp s a b)
unfolding pixel_lerp
pixel_lerp_fits s a b hs fa fb =
    record {
      red_fits = lerp_fits s _ _ hs fa.red_fits fb.red_fits;
      green_fits = lerp_fits s _ _ hs fa.green_fits fb.green_fits;
      blue_fits = lerp_fits s _ _ hs fa.blue_fits fb.blue_fits;
      alpha_fits = lerp_fits s _ _ hs fa.alpha_fits fb.alpha_fits;
    }

pub merged_channel_fits : (a b c d e : ℕ) → Channel (merged_channel a b c d e)
unfolding merged_channel
merged_channel_fits a b c d e = cond_both (eqb e 0) _ _ Channel (λ _. omega arith) (λ _. capped _)

pub merged_fits : (s : ℕ) (a b : Pixel) → PixelFits (merged s a b)
unfolding merged merged_by
merged_fits s a b = record { red_fits = merged_channel_fits _ _ _ _ _; green_fits = merged_channel_fits _ _ _ _ _; blue_fits = merged_channel_fits _ _ _ _ _; alpha_fits = capped _ }
