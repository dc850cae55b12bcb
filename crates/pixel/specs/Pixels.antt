-- Pixels, and how one comes to lie on another. Assumes nothing.
use Rattle.std.specs.Prelude.{ℕ, ◌+◌, ◌-◌, Bool, if◌then◌else◌, ◌&&◌, ◌==◌}
use Rattle.pixel.specs.declared.Pixel.{Pixel}
use Rattle.pixel.specs.Channels.{Channel, share, lerp, mixed, at_most_255, merged_channel, near}

-- each channel is one
pub record PixelFits (d : Pixel) : Type 0 where
  pub red_fits : Channel d.red
  pub green_fits : Channel d.green
  pub blue_fits : Channel d.blue
  pub alpha_fits : Channel d.alpha

abbrev pub clear : Pixel
clear = record { red = 0; green = 0; blue = 0; alpha = 0 }

abbrev pub white : Pixel
white = record { red = 255; green = 255; blue = 255; alpha = 255 }

-- a pixel laid on another by blend mode m and opacity `by`
unfoldable pub pixel_over : ℕ → ℕ → Pixel → Pixel → Pixel
pixel_over m by new old =
    record {
      red = mixed m (share new.alpha by) new.red old.red;
      green = mixed m (share new.alpha by) new.green old.green;
      blue = mixed m (share new.alpha by) new.blue old.blue;
      alpha = 255 - share (255 - share new.alpha by) (255 - old.alpha);
    }

-- new by how much is selected, old by the rest
unfoldable pub pixel_lerp : ℕ → Pixel → Pixel → Pixel
pixel_lerp s new old =
    record {
      red = lerp s new.red old.red;
      green = lerp s new.green old.green;
      blue = lerp s new.blue old.blue;
      alpha = lerp s new.alpha old.alpha;
    }

-- one pixel merged into another, always by the normal mode: colours weighed by their alpha; a is the alpha above
unfoldable pub merged_by : ℕ → Pixel → Pixel → Pixel
merged_by a new old =
    record {
      red = merged_channel new.red a old.red old.alpha (a + share old.alpha (255 - a));
      green = merged_channel new.green a old.green old.alpha (a + share old.alpha (255 - a));
      blue = merged_channel new.blue a old.blue old.alpha (a + share old.alpha (255 - a));
      alpha = at_most_255 (a + share old.alpha (255 - a));
    }

-- the same for a layer of opacity `by`
unfoldable pub merged : ℕ → Pixel → Pixel → Pixel
merged by new old = merged_by (share new.alpha by) new old

-- whether two pixels are similar: no channel more than n apart
unfoldable pub similar : ℕ → Pixel → Pixel → Bool
similar n a b = (near n a.red b.red && near n a.green b.green) && (near n a.blue b.blue && near n a.alpha b.alpha)

-- a channel by its number, and a pixel of four channels
abbrev pub channel_of : ℕ → Pixel → ℕ
channel_of k d = if k == 0 then d.red else if k == 1 then d.green else if k == 2 then d.blue else d.alpha

abbrev pub by_channels : (ℕ → ℕ) → Pixel
by_channels f = record { red = f 0; green = f 1; blue = f 2; alpha = f 3 }
