-- A selection of all or nothing takes the new pixel over, or leaves the old one. Assumes nothing.
use Rattle.std.proofs.Common.{◌≡◌, ℕ, Bool, true, false, cond, arith}
use Rattle.pixel.specs.declared.Pixel.{Pixel}
use Rattle.pixel.specs.Channels.{lerp}
use Rattle.pixel.specs.Pixels.{pixel_lerp}
use Rattle.pixel.proofs.Steps.{same_pixel}

all_of : (new old : ℕ) → lerp 255 new old ≡ new
unfolding lerp
all_of new old = omega arith

none_of : (new old : ℕ) → lerp 0 new old ≡ old
unfolding lerp
none_of new old = omega arith

pub lerp_all : (new old : Pixel) → pixel_lerp 255 new old ≡ new
unfolding pixel_lerp
lerp_all new old = same_pixel (pixel_lerp 255 new old) new (all_of _ _) (all_of _ _) (all_of _ _) (all_of _ _)

pub lerp_none : (new old : Pixel) → pixel_lerp 0 new old ≡ old
unfolding pixel_lerp
lerp_none new old = same_pixel (pixel_lerp 0 new old) old (none_of _ _) (none_of _ _) (none_of _ _) (none_of _ _)

pub lerp_mask : (b : Bool) (new old : Pixel) → pixel_lerp (cond b 255 0) new old ≡ cond b new old
lerp_mask true new old = lerp_all new old
lerp_mask false new old = lerp_none new old
