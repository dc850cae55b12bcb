-- Arithmetic of one channel, a number of 0 to 255. All divisions round down. Assumes nothing.
use Rattle.std.specs.Prelude.{ℕ, ◌+◌, ◌-◌, ◌*◌, ◌/◌, ◌<◌, min, max, Bool, if◌then◌else◌, ◌&&◌, ◌==◌, nat_le}

-- a number that a channel can be
abbrev pub Channel : ℕ → Type 0
Channel a = a < 256

-- how far apart two numbers are
abbrev pub apart : ℕ → ℕ → ℕ
apart a b = (a - b) + (b - a)

unfoldable pub at_most_255 : ℕ → ℕ
at_most_255 a = min a 255

-- a share of 255, rounded to nearest
unfoldable pub share : ℕ → ℕ → ℕ
share a b = (a * b + 127) / 255

-- one channel over another, by blend mode (0 normal, 1 multiply, 2 screen, 3 darken, 4 lighten, 5 add); new above old
unfoldable pub blended : ℕ → ℕ → ℕ → ℕ
blended m new old =
    if m == 0 then new
    else if m == 1 then share new old
    else if m == 2 then 255 - share (255 - new) (255 - old)
    else if m == 3 then min new old
    else if m == 4 then max new old
    else at_most_255 (new + old)

-- new by so much of 255, old by the rest
unfoldable pub lerp : ℕ → ℕ → ℕ → ℕ
lerp s new old = (new * s + old * (255 - s) + 127) / 255

-- old, with so much of the blended channel
unfoldable pub mixed : ℕ → ℕ → ℕ → ℕ → ℕ
mixed m by new old = lerp by (blended m new old) old

-- a channel merged into the one below, weighed by alpha: a is the alpha above, b the one below, c that of both together
unfoldable pub merged_channel : ℕ → ℕ → ℕ → ℕ → ℕ → ℕ
merged_channel new a old b c = if c == 0 then 0 else at_most_255 ((new * a * 255 + old * b * (255 - a) + 255 * c / 2) / (255 * c))

-- whether two channels are at most n apart
unfoldable pub near : ℕ → ℕ → ℕ → Bool
near n a b = nat_le a (b + n) && nat_le b (a + n)
