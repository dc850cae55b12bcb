-- The numbers of the blend modes. Assumes nothing.
use Rattle.std.specs.Prelude.{◌≡◌, ℕ, ◌<◌, Result, MatchResult}
use Rattle.pixel.specs.declared.modes.Mode.{Mode}
use Rattle.pixel.specs.declared.modes.NoMode.{NoMode}
use Rattle.pixel.specs.declared.modes.Mode.TheVariants.{Normal, Multiply, Screen, Darken, Lighten, Add}

abbrev pub mode_number : Mode → ℕ
mode_number Normal = 0
mode_number Multiply = 1
mode_number Screen = 2
mode_number Darken = 3
mode_number Lighten = 4
mode_number Add = 5

-- the result is the mode of this number, or an error with a number that no mode has
abbrev pub Decodes : ℕ → Result Mode NoMode → Type 0
Decodes byte r = MatchResult r (λ mode. mode_number mode ≡ byte) (λ e. (e.0 ≡ byte) × (5 < byte))
