-- What programs see of the plain engine: answers to turns, pixels, and edits in words. Assumes nothing.
use Rattle.std.specs.Prelude.{ℕ, ◌*◌, List, [], ◌∷◌, ◌++◌, Some, None, codes, Option}
use Rattle.std.specs.List.{flat_map}
use Rattle.pixel.specs.declared.Pixel.{Pixel}
use Rattle.pixel.specs.Pixels.{white}
use Rattle.page.specs.Edits as page
use Rattle.page.specs.History.{in_order}
use Rattle.codec.specs.declared.file.Lengths.{Lengths}
use Rattle.codec.specs.Written.{written}
use Rattle.words.specs.Lines.{worded}
use Rattle.reference.specs.declared.state.Engine.{Engine}
use Rattle.reference.specs.Turning.{history}

-- beyond the page all is white
abbrev pub or_white : Option Pixel → Pixel
or_white (Some p) = p
or_white None = white

-- what is lent for pages of up to n by n
abbrev pub lent_for : ℕ → Lengths
lent_for n = record { turns = 8192 * 65536; tiles = 544 * (n * n); work = n * n }

-- an edit as a line of words; and those of a page, with `undone` alone on a line before the undone ones
abbrev pub edit_line : page.Edit → List ℕ
edit_line e = worded (written e) ++ 10 ∷ []

abbrev pub edits_text : Engine → List ℕ
edits_text s = flat_map edit_line (in_order (history s).done []) ++ (codes "undone\n" ++ flat_map edit_line (history s).undone)
