-- Desks with memory of their own: what a turn makes of one, and what one shows. Assumes nothing.
use Rattle.std.specs.Prelude.{ℕ, List, [], Some, None, Ok, Err, vec_items, Option, Result}
use Rattle.pixel.specs.declared.Pixel.{Pixel}
use Rattle.pixel.specs.Pixels.{white}
use Rattle.codec.specs.Meaning.{Bytes}
use Rattle.words.specs.declared.taking.Fault.{Fault}
use Rattle.words.specs.declared.taking.Fault.TheVariants.{Refused, NoMemory}
use Rattle.editor.specs.declared.desk.Desk.{Desk}
use Rattle.editor.specs.Runs as runs
use Rattle.editor.specs.Runs.{Takes, shown}

-- the desk as runs have it; a program lends no slice for files
abbrev pub desk_of : Desk → runs.Desk
desk_of d = record { editor = d.editor; turns = vec_items d.memory.turns; tiles = vec_items d.memory.tiles; work = vec_items d.memory.work; file = [] }

-- a turn by its bytes: what the contract of `turn` says, with the answer that was given; memory is never wanting
abbrev pub DeskSteps : Desk → List ℕ → Result (Unit {0}) Fault → Desk → Type 0
DeskSteps d bs (Ok u) d' = Bytes bs × Takes (desk_of d) bs (desk_of d') (Ok u)
DeskSteps d bs (Err (Refused why)) d' = Bytes bs × Takes (desk_of d) bs (desk_of d') (Err why)
DeskSteps d bs (Err NoMemory) d' = ⊥

-- the pixel shown, and white beyond the page
abbrev pub or_white : Option Pixel → Pixel
or_white (Some p) = p
or_white None = white

abbrev pub seen_of : Desk → ℕ → ℕ → Pixel
seen_of d x y = or_white (shown (desk_of d) x y)
