-- The command line of a program that takes turns, as words behind its name. Assumes nothing.
use Rattle.std.specs.Prelude.{ℕ, if◌then◌else◌, ◌&&◌, List, [], length, drop, Some, None, codes, Option, ◌==◌, nat_le, slice_index_or}
use Rattle.std.specs.Option.{option_map}
use Rattle.std.specs.Str.{bytes_eq}
use Rattle.words.specs.declared.call.Source.{Source}
use Rattle.words.specs.declared.call.Source.TheVariants.{New, Open}
use Rattle.words.specs.declared.call.Call.{Call}
use Rattle.words.specs.Digits.{number_of}

-- where a page comes from: a blank one of a size, or a file
pub data From : Type 0 where
  blank : ℕ → ℕ → From
  file : List ℕ → From

-- what a call asks for: a page, the file that it is saved to, and how large pages may be
pub record Asked : Type 0 where
  pub source : From
  pub save : Option (List ℕ)
  pub size : Option ℕ

-- what a call in code asks for
abbrev pub from_of : Source → From
from_of (New w h) = blank w h
from_of (Open p) = file p.now

abbrev pub asked : Call → Asked
asked c = record { source = from_of c.source; save = option_map (λ s. s.now) c.save; size = c.size }

-- a size is a number of 1 to 4096
abbrev pub some_of : Option ℕ → Option ℕ
some_of None = None
some_of (Some n) = if nat_le 1 n then Some n else None

abbrev pub size_of : List ℕ → Option ℕ
size_of w = some_of (number_of 4096 w)

-- one option more, `--save FILE` or `--size N`, each of which may be given once
abbrev pub with_save : Asked → Option (List ℕ) → List ℕ → Option Asked
with_save a None v = Some (record { source = a.source; save = Some v; size = a.size })
with_save a (Some w) v = None

abbrev pub with_size : Asked → Option ℕ → Option ℕ → Option Asked
with_size a None None = None
with_size a None (Some n) = Some (record { source = a.source; save = a.save; size = Some n })
with_size a (Some m) o = None

abbrev pub with_option : Asked → List ℕ → List ℕ → Option Asked
with_option a name v =
    if bytes_eq name (codes "--save") then with_save a a.save v
    else if bytes_eq name (codes "--size") then with_size a a.size (size_of v)
    else None

abbrev pub with_second : Option Asked → List ℕ → List ℕ → Option Asked
with_second None name v = None
with_second (Some a) name v = with_option a name v

-- the options of a list of words
abbrev pub with_options : Asked → List (List ℕ) → Option Asked
with_options a ws =
    if length ws == 0 then Some a
    else if length ws == 2 then with_option a (slice_index_or ws 0 []) (slice_index_or ws 1 [])
    else if length ws == 4 then with_second (with_option a (slice_index_or ws 0 []) (slice_index_or ws 1 [])) (slice_index_or ws 2 []) (slice_index_or ws 3 [])
    else None

abbrev pub bare : From → Asked
bare f = record { source = f; save = None; size = None }

abbrev pub new_page : Option ℕ → Option ℕ → List (List ℕ) → Option Asked
new_page None h ws = None
new_page (Some w) None ws = None
new_page (Some w) (Some h) ws = with_options (bare (blank w h)) ws

-- what the words ask for: `new W H` or `open FILE`, and then options
abbrev pub call_of : List (List ℕ) → Option Asked
call_of ws =
    if nat_le 3 (length ws) && bytes_eq (slice_index_or ws 0 []) (codes "new") then new_page (number_of 65535 (slice_index_or ws 1 [])) (number_of 65535 (slice_index_or ws 2 [])) (drop 3 ws)
    else if nat_le 2 (length ws) && bytes_eq (slice_index_or ws 0 []) (codes "open") then with_options (bare (file (slice_index_or ws 1 []))) (drop 2 ws)
    else None
