-- The bytes that write a file, and how bytes are read as one. Assumes nothing.
use Rattle.std.specs.Prelude.{◌≡◌, ℕ, zero, suc, ◌+◌, ◌*◌, ◌/◌, ◌%◌, ◌<◌, ◌≤◌, true, if◌then◌else◌, List, [], ◌∷◌, ◌++◌, length, Some, None, Ok, Err, Option, Result, MatchResult, ◌==◌, nat_le, nat_lt, slice_index}
use Rattle.std.specs.List.{flat_map, All}
use Rattle.std.specs.Option.{option_or}
use Rattle.page.specs.Edits as page
use Rattle.page.specs.Fits.{Fits, kind}
use Rattle.codec.specs.declared.edits.Lent.TheVariants.{Turns, Tiles, Work}
use Rattle.codec.specs.declared.edits.Refusal.{Refusal}
use Rattle.codec.specs.declared.edits.Refusal.TheVariants.{GoesOn, NotPage, NoSize, TooMany, Short}
use Rattle.codec.specs.declared.file.File.{File}
use Rattle.codec.specs.declared.file.Lengths.{Lengths}
use Rattle.codec.specs.Kinds.{built}
use Rattle.codec.specs.Written.{two, written}
use Rattle.codec.specs.Meaning.{two_at, edit_of}
use Rattle.codec.specs.Scan.{End, need}
use Rattle.codec.specs.Read.{unless, taken_end, edit_and_end}

-- the writing: `PAGE`, the size, how many edits are done and how many undone, then the edits
abbrev pub long : ℕ → List ℕ
long x = two (x % 65536) ++ two (x / 65536)

abbrev pub all_written : List page.Edit → List ℕ
all_written es = flat_map written es

abbrev pub file_head : ℕ → ℕ → ℕ → ℕ → List ℕ
file_head w h done undone = 80 ∷ 65 ∷ 71 ∷ 69 ∷ (two w ++ (two h ++ (long done ++ long undone)))

abbrev pub file_written : ℕ → ℕ → List page.Edit → List page.Edit → List ℕ
file_written w h done undone = file_head w h (length done) (length undone) ++ (all_written done ++ all_written undone)

-- the bytes are a file of that size and with those edits
pub record IsFile (bs : List ℕ) (w h : ℕ) (done undone : List page.Edit) : Type 0 where
  pub wide : (1 ≤ w) × (w ≤ 4096)
  pub high : (1 ≤ h) × (h ≤ 4096)
  pub fit : All Fits done × All Fits undone
  pub few : (length done < 4294967296) × (length undone < 4294967296)
  pub is : bs ≡ file_written w h done undone

abbrev pub Built : page.Edit → Type 0
Built e = built (kind e) ≡ true

-- as much is lent as n edits on a page of that size want, and they are not too many
pub record Enough (lent : Lengths) (w h n : ℕ) : Type 0 where
  pub for_tiles : 544 * (w * h) ≤ lent.tiles
  pub for_work : w * h ≤ lent.work
  pub few : n ≤ 65536
  pub for_turns : 8192 * n ≤ lent.turns

-- the edits that stand from `at` on, c of them, and where they end
abbrev pub edits_from : List ℕ → ℕ → ℕ → List page.Edit
edits_from bs at zero = []
edits_from bs at (suc c) = edit_of bs (edit_and_end bs at).0 ∷ edits_from bs (edit_and_end bs at).1 c

abbrev pub after_edits : List ℕ → ℕ → ℕ → ℕ
after_edits bs at zero = at
after_edits bs at (suc c) = after_edits bs (edit_and_end bs at).1 c

-- the edits of a file whose counts are known
abbrev pub done_of : List ℕ → File → List page.Edit
done_of bs f = edits_from bs 16 f.done

abbrev pub undone_of : List ℕ → File → List page.Edit
undone_of bs f = edits_from bs (after_edits bs 16 f.done) f.undone

-- the scan: what stands against the k-th edit (from 0) at its first byte, which is at `at`
abbrev pub against_edit : ℕ → ℕ → ℕ → Option Refusal
against_edit turns k at = if nat_le 65536 k then Some (TooMany at) else (if nat_lt turns (8192 * (k + 1)) then Some (Short Turns) else None)

abbrev pub on_ok : End → (ℕ → End) → End
on_ok (Ok n) g = g n
on_ok (Err f) g = Err f

-- the end of c edits that start at `at`, the first of them being the k-th of the file
abbrev pub edits_end : List ℕ → ℕ → ℕ → ℕ → ℕ → End
edits_end bs turns k zero at = Ok at
edits_end bs turns k (suc c) at = on_ok (taken_end bs at (against_edit turns k at)) (edits_end bs turns (k + 1) c)

abbrev pub four_at : List ℕ → ℕ → ℕ
four_at bs i = two_at bs i + 65536 * two_at bs (i + 2)

abbrev pub letter : List ℕ → ℕ → ℕ → End → End
letter bs i b e = need bs 0 (suc i) (if slice_index bs i == b then e else Err NotPage)

abbrev pub letters : List ℕ → End → End
letters bs e = letter bs 0 80 (letter bs 1 65 (letter bs 2 71 (letter bs 3 69 e)))

-- a side that no page has, by the byte at which a file has it
abbrev pub side_refusal : ℕ → ℕ → Option Refusal
side_refusal n at = if nat_le 1 n then (if nat_le n 4096 then None else Some (NoSize at)) else Some (NoSize at)

-- a size that no page has
abbrev pub size_refusal : ℕ → ℕ → Option Refusal
size_refusal w h = option_or (side_refusal w 4) (side_refusal h 6)

abbrev pub sized : List ℕ → ℕ → End → End
sized bs i e = need bs 0 (suc (suc i)) (unless (side_refusal (two_at bs i) i) e)

-- which lent slice is too short for a page of n pixels, and for one of a size
abbrev pub short_for : Lengths → ℕ → Option Refusal
short_for lent n = if nat_lt lent.tiles (544 * n) then Some (Short Tiles) else (if nat_lt lent.work n then Some (Short Work) else None)

abbrev pub short_of : Lengths → ℕ → ℕ → Option Refusal
short_of lent w h = short_for lent (w * h)

abbrev pub head_end : List ℕ → Lengths → End
head_end bs lent = letters bs (sized bs 4 (sized bs 6 (unless (short_of lent (two_at bs 4) (two_at bs 6)) (need bs 0 16 (Ok 16)))))

abbrev pub body_from : List ℕ → ℕ → ℕ → End
body_from bs turns at = on_ok (edits_end bs turns 0 (four_at bs 8) at) (edits_end bs turns (four_at bs 8) (four_at bs 12))

abbrev pub file_at : List ℕ → File
file_at bs = record { width = two_at bs 4; height = two_at bs 6; done = four_at bs 8; undone = four_at bs 12 }

abbrev pub whole_file : List ℕ → End → Result File Refusal
whole_file bs (Ok n) = if nat_lt n (length bs) then Err (GoesOn n) else Ok (file_at bs)
whole_file bs (Err f) = Err f

abbrev pub read_file : List ℕ → Lengths → Result File Refusal
read_file bs lent = whole_file bs (on_ok (head_end bs lent) (body_from bs lent.turns))

-- what a check answers: it goes on with what comes next, or stops with its refusal
abbrev pub Checks : {A : Type 0} → (End → End) → Result A Refusal → Type 0
Checks check r = MatchResult r (λ _. (e : End) → check e ≡ e) (λ why. (e : End) → check e ≡ Err why)
