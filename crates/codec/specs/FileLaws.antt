-- What reading and writing of files have to do with each other. Assumes nothing.
use Rattle.std.specs.Prelude.{◌≡◌, ℕ, ◌+◌, ◌≤◌, ◌⊎◌, List, ◌++◌, length, IfErr, Result, MatchResult}
use Rattle.std.specs.List.{All}
use Rattle.page.specs.Edits as page
use Rattle.codec.specs.declared.edits.Refusal.{Refusal}
use Rattle.codec.specs.declared.file.File.{File}
use Rattle.codec.specs.declared.file.Lengths.{Lengths}
use Rattle.codec.specs.Refusals.{number, place}
use Rattle.codec.specs.Files.{IsFile, Built, Enough, edits_from, after_edits, done_of, undone_of, read_file}

-- a file that is taken: the bytes are its writing and nothing else, its counts are those of its edits, and enough is lent
pub record FileTaken (bs : List ℕ) (lent : Lengths) (f : File) : Type 0 where
  pub is_file : IsFile bs f.width f.height (done_of bs f) (undone_of bs f)
  pub is_built : All Built (done_of bs f) × All Built (undone_of bs f)
  pub counts : (length (done_of bs f) ≡ f.done) × (length (undone_of bs f) ≡ f.undone)
  pub enough : Enough lent f.width f.height (f.done + f.undone)

-- where bytes are refused that are a file all the same: by 4 or 5, and too little is lent or its edits are too many; or by 3, and a kind is not built
abbrev pub FileRefused : List ℕ → Lengths → Refusal → Type 0
FileRefused bs lent f =
    (w h : ℕ) (done undone : List page.Edit) → IsFile bs w h done undone →
    ((4 ≤ number f) × (Enough lent w h (length done + length undone) → ⊥)) ⊎ ((number f ≡ 3) × (All Built done → All Built undone → ⊥))

abbrev pub FileRead : List ℕ → Lengths → Result File Refusal → Type 0
FileRead bs lent r = MatchResult r (FileTaken bs lent) (FileRefused bs lent)

-- a file that is written is read as the same size and the same edits
abbrev pub FileWrittenRead : Type 0
FileWrittenRead =
    (bs : List ℕ) (lent : Lengths) (w h : ℕ) (done undone : List page.Edit) → IsFile bs w h done undone →
    All Built done → All Built undone → Enough lent w h (length done + length undone) →
    MatchResult (read_file bs lent) (λ f. (f.width ≡ w) × (f.height ≡ h) × (done_of bs f ≡ done) × (undone_of bs f ≡ undone)) (λ f. ⊥)

-- edits that are read one after the other: those of the first a, then those of the next b
abbrev pub EditsInOrder : Type 0
EditsInOrder =
    (bs : List ℕ) (at a b : ℕ) →
    (edits_from bs at (a + b) ≡ edits_from bs at a ++ edits_from bs (after_edits bs at a) b) × (after_edits bs at (a + b) ≡ after_edits bs (after_edits bs at a) b)

-- every row of bytes is a file, or is refused by one number at one place: at one of its bytes, or a lent slice
abbrev pub FileAnswered : Type 0
FileAnswered =
    (bs : List ℕ) (lent : Lengths) →
    IfErr (read_file bs lent) (λ f. (1 ≤ number f) × (number f ≤ 5) × (number f ≤ 4 → place f ≤ length bs))
