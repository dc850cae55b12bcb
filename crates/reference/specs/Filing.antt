-- The file of the plain engine: which engine a file opens as, and which file an engine writes. Assumes nothing.
use Rattle.std.specs.Prelude.{◌≡◌, ℕ, ◌+◌, List, [], Ok, Err, vec_len, Result}
use Rattle.std.specs.List.{All}
use Rattle.page.specs.History.{in_order}
use Rattle.codec.specs.declared.edits.Edit.{Edit}
use Rattle.codec.specs.declared.edits.Refusal.{Refusal}
use Rattle.codec.specs.declared.file.File.{File}
use Rattle.codec.specs.declared.file.Lengths.{Lengths}
use Rattle.codec.specs.Laws.{EditGood}
use Rattle.codec.specs.Files.{Enough, edits_from, done_of, undone_of, file_written, read_file}
use Rattle.reference.specs.declared.state.Engine.{Engine}
use Rattle.words.specs.declared.taking.Fault.{Fault}
use Rattle.words.specs.declared.taking.Fault.TheVariants.{Refused, NoMemory}
use Rattle.reference.specs.Lists.{meanings}
use Rattle.reference.specs.Turning.{history}

-- the first n edits of a file, which stand from its byte 16 on
pub record Listed (bs : List ℕ) (n : ℕ) (es : List Edit) : Type 0 where
  pub means : meanings bs es ≡ edits_from bs 16 n
  pub good : All (EditGood bs) es

-- the engine has the file's size and its edits, the done and the undone ones, each of which counts as a turn
pub record Opened (bs : List ℕ) (f : File) (s : Engine) : Type 0 where
  pub wide_is : s.size.wide ≡ f.width
  pub high_is : s.size.high ≡ f.height
  pub taken_is : s.taken ≡ f.done + f.undone
  pub done_is : (history s).done ≡ in_order (done_of bs f) []
  pub undone_is : (history s).undone ≡ undone_of bs f

-- what opening comes to: a file that is read, with memory for it and without, and one that is refused
abbrev pub OpenedBy : List ℕ → Result File Refusal → Result Engine Fault → Type 0
OpenedBy bs (Ok f) (Ok s) = Opened bs f s
OpenedBy bs (Ok f) (Err (Refused g)) = ⊥
OpenedBy bs (Ok f) (Err NoMemory) = Unit {0}
OpenedBy bs (Err f) (Ok s) = ⊥
OpenedBy bs (Err f) (Err (Refused g)) = g ≡ f
OpenedBy bs (Err f) (Err NoMemory) = ⊥

abbrev pub Opens : List ℕ → Lengths → Result Engine Fault → Type 0
Opens bs lent r = OpenedBy bs (read_file bs lent) r

-- the file that an engine writes
abbrev pub engine_file : Engine → List ℕ
engine_file s = file_written s.size.wide s.size.high (in_order (history s).done []) (history s).undone

-- the same size and the same history
pub record SamePage (s s' : Engine) : Type 0 where
  pub same_wide : s'.size.wide ≡ s.size.wide
  pub same_high : s'.size.high ≡ s.size.high
  pub same_history : history s' ≡ history s

abbrev pub Kept : Engine → Result Engine Fault → Type 0
Kept s (Ok s') = SamePage s s'
Kept s (Err (Refused f)) = ⊥
Kept s (Err NoMemory) = Unit {0}

-- opening what an engine wrote, with as much lent as its page wants, gives its size and its history
abbrev pub KeptInFiles : Type 0
KeptInFiles =
    (s : Engine) (lent : Lengths) (r : Result Engine Fault) → Enough lent s.size.wide s.size.high (vec_len s.edits) → Opens (engine_file s) lent r → Kept s r
