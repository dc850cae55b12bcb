-- Scripts: their lines, and what comes of playing them on a page. Assumes nothing.
use Rattle.std.specs.Prelude.{◌≡◌, ℕ, ◌+◌, Bool, true, false, if◌then◌else◌, ◌&&◌, List, [], ◌∷◌, ◌++◌, codes, decimal, is_ok, Ok, Err, Result, ⊤, ◌==◌}
use Rattle.codec.specs.Refusals.{refused_text}
use Rattle.words.specs.declared.taking.Fault.{Fault}
use Rattle.words.specs.declared.taking.Fault.TheVariants.{Refused, NoMemory}
use Rattle.words.specs.declared.script.Trouble.{Trouble}
use Rattle.words.specs.declared.script.Trouble.TheVariants.{NotUnderstood, Fault as OfFault}
use Rattle.words.specs.Split.{ended}
use Rattle.words.specs.Lines.{Says, blank, turn, unknown, understood}

-- the lines of bytes that stand behind w, the beginning of a line; the last one may lack its line feed
abbrev pub lines_on : List ℕ → List ℕ → List (List ℕ)
lines_on w [] = ended w []
lines_on w (b ∷ bs) = if b == 10 then w ∷ lines_on [] bs else lines_on (w ++ b ∷ []) bs

abbrev pub lines_of : List ℕ → List (List ℕ)
lines_of bs = lines_on [] bs

-- what is said of line n: that it is not understood; nothing of a turn that is taken, and why one is refused
abbrev pub not_understood : ℕ → List ℕ
not_understood n = codes "line " ++ (decimal n ++ codes ": not understood\n")

abbrev pub fault_text : Fault → List ℕ
fault_text (Refused why) = refused_text why
fault_text NoMemory = codes "out of memory"

abbrev pub told : ℕ → Result (Unit {0}) Fault → List ℕ
told n (Ok u) = []
told n (Err (Refused why)) = codes "line " ++ (decimal n ++ (codes ": " ++ (refused_text why ++ codes "\n")))
told n (Err NoMemory) = []

abbrev pub trouble_text : Trouble → List ℕ
trouble_text NotUnderstood = codes "not understood"
trouble_text (OfFault fault) = fault_text fault

-- P is a page, and `steps` says what a turn by its bytes makes of it; messages go from `old` to `new`, and ok says that nothing was left out
module _ {P : Type 0} (steps : P → List ℕ → Result (Unit {0}) Fault → P → Type 0) where
  -- a turn of line n
  pub record TurnPlays (n : ℕ) (bs : List ℕ) (p q : P) (old new : List ℕ) (ok : Bool) : Type 0 where
    pub outcome : Result (Unit {0}) Fault
    pub step : steps p bs outcome q
    pub says : new ≡ old ++ told n outcome
    pub is : ok ≡ is_ok outcome

  -- line n, by what it says
  abbrev pub LinePlays : ℕ → Says → P → P → List ℕ → List ℕ → Bool → Type 0
  LinePlays n blank p q old new ok = (q ≡ p) × (new ≡ old) × (ok ≡ true)
  LinePlays n unknown p q old new ok = (q ≡ p) × (new ≡ old ++ not_understood n) × (ok ≡ false)
  LinePlays n (turn bs) p q old new ok = TurnPlays n bs p q old new ok

  -- what a line that says this makes of a page, or why not; where memory is wanting, nothing is said
  abbrev pub LineTakes : Result (Unit {0}) Trouble → Says → P → P → Type 0
  LineTakes (Ok u) blank p q = q ≡ p
  LineTakes (Ok u) unknown p q = ⊥
  LineTakes (Ok u) (turn bs) p q = steps p bs (Ok u) q
  LineTakes (Err NotUnderstood) says p q = (says ≡ unknown) × (q ≡ p)
  LineTakes (Err (OfFault NoMemory)) says p q = ⊤
  LineTakes (Err (OfFault (Refused why))) blank p q = ⊥
  LineTakes (Err (OfFault (Refused why))) unknown p q = ⊥
  LineTakes (Err (OfFault (Refused why))) (turn bs) p q = steps p bs (Err (Refused why)) q

  -- a line and then others
  pub record BothPlay (First : P → List ℕ → Bool → Type 0) (Rest : P → List ℕ → Bool → Type 0) (ok : Bool) : Type 0 where
    pub mid : P
    pub said : List ℕ
    pub first_ok : Bool
    pub rest_ok : Bool
    pub first : First mid said first_ok
    pub rest : Rest mid said rest_ok
    pub both : ok ≡ first_ok && rest_ok

  -- the lines from line n on: the turns that they say are taken one after the other, and no others
  abbrev pub Plays : ℕ → List (List ℕ) → P → P → List ℕ → List ℕ → Bool → Type 0
  Plays n [] p q old new ok = (q ≡ p) × (new ≡ old) × (ok ≡ true)
  Plays n (l ∷ ls) p q old new ok =
      BothPlay (λ m said a. LinePlays n (understood l) p m old said a) (λ m said b. Plays (n + 1) ls m q said new b) ok
