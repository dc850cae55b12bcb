-- A script played line by line is a row of turns. Assumes nothing.
use Rattle.std.proofs.Common.{◌≡◌, ℕ, ◌+◌, ◌*◌, Bool, List, [], ◌∷◌, ◌++◌, length, Ok, Err, Option, Result, sym, refl, ap, ◌∙◌, subst, ap₂, subst₂, append_assoc, append-nil, arith}
use Rattle.pixel.specs.declared.sizes.Size.{Size}
use Rattle.page.specs.History.{Turn}
use Rattle.codec.specs.declared.edits.Turn.{Turn as Read}
use Rattle.codec.specs.declared.edits.Refusal.{Refusal}
use Rattle.codec.specs.Meaning.{Bytes, turn_of}
use Rattle.codec.specs.Read.{read_turn}
use Rattle.codec.proofs.Means.{read_turn_means}
use Rattle.words.specs.declared.taking.Fault.{Fault}
use Rattle.words.specs.declared.taking.Fault.TheVariants.{Refused, NoMemory}
use Rattle.words.specs.Lines.{Says, blank, turn, unknown, understood}
use Rattle.words.specs.Script.{lines_of, LinePlays, Plays}
use Rattle.editor.specs.declared.state.Editor.{Editor}
use Rattle.editor.specs.declared.desk.Desk.{Desk}
use Rattle.editor.specs.Promises.{against_next, pixels, TurnEnds}
use Rattle.editor.specs.Runs as runs
use Rattle.editor.specs.Runs.{Takes, Comes, takes}
use Rattle.editor.specs.Desks.{desk_of, DeskSteps}
use Rattle.editor.specs.Row.{with_line, said_by, by_answer, taken_of, row, RunsRow}
use Rattle.editor.proofs.Coming.{shows_the_page}

-- an answer is not a refusal
ok_err : (f : Refusal) → ◌≡◌ {A = Result (Unit {0}) Refusal} (Ok tt) (Err f) → ⊥
ok_err f e = let z : ◌≡◌ {A = ℕ} 0 1 = cc in omega arith

abbrev desk : Editor → List ℕ → List ℕ → List ℕ → runs.Desk
desk s turns tiles work = record { editor = s; turns = turns; tiles = tiles; work = work; file = [] }

same_desk : (s s' : Editor) (a a' b b' c c' : List ℕ) → s' ≡ s → a' ≡ a → b' ≡ b → c' ≡ c → desk s a b c ≡ desk s' a' b' c'
same_desk s s' a a' b b' c c' e f g i = cc

-- the limits that stay over a run: the page's size and the lengths of the slices
record Limits (px lt ll lw : ℕ) (d : runs.Desk) : Type 0 where
  px_is : pixels d.editor ≡ px
  turns_are : length d.turns ≡ lt
  tiles_are : length d.tiles ≡ ll
  work_is : length d.work ≡ lw

module _ (w h px lt ll lw : ℕ) where
  abbrev g : ℕ → Option Refusal
  g = against_next px lt ll lw

  -- a desk on the way: it came about by ts, n turns are counted, and the limits stand
  record Way (ts : List Turn) (n : ℕ) (d : runs.Desk) : Type 0 where
    comes : Comes w h ts d
    counts : d.editor.taken ≡ n
    limits : Limits px lt ll lw d

  -- from there on the rest that is said leads to q
  abbrev Leads : List (List ℕ) → runs.Desk → runs.Desk → Type 0
  Leads rest q d = (ts : List Turn) (n : ℕ) → Way ts n d → Comes w h (ts ++ taken_of g n rest) q

  against_is : (n : ℕ) (ts : List Turn) (d : runs.Desk) → Way ts n d → against_next (pixels d.editor) (length d.turns) (length d.tiles) (length d.work) d.editor.taken ≡ g n
  against_is n ts d o =
      let l = o.limits in
      ap₂ (λ a b. against_next a b (length d.tiles) (length d.work) d.editor.taken) l.px_is l.turns_are
      ∙ ap₂ (λ a b. against_next px lt a b d.editor.taken) l.tiles_are l.work_is ∙ ap g o.counts

  -- a turn that is taken
  taken_on : (bs : List ℕ) (rest : List (List ℕ)) (d m q : runs.Desk) (ts : List Turn) (n : ℕ) (r : Result Read Refusal) → Bytes bs → Takes d bs m (Ok tt) → Leads rest q m → Way ts n d →
      r ≡ read_turn bs (g n) → TurnEnds bs r d.editor d.turns d.tiles d.work m.editor m.turns m.tiles m.work (Ok tt) →
      Comes w h (ts ++ by_answer r (λ t. turn_of bs t ∷ taken_of g (n + 1) rest) (taken_of g n rest)) q
  taken_on bs rest d m q ts n (Ok t) bytes tk on way is e =
      let info = read_turn_means bs (g n) (Ok t) is bytes in
      let u = turn_of bs t in
      let s = e.1 in
      let l = way.limits in
      let next : Comes w h (ts ++ u ∷ []) m = takes ts u d m way.comes info.fits info.is_built (subst (λ (b : List ℕ). Takes d b m (Ok tt)) info.is tk) in
      let far : Comes w h ((ts ++ u ∷ []) ++ taken_of g (n + 1) rest) q
      = on (ts ++ u ∷ []) (n + 1) (record {
        comes = next;
        counts = s.one_taken ∙ ap (λ k. k + 1) way.counts;
        limits = record { px_is = ap (λ (z : Size). z.wide * z.high) s.same_size ∙ l.px_is; turns_are = s.turns_long ∙ l.turns_are; tiles_are = s.tiles_long ∙ l.tiles_are; work_is = s.work_long ∙ l.work_is };
      }) in
      subst (λ (us : List Turn). Comes w h us q) (append_assoc ts (u ∷ []) (taken_of g (n + 1) rest)) far
  taken_on bs rest d m q ts n (Err f) bytes tk on way is e = absurd (ok_err f e.0)

  -- a turn that is refused leaves the desk
  refused_on : (bs : List ℕ) (rest : List (List ℕ)) (p m : Desk) (q : runs.Desk) (ts : List Turn) (n : ℕ) (why : Refusal) (r : Result Read Refusal) → Leads rest q (desk_of m) → Way ts n (desk_of p) →
      TurnEnds bs r p.editor (desk_of p).turns (desk_of p).tiles (desk_of p).work m.editor (desk_of m).turns (desk_of m).tiles (desk_of m).work (Err why) →
      Comes w h (ts ++ by_answer r (λ t. turn_of bs t ∷ taken_of g (n + 1) rest) (taken_of g n rest)) q
  refused_on bs rest p m q ts n why (Ok t) on way e = absurd (ok_err why (sym e.0))
  refused_on bs rest p m q ts n why (Err f) on way e = on ts n (subst (Way ts n) (same_desk _ _ _ _ _ _ _ _ e.1 e.2 e.3 e.4) way)

  turn_on : (bs : List ℕ) (rest : List (List ℕ)) (p m : Desk) (q : runs.Desk) (ts : List Turn) (n : ℕ) (o : Result (Unit {0}) Fault) → DeskSteps p bs o m → Leads rest q (desk_of m) → Way ts n (desk_of p) → Comes w h (ts ++ taken_of g n (bs ∷ rest)) q
  turn_on bs rest p m q ts n (Ok u) s on way =
      taken_on bs rest (desk_of p) (desk_of m) q ts n (read_turn bs (g n)) s.0 s.1 on way refl
      (subst (λ (a : Option Refusal). TurnEnds bs (read_turn bs a) p.editor (desk_of p).turns (desk_of p).tiles (desk_of p).work m.editor (desk_of m).turns (desk_of m).tiles (desk_of m).work (Ok tt)) (against_is n ts (desk_of p) way) s.1)
  turn_on bs rest p m q ts n (Err (Refused why)) s on way =
      refused_on bs rest p m q ts n why (read_turn bs (g n)) on way
      (subst (λ (a : Option Refusal). TurnEnds bs (read_turn bs a) p.editor (desk_of p).turns (desk_of p).tiles (desk_of p).work m.editor (desk_of m).turns (desk_of m).tiles (desk_of m).work (Err why)) (against_is n ts (desk_of p) way) s.1)
  turn_on bs rest p m q ts n (Err NoMemory) s on way = absurd s

  line_on : (x : Says) (rest : List (List ℕ)) (k : ℕ) (p m : Desk) (q : runs.Desk) (old said : List ℕ) (a : Bool) → LinePlays DeskSteps k x p m old said a → Leads rest q (desk_of m) → Leads (with_line x rest) q (desk_of p)
  line_on blank rest k p m q old said a l on = subst (λ (d : Desk). Leads rest q (desk_of d)) l.0 on
  line_on unknown rest k p m q old said a l on = subst (λ (d : Desk). Leads rest q (desk_of d)) l.0 on
  line_on (turn bs) rest k p m q old said a l on = λ ts n way. turn_on bs rest p m q ts n l.outcome l.step on way

  lines_on : (ls : List (List ℕ)) (k : ℕ) (p q : Desk) (old new : List ℕ) (ok : Bool) → Plays DeskSteps k ls p q old new ok → Leads (said_by ls) (desk_of q) (desk_of p)
  lines_on [] k p q old new ok e = λ ts n way. subst₂ (λ us d. Comes w h us (desk_of d)) (sym (append-nil ts)) (sym e.0) way.comes
  lines_on (l ∷ ls) k p q old new ok b =
      line_on (understood l) (said_by ls) k p b.mid (desk_of q) old b.said b.first_ok b.first (lines_on ls (k + 1) b.mid q b.said new b.rest_ok b.rest)

-- a script that was played is a row of turns
pub runs_row : (script : List ℕ) (p q : Desk) (old new : List ℕ) (ok : Bool) → Plays DeskSteps 1 (lines_of script) p q old new ok → RunsRow script (desk_of p) (desk_of q)
runs_row script p q old new ok e w h ts c =
    let d = desk_of p in
    let far = lines_on w h (pixels p.editor) (length d.turns) (length d.tiles) (length d.work) (lines_of script) 1 p q old new ok e ts p.editor.taken
    (record { comes = c; counts = refl; limits = record { px_is = refl; turns_are = refl; tiles_are = refl; work_is = refl } }) in
    record { comes = far; shows = λ i j iw jh. shows_the_page w h i j (ts ++ row d script) (desk_of q) far iw jh }
