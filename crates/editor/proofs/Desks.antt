-- A desk with memory of its own, after its slices were lent to a turn. Assumes nothing.
use Rattle.std.proofs.Common.{◌≡◌, ℕ, List, length, vec_items, vec_len, Result, sym}
use mathlib.Core.Path.{subst₃}
use Rattle.std.specs.Vec.{with_items}
use Rattle.std.proofs.lemmas.List.{with_items_is}
use Rattle.codec.specs.declared.edits.Refusal.{Refusal}
use Rattle.codec.specs.Read.{read_turn}
use Rattle.editor.specs.declared.state.Editor.{Editor}
use Rattle.editor.specs.declared.desk.Desk.{Desk}
use Rattle.editor.specs.Promises.{against, TurnEnds}
use Rattle.editor.specs.Runs.{Takes}
use Rattle.editor.specs.Desks.{desk_of}

abbrev lent : Desk → Editor → List ℕ → List ℕ → List ℕ → Desk
lent d s turns tiles work = record { editor = s; memory = record { turns = with_items d.memory.turns turns; tiles = with_items d.memory.tiles tiles; work = with_items d.memory.work work } }

pub took : (d : Desk) (s : Editor) (bs a b c a' b' c' : List ℕ) (r : Result (Unit {0}) Refusal) → a ≡ vec_items d.memory.turns → b ≡ vec_items d.memory.tiles → c ≡ vec_items d.memory.work →
    length a' ≡ vec_len d.memory.turns → length b' ≡ vec_len d.memory.tiles → length c' ≡ vec_len d.memory.work →
    TurnEnds bs (read_turn bs (against d.editor (length a) (length b) (length c))) d.editor a b c s a' b' c' r → Takes (desk_of d) bs (desk_of (lent d s a' b' c')) r
took d s bs a b c a' b' c' r ea eb ec la lb lc h =
    let F : List ℕ → List ℕ → List ℕ → List ℕ → List ℕ → List ℕ → Type 0
    = λ x y z x' y' z'. TurnEnds bs (read_turn bs (against d.editor (length x) (length y) (length z))) d.editor x y z s x' y' z' r in
    subst₃ (λ x y z. F (vec_items d.memory.turns) (vec_items d.memory.tiles) (vec_items d.memory.work) x y z) (sym (with_items_is d.memory.turns a' la)) (sym (with_items_is d.memory.tiles b' lb)) (sym (with_items_is d.memory.work c' lc))
    (subst₃ (λ x y z. F x y z a' b' c') ea eb ec h)
