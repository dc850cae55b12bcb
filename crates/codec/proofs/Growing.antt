-- An edit means the same when bytes come after those that hold its points or numbers. Assumes nothing.
use Rattle.std.proofs.Common.{◌≡◌, ℕ, zero, suc, ◌+◌, ◌*◌, ◌≤◌, List, ◌∷◌, ◌++◌, length, take, drop, refl, ap, ◌∙◌, ap₂, arith}
use Rattle.std.proofs.lemmas.List.{get_or_append_left, take-append-le, drop-append-le, length-drop}
use Rattle.page.specs.Edits.{stroke, apply_filter}
use Rattle.page.specs.Filters.{curve}
use Rattle.codec.specs.declared.edits.Edit.{Edit}
use Rattle.codec.specs.declared.edits.Edit.TheVariants.{AddLayer, DropLayer, ChooseLayer, RaiseLayer, SetMode, SetOpacity, SetVisible, MergeDown, SelectAll, SelectRect, SelectSimilar, SelectInverse, Fill, Stroke, ApplyFilter, Copy, Paste}
use Rattle.codec.specs.declared.edits.Filter.TheVariants.{Invert, Curve, BoxBlur, Edges}
use Rattle.codec.specs.Meaning.{two_at, points_at, edit_of, Held}
use Rattle.codec.specs.Reach.{reach}

module _ (bs more : List ℕ) where
  two_grows : (i : ℕ) → i + 2 ≤ length bs → two_at (bs ++ more) i ≡ two_at bs i
  two_grows i l = ap₂ (λ a b. a + 256 * b) (get_or_append_left bs more 0 i (omega arith)) (get_or_append_left bs more 0 (i + 1) (omega arith))

  points_grow : (i n : ℕ) → i + 4 * n ≤ length bs → points_at (bs ++ more) i n ≡ points_at bs i n
  points_grow i zero l = refl
  points_grow i (suc n) l =
      let head : ◌≡◌ {A = ℕ × ℕ} (two_at (bs ++ more) i, two_at (bs ++ more) (i + 2)) (two_at bs i, two_at bs (i + 2))
      = ap₂ (λ a b. let p : ℕ × ℕ = (a, b) in p) (two_grows i (omega arith)) (two_grows (i + 2) (omega arith)) in
      ap₂ (λ p ps. p ∷ ps) head (points_grow (i + 4) n (omega arith))

  numbers_grow : (i : ℕ) → i + 256 ≤ length bs → take 256 (drop i (bs ++ more)) ≡ take 256 (drop i bs)
  numbers_grow i l = ap (take 256) (drop-append-le i bs more (omega arith)) ∙ take-append-le 256 (drop i bs) more (omega (arith, length-drop i bs))

  pub edit_grows : (e : Edit) → reach e ≤ length bs → edit_of (bs ++ more) e ≡ edit_of bs e
  edit_grows AddLayer l = refl
  edit_grows DropLayer l = refl
  edit_grows (ChooseLayer k) l = refl
  edit_grows RaiseLayer l = refl
  edit_grows (SetMode m) l = refl
  edit_grows (SetOpacity a) l = refl
  edit_grows (SetVisible b) l = refl
  edit_grows MergeDown l = refl
  edit_grows SelectAll l = refl
  edit_grows (SelectRect r) l = refl
  edit_grows (SelectSimilar n x y) l = refl
  edit_grows SelectInverse l = refl
  edit_grows (Fill d) l = refl
  edit_grows (Stroke d r start count) l = ap (stroke d r) (points_grow start count l)
  edit_grows (ApplyFilter Invert) l = refl
  edit_grows (ApplyFilter (Curve start)) l = ap (λ t. apply_filter (curve t)) (numbers_grow start l)
  edit_grows (ApplyFilter (BoxBlur r)) l = refl
  edit_grows (ApplyFilter Edges) l = refl
  edit_grows Copy l = refl
  edit_grows (Paste x y) l = refl

-- what is held lies within
pub held_reach : (bs : List ℕ) (e : Edit) → Held bs e → reach e ≤ length bs
held_reach bs AddLayer h = omega arith
held_reach bs DropLayer h = omega arith
held_reach bs (ChooseLayer k) h = omega arith
held_reach bs RaiseLayer h = omega arith
held_reach bs (SetMode m) h = omega arith
held_reach bs (SetOpacity a) h = omega arith
held_reach bs (SetVisible b) h = omega arith
held_reach bs MergeDown h = omega arith
held_reach bs SelectAll h = omega arith
held_reach bs (SelectRect r) u = omega arith
held_reach bs (SelectSimilar n x y) h = omega arith
held_reach bs SelectInverse h = omega arith
held_reach bs (Fill d) h = omega arith
held_reach bs (Stroke d r start count) h = h
held_reach bs (ApplyFilter Invert) h = omega arith
held_reach bs (ApplyFilter (Curve start)) h = h
held_reach bs (ApplyFilter (BoxBlur r)) h = omega arith
held_reach bs (ApplyFilter Edges) h = omega arith
held_reach bs Copy h = omega arith
held_reach bs (Paste x y) h = omega arith

-- and what lies within is held
pub reach_held : (bs : List ℕ) (e : Edit) → reach e ≤ length bs → Held bs e
reach_held bs AddLayer h = tt
reach_held bs DropLayer h = tt
reach_held bs (ChooseLayer k) h = tt
reach_held bs RaiseLayer h = tt
reach_held bs (SetMode m) h = tt
reach_held bs (SetOpacity a) h = tt
reach_held bs (SetVisible b) h = tt
reach_held bs MergeDown h = tt
reach_held bs SelectAll h = tt
reach_held bs (SelectRect r) u = tt
reach_held bs (SelectSimilar n x y) h = tt
reach_held bs SelectInverse h = tt
reach_held bs (Fill d) h = tt
reach_held bs (Stroke d r start count) h = h
reach_held bs (ApplyFilter Invert) h = tt
reach_held bs (ApplyFilter (Curve start)) h = h
reach_held bs (ApplyFilter (BoxBlur r)) h = tt
reach_held bs (ApplyFilter Edges) h = tt
reach_held bs Copy h = tt
reach_held bs (Paste x y) h = tt
