-- What is put, piece after piece, is the writing of the edit.
use Rattle.std.proofs.Common.{◌≡◌, ℕ, ◌+◌, ◌-◌, ◌*◌, ◌<◌, ◌≤◌, List, [], ◌∷◌, ◌++◌, map, length, get_or, take, drop, Ok, Result, sym, refl, ap, ◌∙◌, subst, arith}
use Rattle.std.proofs.lemmas.List.{append_assoc, take_at, take-append-drop, length-append, length-drop, length-map, length_push, length-take-le, flat_map_more, map-append, map_more, take-map, get_or-map}
use Rattle.std.proofs.lemmas.List.Folds.{length-flat_map-take}
use Rattle.std.proofs.lemmas.Bool.{le-leb, cond-true}
use Rattle.page.specs.Edits as page
use Rattle.page.specs.Edits.{add_layer, drop_layer, choose_layer, raise_layer, set_mode, set_opacity, set_visible, merge_down, select_all, select_rect, select_similar, select_inverse, fill, stroke, apply_filter, copy, paste}
use Rattle.page.specs.Filters as filters
use Rattle.page.specs.Filters.{invert, curve, box_blur, edges}
use Rattle.page.specs.Fits.{Fits, FilterFits}
use Rattle.codec.specs.declared.edits.Edit.{Edit}
use Rattle.codec.specs.declared.edits.Edit.TheVariants.{AddLayer, DropLayer, ChooseLayer, RaiseLayer, SetMode, SetOpacity, SetVisible, MergeDown, SelectAll, SelectRect, SelectSimilar, SelectInverse, Fill, Stroke, ApplyFilter, Copy, Paste}
use Rattle.codec.specs.declared.edits.Filter.TheVariants.{Invert, Curve, BoxBlur, Edges}
use Rattle.codec.specs.declared.edits.Refusal.{Refusal}
use Rattle.codec.specs.Written.{written, filter_written, points}
use Rattle.codec.specs.Meaning.{edit_of, Bytes, points_at, Held}
use Rattle.std.specs.List.{flat_map, All}
use Rattle.std.proofs.lemmas.List.Elements.{All-tail}
use Rattle.codec.specs.Scan.{end_of, edit_at}
use Rattle.codec.specs.Laws.{EditGood}
use Rattle.codec.specs.Files.{all_written, file_head}
pub use Rattle.codec.specs.Sinks.{put_put}
use Rattle.codec.specs.Sinks.{length-put_at}
use Rattle.codec.specs.Put.{put_at, head_of, tail_of, file_of, file_room, file_put, file_answer}
use Rattle.codec.proofs.Sound.{length-points, points_then, reads_written}
use Rattle.codec.proofs.Complete.{length-points as size-points}
use Rattle.codec.proofs.Means.{written_long}

pub cut : (s n : ℕ) (bs : List ℕ) → take (s + n - s) (drop s bs) ≡ take n (drop s bs)
cut s n bs = ap (λ m. take m (drop s bs)) (omega arith)

-- head and tail are the writing
pub head_tail : (bs : List ℕ) (e : Edit) → Bytes bs → Held bs e → head_of e ++ tail_of bs e ≡ written (edit_of bs e)
head_tail bs AddLayer fit held = refl
head_tail bs DropLayer fit held = refl
head_tail bs (ChooseLayer k) fit held = refl
head_tail bs RaiseLayer fit held = refl
head_tail bs (SetMode m) fit held = refl
head_tail bs (SetOpacity a) fit held = refl
head_tail bs (SetVisible b) fit held = refl
head_tail bs MergeDown fit held = refl
head_tail bs SelectAll fit held = refl
head_tail bs (SelectRect r) fit held = refl
head_tail bs (SelectSimilar n x y) fit held = refl
head_tail bs SelectInverse fit held = refl
head_tail bs (Fill d) fit held = refl
head_tail bs (Stroke d r start count) fit held =
    let p : List ℕ = points (points_at bs start count) in
    let t : take (4 * count) (drop start bs) ≡ p =
    ap (take (4 * count)) (points_then bs fit count start (start + 4 * count) _ refl held refl)
    ∙ take_at p (drop (start + 4 * count) bs) (4 * count) (omega (arith, size-points (points_at bs start count), length-points bs count start)) in
    rw (length-points bs count start, t)
head_tail bs (ApplyFilter Invert) fit held = refl
head_tail bs (ApplyFilter (Curve start)) fit held = refl
head_tail bs (ApplyFilter (BoxBlur r)) fit held = refl
head_tail bs (ApplyFilter Edges) fit held = refl
head_tail bs Copy fit held = refl
head_tail bs (Paste x y) fit held = refl

pub length_head : (bs : List ℕ) (e : Edit) → Bytes bs → Held bs e → length (head_of e) + length (tail_of bs e) ≡ length (written (edit_of bs e))
length_head bs e fit held = sym (length-append (head_of e) (tail_of bs e)) ∙ ap length (head_tail bs e fit held)

-- the tail put behind the head that was put
module _
    (bs : List ℕ) (e : Edit) (fit : Bytes bs) (held : Held bs e) (xs mid : List ℕ) (at then : ℕ)
    (fits : at + length (written (edit_of bs e)) ≤ length xs) (mid_is : mid ≡ put_at xs at (head_of e)) (then_is : then ≡ at + length (head_of e))
  where
    pub then_room : then + length (tail_of bs e) ≤ length mid
    then_room = omega (arith, then_is, length_head bs e fit held, ap length mid_is ∙ length-put_at xs at (head_of e) (omega (arith, length_head bs e fit held)))

    pub then_put : put_at mid then (tail_of bs e) ≡ put_at xs at (written (edit_of bs e))
    then_put = rw (mid_is, then_is) (put_put xs at (head_of e) (tail_of bs e) (omega (arith, length_head bs e fit held)) ∙ ap (put_at xs at) (head_tail bs e fit held))

    pub then_end : then + length (tail_of bs e) ≡ at + length (written (edit_of bs e))
    then_end = omega (arith, then_is, length_head bs e fit held)

-- the bytes of an edit that is read are its writing, and are there
module _ (bs : List ℕ) (at n : ℕ) (fit : Bytes bs) (e : end_of bs at ≡ Ok n) where
  size_read : (length (written (edit_of bs (edit_at bs at))) ≡ n - at) × (at < n) × (n ≤ length bs)
  size_read =
      let r = reads_written bs at n fit e in
      let long = simp (length-append, length-drop) at (ap length r.0) in
      let some = written_long (edit_of bs (edit_at bs at)) in
      let all = r.2 in
      (omega arith, omega arith, all)

  pub within : (at ≤ n) × (n ≤ length bs)
  within = (omega (arith, size_read.1), size_read.2)

  pub span : take (n - at) (drop at bs) ≡ written (edit_of bs (edit_at bs at))
  span = ap (take (n - at)) (reads_written bs at n fit e).0 ∙ take_at (written (edit_of bs (edit_at bs at))) (drop n bs) (n - at) size_read.0

-- an edit that fits is written in few bytes
filter_short : (f : filters.Filter) → FilterFits f → length (filter_written f) ≤ 257
filter_short invert fits = omega arith
filter_short (curve t) fits = omega (arith, fits.0)
filter_short (box_blur r) fits = omega arith
filter_short edges fits = omega arith

pub written_short : (e : page.Edit) → Fits e → length (written e) ≤ 4104
written_short add_layer fits = omega arith
written_short drop_layer fits = omega arith
written_short (choose_layer k) fits = omega arith
written_short raise_layer fits = omega arith
written_short (set_mode m) fits = omega arith
written_short (set_opacity a) fits = omega arith
written_short (set_visible b) fits = omega arith
written_short merge_down fits = omega arith
written_short select_all fits = omega arith
written_short (select_rect x y w h) fits = omega arith
written_short (select_similar n x y) fits = omega arith
written_short select_inverse fits = omega arith
written_short (fill p) fits = omega arith
written_short (stroke p r ats) fits = omega (arith, fits.2, size-points ats)
written_short (apply_filter f) fits = omega (arith, filter_short f fits)
written_short copy fits = omega arith
written_short (paste x y) fits = omega arith

-- edits put one after the other: from xs to ys, from `start` to `at`
pub record PutRow (xs ys : List ℕ) (start at : ℕ) (es : List page.Edit) : Type 0 where
  pub after : ys ≡ put_at xs start (all_written es)
  pub end : at ≡ start + length (all_written es)
  pub few : length (all_written es) ≤ 8192 * length es

pub put_none : (xs : List ℕ) (start : ℕ) → PutRow xs xs start start []
put_none xs start =
    let e : start + 0 ≡ start = omega arith in
    record { after = sym (rw e (take-append-drop start xs)); end = omega arith; few = omega arith }

all_more : (es : List page.Edit) (e : page.Edit) → all_written (es ++ e ∷ []) ≡ all_written es ++ written e
all_more es e = sym (flat_map_more written [] es e)

pub put_more :
    (xs ys zs : List ℕ) (start at end : ℕ) (es : List page.Edit) (e : page.Edit) → Fits e → start + 8192 * length es ≤ length xs → PutRow xs ys start at es →
    zs ≡ put_at ys at (written e) → end ≡ at + length (written e) → PutRow xs zs start end (es ++ e ∷ [])
put_more xs ys zs start at end es e fits room so put is =
    let size = ap length (all_more es e) ∙ length-append (all_written es) (written e) in
    record {
      after = put ∙ rw (so.after, so.end, all_more es e) (put_put xs start (all_written es) (written e) (omega (arith, so.few)));
      end = omega (arith, so.end, size);
      few = omega (arith, size, so.few, written_short e fits, length_push es e);
    }

-- edits are written in few bytes each
rows_short : (bs : List ℕ) (edits : List Edit) → All (EditGood bs) edits → length (all_written (map (edit_of bs) edits)) ≤ 8192 * length edits
rows_short bs [] good = omega arith
rows_short bs (e ∷ edits) good =
    omega (arith, length-append (written (edit_of bs e)) (all_written (map (edit_of bs) edits)), written_short (edit_of bs e) (good 0 e (omega arith)).fits, rows_short bs edits (All-tail (EditGood bs) e edits good))

pub all_append : (xs ys : List page.Edit) → all_written (xs ++ ys) ≡ all_written xs ++ all_written ys
all_append [] ys = refl
all_append (x ∷ xs) ys = ap (λ l. written x ++ l) (all_append xs ys) ∙ sym (append_assoc (written x) (all_written xs) (all_written ys))

-- the edits up to one, and that one
module _ (bs : List ℕ) (edits : List Edit) (i : ℕ) (d : Edit) (h : i < length edits) where
  pub rows_more : all_written (map (edit_of bs) (take (i + 1) edits)) ≡ all_written (map (edit_of bs) (take i edits)) ++ written (edit_of bs (get_or edits i d))
  rows_more = ap (λ es. all_written es) (map_more (edit_of bs) edits i d h) ∙ all_more (map (edit_of bs) (take i edits)) (edit_of bs (get_or edits i d))

  pub rows_within : length (all_written (map (edit_of bs) (take i edits))) + length (written (edit_of bs (get_or edits i d))) ≤ length (all_written (map (edit_of bs) edits))
  rows_within =
      let all = length-flat_map-take written (map (edit_of bs) edits) i (edit_of bs d) (omega (arith, length-map edits (edit_of bs))) in
      subst (λ es. length (all_written es) + length (written (edit_of bs (get_or edits i d))) ≤ length (all_written (map (edit_of bs) edits))) (take-map (edit_of bs) i edits)
      (subst (λ e. length (all_written (take i (map (edit_of bs) edits))) + length (written e) ≤ length (all_written (map (edit_of bs) edits))) (get_or-map (edit_of bs) edits i d (edit_of bs d) h) all)

-- a step of a loop that adds a piece for each item
pub added_step :
    {X Y : Type 0} (f : Y → List ℕ) (g : X → Y) (xs : List X) (i : ℕ) (d : X) (old mid last : List ℕ) → i < length xs →
    mid ≡ old ++ flat_map f (map g (take i xs)) → last ≡ mid ++ f (g (get_or xs i d)) → last ≡ old ++ flat_map f (map g (take (i + 1) xs))
added_step f g xs i d old mid last h so is =
    let ys = map g (take i xs) in let y = g (get_or xs i d) in
    is ∙ (ap (λ l. l ++ f y) so ∙ (append_assoc old (flat_map f ys) (f y) ∙ ap (λ l. old ++ l) (flat_map_more f [] ys y ∙ ap (flat_map f) (sym (map_more g xs i d h)))))

-- head and edits are the file
module _ (bs : List ℕ) (w h : ℕ) (edits : List Edit) (done : ℕ) (within : done ≤ length edits) where
  pub file_pieces : file_head w h done (length edits - done) ++ all_written (map (edit_of bs) edits) ≡ file_of bs w h edits done
  file_pieces =
      let d = map (edit_of bs) (take done edits) in let u = map (edit_of bs) (drop done edits) in
      let d_long : length d ≡ done = length-map (take done edits) (edit_of bs) ∙ length-take-le done edits within in
      let u_long : length u ≡ length edits - done = length-map (drop done edits) (edit_of bs) ∙ length-drop done edits in
      let all : all_written (map (edit_of bs) edits) ≡ all_written d ++ all_written u =
      ap (λ es. all_written (map (edit_of bs) es)) (sym (take-append-drop done edits))
      ∙ (ap (λ es. all_written es) (map-append (edit_of bs) (take done edits) (drop done edits)) ∙ all_append d u) in
      ap (λ l. file_head w h done (length edits - done) ++ l) all
      ∙ (ap (λ n. file_head w h n (length edits - done) ++ (all_written d ++ all_written u)) (sym d_long)
      ∙ ap (λ n. file_head w h (length d) n ++ (all_written d ++ all_written u)) (sym u_long))

  pub file_size : length (file_head w h done (length edits - done)) + length (all_written (map (edit_of bs) edits)) ≡ length (file_of bs w h edits done)
  file_size = sym (length-append (file_head w h done (length edits - done)) (all_written (map (edit_of bs) edits))) ∙ ap length file_pieces

  -- the edits put behind the head that was put
  module _ (out mid : List ℕ) (at : ℕ) (room : file_room edits ≤ length out) (mid_is : mid ≡ put_at out 0 (file_head w h done (length edits - done))) (at_is : at ≡ 16) where
    pub edits_room : All (EditGood bs) edits → at + length (all_written (map (edit_of bs) edits)) ≤ length mid
    edits_room good =
        omega (arith, at_is, rows_short bs edits good, ap length mid_is ∙ length-put_at out 0 (file_head w h done (length edits - done)) (omega arith))

    pub put_file : (last : List ℕ) → last ≡ put_at mid at (all_written (map (edit_of bs) edits)) → last ≡ file_put out (file_of bs w h edits done) edits
    put_file last e =
        e ∙ (rw (mid_is, at_is) (put_put out 0 (file_head w h done (length edits - done)) (all_written (map (edit_of bs) edits)) (omega arith))
        ∙ (ap (put_at out 0) file_pieces ∙ sym (cond-true _ _ _ (le-leb (file_room edits) (length out) room))))

    pub file_end : (r : ℕ) → r ≡ at + length (all_written (map (edit_of bs) edits)) → ◌≡◌ {A = Result ℕ Refusal} (Ok r) (file_answer out (file_of bs w h edits done) edits)
    file_end r e =
        let size : r ≡ length (file_of bs w h edits done) = omega (arith, file_size) in
        ap (λ (n : ℕ). let x : Result ℕ Refusal = Ok n in x) size ∙ sym (cond-true _ _ _ (le-leb (file_room edits) (length out) room))
