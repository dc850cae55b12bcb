-- Where the writing of an edit that fits stands, that edit is read.
use Rattle.std.proofs.Common.{◌≡◌, ℕ, ◌+◌, ◌*◌, ◌/◌, ◌%◌, ◌≤◌, Bool, true, false, eqb, List, [], ◌∷◌, ◌++◌, length, get_or, take, drop, Ok, sym, refl, ap, ◌∙◌, add-zero, arith}
use Rattle.std.proofs.lemmas.List.{drop-drop, get_or-drop, length-append, length-drop, take_at}
use Rattle.std.proofs.lemmas.Bool.{le-leb, le-ltb, cond-true, cond-false}
use Rattle.pixel.specs.declared.Pixel.{Pixel}
use Rattle.page.specs.Edits as page
use Rattle.page.specs.Filters as filters
use Rattle.page.specs.Edits.{add_layer, drop_layer, choose_layer, raise_layer, set_mode, set_opacity, set_visible, merge_down, select_all, select_rect, select_similar, select_inverse, fill, stroke, apply_filter, copy, paste}
use Rattle.page.specs.Filters.{invert, curve, box_blur, edges}
use Rattle.page.specs.Fits.{FilterFits}
use Rattle.pixel.specs.Bytes.{pixel_at}
use Rattle.codec.specs.Written.{written, two, points, four, flag, filter_written}
use Rattle.codec.specs.Meaning.{two_at, edit_of, points_at, filter_of}
use Rattle.codec.specs.Scan.{end_of, edit_at, edit_by, body_end, heads, filter_end_by, filter_by}
use Rattle.codec.specs.Laws.{WrittenRead}

module _ (bs : List ℕ) where
  pub on : (i j : ℕ) (l : List ℕ) → drop i bs ≡ l → drop (i + j) bs ≡ drop j l
  on i j l d = sym (drop-drop j i bs) ∙ ap (λ m. drop j m) d

  pub byte_is : (i v : ℕ) (l : List ℕ) → drop i bs ≡ v ∷ l → get_or bs i 0 ≡ v
  byte_is i v l d = sym (ap (λ m. get_or bs m 0) (add-zero i)) ∙ (sym (get_or-drop i bs 0 0) ∙ ap (λ m. get_or m 0 0) d)

  pub two_is : (i x : ℕ) (l : List ℕ) → drop i bs ≡ two x ++ l → two_at bs i ≡ x
  two_is i x l d = omega (arith, byte_is i (x % 256) (x / 256 ∷ l) d, byte_is (i + 1) (x / 256) l (on i 1 _ d))

  pixel_is : (i : ℕ) (p : Pixel) (l : List ℕ) → drop i bs ≡ four p ++ l → pixel_at bs i ≡ p
  pixel_is i p l d =
      rw (byte_is i p.red _ d, byte_is (i + 1) p.green _ (on i 1 _ d), byte_is (i + 2) p.blue _ (on i 2 _ d), byte_is (i + 3) p.alpha _ (on i 3 _ d))

  points_is : (ats : List (ℕ × ℕ)) (i : ℕ) (l : List ℕ) → drop i bs ≡ points ats ++ l → points_at bs i (length ats) ≡ ats
  points_is [] i l d = refl
  points_is (a ∷ ats) i l d = rw (two_is i a.0 _ d, two_is (i + 2) a.1 _ (on i 2 _ d), points_is ats (i + 4) l (on i 4 _ d))

  -- what is written at `at` is within the bytes
  pub room : (at : ℕ) (w rest : List ℕ) → drop at bs ≡ w ++ rest → 1 ≤ length w → at + length w ≤ length bs
  room at w rest d h = omega (arith, simp (length-append, length-drop) at (ap length d))

  -- a head that stands
  head_end : (at k : ℕ) → get_or bs at 0 ≡ k → k ≤ 16 → at + 1 ≤ length bs → at + get_or heads k 0 ≤ length bs → end_of bs at ≡ body_end bs at k
  head_end at k is le one all =
      rw is (cond-true _ _ _ (le-leb (at + 1) (length bs) one) ∙ (cond-false _ _ _ (le-ltb 16 k le) ∙ cond-true _ _ _ (le-leb (at + get_or heads k 0) (length bs) all)))

  edit_is : (at k : ℕ) (e : page.Edit) → get_or bs at 0 ≡ k → edit_of bs (edit_by bs at k) ≡ e → edit_of bs (edit_at bs at) ≡ e
  edit_is at k e is s = ap (λ m. edit_of bs (edit_by bs at m)) is ∙ s

pub length-points : (ats : List (ℕ × ℕ)) → length (points ats) ≡ 4 * length ats
length-points [] = refl
length-points (a ∷ ats) = omega (arith, length-points ats)

flag_same : (b : Bool) → eqb (flag b) 1 ≡ b
flag_same true = refl
flag_same false = refl

flag_small : (b : Bool) → flag b ≤ 1
flag_small true = omega arith
flag_small false = omega arith

filter_long : (f : filters.Filter) → 1 ≤ length (filter_written f)
filter_long invert = omega arith
filter_long (curve t) = omega arith
filter_long (box_blur r) = omega arith
filter_long edges = omega arith

add_two : (i : ℕ) → i + 2 ≡ i + 1 + 1
add_two i = omega arith

-- the filter that stands after its kind
filter_read : (bs rest : List ℕ) (at : ℕ) (f : filters.Filter) → FilterFits f → drop (at + 1) bs ≡ filter_written f ++ rest → at + 1 ≤ length bs →
    (filter_end_by bs at (get_or bs (at + 1) 0) ≡ Ok (at + length (14 ∷ filter_written f))) × (filter_of bs (filter_by bs at (get_or bs (at + 1) 0)) ≡ f)
filter_read bs rest at invert fits d one = let is = byte_is bs (at + 1) 0 _ d in (rw is, rw is)
filter_read bs rest at (curve t) fits d one =
    let is = byte_is bs (at + 1) 1 _ d in let r = room bs (at + 1) (1 ∷ t) rest d (omega arith) in
    let long : at + 258 ≤ length bs = omega arith in
    let size : length (14 ∷ 1 ∷ t) ≡ 258 = omega arith in
    let t_is : drop (at + 2) bs ≡ t ++ rest = ap (λ m. drop m bs) (add_two at) ∙ on bs (at + 1) 1 _ d in
    (rw (is, size) (cond-true _ _ _ (le-leb (at + 258) (length bs) long)), rw is (ap curve (ap (λ l. take 256 l) t_is ∙ take_at t rest 256 fits.0)))
filter_read bs rest at (box_blur r) fits d one =
    let is = byte_is bs (at + 1) 2 _ d in let h = room bs (at + 1) (2 ∷ r ∷ []) rest d (omega arith) in
    let long : at + 3 ≤ length bs = omega arith in
    let r_is : get_or bs (at + 2) 0 ≡ r = byte_is bs (at + 2) r rest (ap (λ m. drop m bs) (add_two at) ∙ on bs (at + 1) 1 _ d) in
    (rw (is, r_is) (cond-true _ _ _ (le-leb (at + 3) (length bs) long) ∙ cond-false _ _ _ (le-ltb 64 r fits)), rw is (ap box_blur r_is))
filter_read bs rest at edges fits d one = let is = byte_is bs (at + 1) 3 _ d in (rw is, rw is)

pub written_read : WrittenRead
written_read bs rest at add_layer fits d = let r = room bs at (0 ∷ []) rest d (omega arith) in let is = byte_is bs at 0 _ d in (head_end bs at 0 is (omega arith) r r, edit_is bs at 0 _ is refl)
written_read bs rest at drop_layer fits d = let r = room bs at (1 ∷ []) rest d (omega arith) in let is = byte_is bs at 1 _ d in (head_end bs at 1 is (omega arith) r r, edit_is bs at 1 _ is refl)
written_read bs rest at (choose_layer k) fits d =
    let r = room bs at (written (choose_layer k)) rest d (omega arith) in let is = byte_is bs at 2 _ d in
    (head_end bs at 2 is (omega arith) (omega arith) r, edit_is bs at 2 _ is (ap choose_layer (byte_is bs (at + 1) k _ (on bs at 1 _ d))))
written_read bs rest at raise_layer fits d = let r = room bs at (3 ∷ []) rest d (omega arith) in let is = byte_is bs at 3 _ d in (head_end bs at 3 is (omega arith) r r, edit_is bs at 3 _ is refl)
written_read bs rest at (set_mode m) fits d =
    let r = room bs at (written (set_mode m)) rest d (omega arith) in let is = byte_is bs at 4 _ d in
    (head_end bs at 4 is (omega arith) (omega arith) r, edit_is bs at 4 _ is (ap set_mode (byte_is bs (at + 1) m _ (on bs at 1 _ d))))
written_read bs rest at (set_opacity a) fits d =
    let r = room bs at (written (set_opacity a)) rest d (omega arith) in let is = byte_is bs at 5 _ d in
    (head_end bs at 5 is (omega arith) (omega arith) r, edit_is bs at 5 _ is (ap set_opacity (two_is bs (at + 1) a _ (on bs at 1 _ d))))
written_read bs rest at (set_visible b) fits d =
    let r = room bs at (written (set_visible b)) rest d (omega arith) in let is = byte_is bs at 6 _ d in let v = byte_is bs (at + 1) (flag b) _ (on bs at 1 _ d) in
    (head_end bs at 6 is (omega arith) (omega arith) r ∙ rw v (cond-false _ _ _ (le-ltb 1 (flag b) (flag_small b))), edit_is bs at 6 _ is (rw v (ap set_visible (flag_same b))))
written_read bs rest at merge_down fits d = let r = room bs at (7 ∷ []) rest d (omega arith) in let is = byte_is bs at 7 _ d in (head_end bs at 7 is (omega arith) r r, edit_is bs at 7 _ is refl)
written_read bs rest at select_all fits d = let r = room bs at (8 ∷ []) rest d (omega arith) in let is = byte_is bs at 8 _ d in (head_end bs at 8 is (omega arith) r r, edit_is bs at 8 _ is refl)
written_read bs rest at (select_rect x y w h) fits d =
    let r = room bs at (written (select_rect x y w h)) rest d (omega arith) in let is = byte_is bs at 9 _ d in
    (head_end bs at 9 is (omega arith) (omega arith) r, edit_is bs at 9 _ is (rw (two_is bs (at + 1) x _ (on bs at 1 _ d), two_is bs (at + 3) y _ (on bs at 3 _ d), two_is bs (at + 5) w _ (on bs at 5 _ d), two_is bs (at + 7) h _ (on bs at 7 _ d))))
written_read bs rest at (select_similar n x y) fits d =
    let r = room bs at (written (select_similar n x y)) rest d (omega arith) in let is = byte_is bs at 10 _ d in
    (head_end bs at 10 is (omega arith) (omega arith) r, edit_is bs at 10 _ is (rw (byte_is bs (at + 1) n _ (on bs at 1 _ d), two_is bs (at + 2) x _ (on bs at 2 _ d), two_is bs (at + 4) y _ (on bs at 4 _ d))))
written_read bs rest at select_inverse fits d = let r = room bs at (11 ∷ []) rest d (omega arith) in let is = byte_is bs at 11 _ d in (head_end bs at 11 is (omega arith) r r, edit_is bs at 11 _ is refl)
written_read bs rest at (fill p) fits d =
    let r = room bs at (written (fill p)) rest d (omega arith) in let is = byte_is bs at 12 _ d in
    (head_end bs at 12 is (omega arith) (omega arith) r, edit_is bs at 12 _ is (ap fill (pixel_is bs (at + 1) p _ (on bs at 1 _ d))))
written_read bs rest at (stroke p r ats) fits d =
    let h = room bs at (written (stroke p r ats)) rest d (omega arith) in let is = byte_is bs at 13 _ d in let c = two_is bs (at + 6) (length ats) _ (on bs at 6 _ d) in
    let size : length (written (stroke p r ats)) ≡ 8 + 4 * length ats = omega (arith, length-points ats) in (
      head_end bs at 13 is (omega arith) (omega arith) (omega arith)
          ∙ rw (c, size) (cond-false _ _ _ (le-ltb 1024 (length ats) fits.2) ∙ cond-true _ _ _ (le-leb (at + (8 + 4 * length ats)) (length bs) (omega arith))),
      edit_is bs at 13 _ is (rw (c, pixel_is bs (at + 1) p _ (on bs at 1 _ d), byte_is bs (at + 5) r _ (on bs at 5 _ d), points_is bs ats (at + 8) rest (on bs at 8 _ d))),
    )
written_read bs rest at (apply_filter f) fits d =
    let is = byte_is bs at 14 _ d in let f_is = on bs at 1 _ d in let h = room bs at (written (apply_filter f)) rest d (omega arith) in
    let long : 1 ≤ length (filter_written f) = filter_long f in
    let g = filter_read bs rest at f fits f_is (omega arith) in
    (head_end bs at 14 is (omega arith) (omega arith) (omega arith) ∙ g.0, edit_is bs at 14 _ is (ap apply_filter g.1))
written_read bs rest at copy fits d = let r = room bs at (15 ∷ []) rest d (omega arith) in let is = byte_is bs at 15 _ d in (head_end bs at 15 is (omega arith) r r, edit_is bs at 15 _ is refl)
written_read bs rest at (paste x y) fits d =
    let r = room bs at (written (paste x y)) rest d (omega arith) in let is = byte_is bs at 16 _ d in
    (head_end bs at 16 is (omega arith) (omega arith) r, edit_is bs at 16 _ is (rw (two_is bs (at + 1) x _ (on bs at 1 _ d), two_is bs (at + 3) y _ (on bs at 3 _ d))))
