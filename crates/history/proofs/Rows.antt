-- Slots written to a file one after the other, and read from one. Assumes nothing.
use Rattle.std.proofs.Common.{◌≡◌, ℕ, suc, ◌+◌, ◌-◌, ◌*◌, ◌<◌, ◌≤◌, List, [], ◌∷◌, ◌++◌, length, get_or, take, drop, sym, refl, ap, ◌∙◌, subst, ap₂, add-one, arith, length-append, length-drop, drop-cons}
use Rattle.std.proofs.lemmas.List.{take_at, drop_at, drop-drop, take_more}
use Rattle.page.specs.Edits.{Edit, add_layer}
use Rattle.page.specs.Fits.{Fits}
use Rattle.codec.specs.Written.{written}
use Rattle.codec.specs.Files.{all_written}
use Rattle.codec.specs.Laws.{EditBytes}
use Rattle.codec.specs.Read.{edit_or_none, edit_and_end}
use Rattle.codec.specs.Put.{put_at}
use Rattle.codec.proofs.Complete.{written_read}
use Rattle.codec.proofs.Means.{written_long}
use Rattle.codec.proofs.Writes.{PutRow, put_more, written_short}
use Rattle.history.specs.Slots.{slot_edit, edits_in, SlotPut, RowStands}
use Rattle.history.proofs.Histories.{edits_kept, edits_long, row_more}

-- one slot more is written
pub put_slot_row : (xs ys zs turns : List ℕ) (start at end k n : ℕ) (e : Edit) → e ≡ slot_edit turns k → Fits e → k < n → start + 8192 * n ≤ length xs → PutRow xs ys start at (edits_in turns 0 k) →
    zs ≡ put_at ys at (written e) → end ≡ at + length (written e) → PutRow xs zs start end (edits_in turns 0 (k + 1))
put_slot_row xs ys zs turns start at end k n e is fits l room so put ends =
    subst (PutRow xs zs start end) (ap (λ f. edits_in turns 0 k ++ f ∷ []) is ∙ sym (row_more turns k))
    (put_more xs ys zs start at end (edits_in turns 0 k) e fits (omega (arith, edits_long turns 0 k)) so put ends)

pub slot_room : (xs ys turns : List ℕ) (start at k n : ℕ) (e : Edit) → Fits e → k < n → start + 8192 * n ≤ length xs → length ys ≡ length xs → PutRow xs ys start at (edits_in turns 0 k) → at + length (written e) ≤ length ys
slot_room xs ys turns start at k n e fits l room long so = omega (arith, so.end, so.few, edits_long turns 0 k, written_short e fits, long)

-- THE NEXT EDIT that stands in a file: e at `at`, and the rest behind it
module _ (bs : List ℕ) (es : List Edit) (at k : ℕ) (row : RowStands bs 16 es) (l : k < length es) (stands : drop at bs ≡ all_written (drop k es)) where
  abbrev pub next : Edit
  next = get_or es k add_layer

  pub next_fits : Fits next
  next_fits = row.fit k add_layer l

  next_stands : drop at bs ≡ written next ++ all_written (drop (suc k) es)
  next_stands = stands ∙ ap (λ fs. all_written fs) (drop-cons es k add_layer l)

  pub next_end : (edit_and_end bs at).1 ≡ at + length (written next)
  next_end = ap (λ r. (edit_or_none bs at r).1) (written_read bs (all_written (drop (suc k) es)) at next next_fits next_stands).0

  pub next_in : at + length (written next) ≤ length bs
  next_in =
      let some = written_read bs (all_written (drop (suc k) es)) at next next_fits next_stands in
      omega (arith, length-drop at bs, ap length next_stands, length-append (written next) (all_written (drop (suc k) es)), written_long next)

  pub next_bytes : (end : ℕ) → end ≡ at + length (written next) → EditBytes (take (end - at) (drop at bs)) next
  next_bytes end is =
      record {
        fits = next_fits;
        is_built = row.are_built k add_layer l;
        is = ap (take (end - at)) next_stands ∙ take_at (written next) (all_written (drop (suc k) es)) (end - at) (omega arith);
      }

  pub next_rest : (end : ℕ) → end ≡ at + length (written next) → drop end bs ≡ all_written (drop (k + 1) es)
  next_rest end is =
      ap (λ n. drop n bs) is ∙ sym (drop-drop (length (written next)) at bs) ∙ ap (drop (length (written next))) next_stands
      ∙ drop_at (written next) (all_written (drop (suc k) es)) (length (written next)) refl ∙ ap (λ n. all_written (drop n es)) (sym (add-one k))

  pub next_row : (bs' turns turns' : List ℕ) → SlotPut bs' k turns turns' → EditBytes bs' next → edits_in turns 0 k ≡ take k es → edits_in turns' 0 (k + 1) ≡ take (k + 1) es
  next_row bs' turns turns' put b so =
      row_more turns' k ∙ ap₂ (λ xs x. xs ++ x ∷ []) (edits_kept turns turns' 0 k (λ j m. put.others j (λ x. omega arith)) ∙ so) (put.here next b) ∙ sym (take_more es k add_layer l)
