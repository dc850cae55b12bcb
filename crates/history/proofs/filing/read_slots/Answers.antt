use Rattle.std.proofs.Common.{◌≡◌, ℕ, ◌-◌, ◌<◌, ◌≤◌, List, length, take, drop, sym, ap, ◌∙◌, arith, length-drop}
use Rattle.std.proofs.lemmas.List.{take_all, length-take-le}
use Rattle.page.specs.Edits.{Edit}
use Rattle.codec.specs.Read.{edit_and_end}
use Rattle.codec.specs.Files.{all_written}
use Rattle.codec.proofs.Writes.{written_short}
use Rattle.history.specs.Slots.{edits_in, RowStands}
use Rattle.history.proofs.Rows.{next, next_fits, next_end, next_in, next_bytes, next_rest, next_row}
use Rattle.history.proofs.filing.read_slots.Goals as goal

-- where the next edit ends: within the file, and soon
record Ends (bs : List ℕ) (at end : ℕ) : Type 0 where
  forward : at ≤ end
  within : end ≤ length bs
  soon : end - at ≤ 4104

ends : (bs : List ℕ) (es : List Edit) (at k end : ℕ) → RowStands bs 16 es → k < length es → drop at bs ≡ all_written (drop k es) → end ≡ (edit_and_end bs at).1 → Ends bs at end
ends bs es at k end row l stands is =
    let size = is ∙ next_end bs es at k row l stands in
    record {
      forward = omega (arith, size);
      within = omega (arith, size, next_in bs es at k row l stands);
      soon = omega (arith, size, written_short (next bs es at k row l stands) (next_fits bs es at k row l stands));
    }

pub slice_bounds-put_slot-count : goal.slice_bounds-put_slot-count
slice_bounds-put_slot-count c =
    let p = c.requires.1 in
    (ends c.args.file.now p.0 c.loop-k.at c.loop-k.k _ p.1.0 (omega (arith, p.1.1)) (c.loop-k.invariant p.0 p.1.0 p.1.1).0 (ap (λ r. r.1) c.edit_at-end.ensures.is)).forward

pub slice_bounds-put_slot-start : goal.slice_bounds-put_slot-start
slice_bounds-put_slot-start c =
    let p = c.requires.1 in
    (ends c.args.file.now p.0 c.loop-k.at c.loop-k.k _ p.1.0 (omega (arith, p.1.1)) (c.loop-k.invariant p.0 p.1.0 p.1.1).0 (ap (λ r. r.1) c.edit_at-end.ensures.is)).forward

pub slice_bounds-put_slot-end : goal.slice_bounds-put_slot-end
slice_bounds-put_slot-end c =
    let p = c.requires.1 in
    (ends c.args.file.now p.0 c.loop-k.at c.loop-k.k _ p.1.0 (omega (arith, p.1.1)) (c.loop-k.invariant p.0 p.1.0 p.1.1).0 (ap (λ r. r.1) c.edit_at-end.ensures.is)).within

pub put_slot-requires : goal.put_slot-requires
put_slot-requires c =
    let p = c.requires.1 in
    let bs = c.args.file.now in
    let at = c.loop-k.at in
    let e = ends bs p.0 at c.loop-k.k c.edit_at-end.result.1 p.1.0 (omega (arith, p.1.1)) (c.loop-k.invariant p.0 p.1.0 p.1.1).0 (ap (λ r. r.1) c.edit_at-end.ensures.is) in
    let size : length (take (c.edit_at-end.result.1 - at) (drop at bs)) ≡ c.edit_at-end.result.1 - at
    = length-take-le (c.edit_at-end.result.1 - at) (drop at bs) (omega (arith, length-drop at bs, e.within)) in
    (omega (arith, size, e.soon, c.requires.0, c.loop-k.auto.turns), omega (arith, size, e.soon))

pub loop-k-preserved : goal.loop-k-preserved
loop-k-preserved c = λ es row long.
    let bs = c.args.file.now in
    let k = c.loop-k.k in
    let l : k < length es = omega arith in
    let so = c.loop-k.invariant es row long in
    let end = ap (λ r. r.1) c.edit_at-end.ensures.is ∙ next_end bs es c.loop-k.at k row l so.0 in (
      next_rest bs es c.loop-k.at k row l so.0 _ end,
      next_row bs es c.loop-k.at k row l so.0 _ _ _ c.put_slot.ensures (next_bytes bs es c.loop-k.at k row l so.0 _ end) so.1,
    )

pub returns : goal.returns
returns c =
    record {
      long = c.loop-k.auto.turns;
      row = λ es row long.
          let all : c.loop-k.k ≡ c.args.count = omega arith in
          ap (edits_in c.loop-k.turns 0) (sym all) ∙ (c.loop-k.invariant es row long).1 ∙ take_all c.loop-k.k es (omega (arith, long));
    }
