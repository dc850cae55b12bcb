-- Rows of bytes, one after the other. Assumes nothing.
use Rattle.std.proofs.Common.{◌≡◌, ℕ, ◌+◌, ◌*◌, ◌<◌, ◌≤◌, List, get_or, ap, ◌∙◌, le_refl, arith, below_more}
use Rattle.std.proofs.lemmas.Nat.{mul-le}
use Rattle.pixel.specs.Bytes.{BytesTo}
use Rattle.canvas.specs.Rows.{RowsTo}

pub row_fits : (r h w : ℕ) → r < h → (r + 1) * w ≤ h * w
row_fits r h w l = mul-le (r + 1) w h w (omega arith) (le_refl w)

-- one more row
pub rows_more : (f : ℕ → ℕ → ℕ) (g : ℕ → ℕ) (at w j : ℕ) (xs ys zs : List ℕ) → RowsTo f at w j xs ys → BytesTo g (at + j * w) w ys zs → ((i : ℕ) → i < w → g i ≡ f i j) → RowsTo f at w (j + 1) xs zs
rows_more f g at w j xs ys zs so to same =
    let P : ℕ → Type 0 = λ r. (i : ℕ) → i < w → get_or zs (at + (r * w + i)) 0 ≡ f i r in
    let old : (r : ℕ) → r < j → P r
    = λ r rj i iw. to.before (at + (r * w + i)) (omega (arith, row_fits r j w rj)) ∙ so.written i r iw rj in
    let new : P j
    = λ i iw. let e : at + (j * w + i) ≡ at + j * w + i = omega arith in ap (λ q. get_or zs q 0) e ∙ to.written i iw ∙ same i iw in
    record {
      long = to.long ∙ so.long;
      written = λ i r iw rj. below_more P j old new r rj i iw;
      before = λ q l. to.before q (omega arith) ∙ so.before q l;
      after = λ q l. to.after q (omega arith) ∙ so.after q (omega arith);
    }
