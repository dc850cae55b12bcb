-- Pieces added to a list of bytes one after the other. Assumes nothing.
use Rattle.std.proofs.Common.{◌≡◌, ℕ, zero, suc, ◌+◌, ◌<◌, List, ◌++◌, sym, refl, ap, ◌∙◌, ap₂, append_assoc, add-one, arith}
use Rattle.pixel.specs.declared.Pixel.{Pixel}
use Rattle.words.specs.declared.showing.Format.{Format}
use Rattle.words.specs.Printing.{upto, heading, cell, row_end, printed}

pub both_added : (old mid last a b : List ℕ) → mid ≡ old ++ a → last ≡ mid ++ b → last ≡ old ++ (a ++ b)
both_added old mid last a b m l = l ∙ (ap (λ xs. xs ++ b) m ∙ append_assoc old a b)

pub one_more : (f : ℕ → List ℕ) (k : ℕ) (old mid last : List ℕ) → mid ≡ old ++ upto f k → last ≡ mid ++ f k → last ≡ old ++ upto f (k + 1)
one_more f k old mid last m l = both_added old mid last (upto f k) (f k) m l ∙ ap (λ n. old ++ upto f n) (sym (add-one k))

-- pieces that are the same below n
pub upto_same : (f g : ℕ → List ℕ) (n : ℕ) → ((k : ℕ) → k < n → f k ≡ g k) → upto f n ≡ upto g n
upto_same f g zero h = refl
upto_same f g (suc n) h = ap₂ ◌++◌ (upto_same f g n (λ k l. h k (omega arith))) (h n (omega arith))

pub printed_same : (format : Format) (w h : ℕ) (f g : ℕ → ℕ → Pixel) → ((x y : ℕ) → x < w → y < h → f x y ≡ g x y) → printed format w h f ≡ printed format w h g
printed_same format w h f g same =
    ap (λ l. heading format w h ++ l)
    (upto_same _ _ h (λ y l. ap (λ row. row ++ row_end format) (upto_same _ _ w (λ x k. ap (cell format x) (same x y k l)))))
