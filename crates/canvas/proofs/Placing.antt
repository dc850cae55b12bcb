-- What stands where in layers with one put in or taken out. Assumes nothing.
use Rattle.std.proofs.Common.{◌≡◌, ℕ, zero, suc, ◌+◌, ◌-◌, ◌<◌, ◌≤◌, List, [], ◌∷◌, length, get_or, refl, ap, ◌∙◌, inl, inr, arith}
use Rattle.std.proofs.lemmas.Bool.{cases_lt, cases_order}
use Rattle.std.proofs.lemmas.Bool.Decides.{nat_tests}
use Rattle.page.specs.Layers.{Layer, put_in, without}
use Rattle.canvas.specs.Arranging.{from_lowered, from_raised}

pub length-put_in : (n : ℕ) (l : Layer) (ls : List Layer) → length (put_in n l ls) ≡ suc (length ls)
length-put_in zero l ls = refl
length-put_in (suc n) l [] = refl
length-put_in (suc n) l (m ∷ ms) = ap suc (length-put_in n l ms)

put_in_below : (n : ℕ) (l : Layer) (ls : List Layer) (k : ℕ) (d : Layer) → k < n → n ≤ length ls → get_or (put_in n l ls) k d ≡ get_or ls k d
put_in_below zero l ls k d h m = absurd (omega arith)
put_in_below (suc n) l [] k d h m = absurd (omega arith)
put_in_below (suc n) l (x ∷ xs) zero d h m = refl
put_in_below (suc n) l (x ∷ xs) (suc k) d h m = put_in_below n l xs k d (omega arith) (omega arith)

pub put_in_at : (n : ℕ) (l : Layer) (ls : List Layer) (d : Layer) → n ≤ length ls → get_or (put_in n l ls) n d ≡ l
put_in_at zero l ls d m = refl
put_in_at (suc n) l [] d m = absurd (omega arith)
put_in_at (suc n) l (x ∷ xs) d m = put_in_at n l xs d (omega arith)

put_in_above : (n : ℕ) (l : Layer) (ls : List Layer) (k : ℕ) (d : Layer) → n ≤ k → n ≤ length ls → get_or (put_in n l ls) (suc k) d ≡ get_or ls k d
put_in_above zero l ls k d h m = refl
put_in_above (suc n) l [] k d h m = absurd (omega arith)
put_in_above (suc n) l (x ∷ xs) zero d h m = absurd (omega arith)
put_in_above (suc n) l (x ∷ xs) (suc k) d h m = put_in_above n l xs k d (omega arith) (omega arith)

pub length_without : (n : ℕ) (ls : List Layer) → n < length ls → suc (length (without n ls)) ≡ length ls
length_without n [] h = absurd (omega arith)
length_without zero (l ∷ ls) h = refl
length_without (suc n) (l ∷ ls) h = ap suc (length_without n ls (omega arith))

without_below : (n : ℕ) (ls : List Layer) (k : ℕ) (d : Layer) → k < n → get_or (without n ls) k d ≡ get_or ls k d
without_below n [] k d h = refl
without_below zero (l ∷ ls) k d h = absurd (omega arith)
without_below (suc n) (l ∷ ls) zero d h = refl
without_below (suc n) (l ∷ ls) (suc k) d h = without_below n ls k d (omega arith)

without_above : (n : ℕ) (ls : List Layer) (k : ℕ) (d : Layer) → n ≤ k → get_or (without n ls) k d ≡ get_or ls (suc k) d
without_above n [] k d h = refl
without_above zero (l ∷ ls) k d h = refl
without_above (suc n) (l ∷ ls) zero d h = absurd (omega arith)
without_above (suc n) (l ∷ ls) (suc k) d h = without_above n ls k d (omega arith)

-- one put in, by where the others come from
pub put_in_from : (n hi : ℕ) (l : Layer) (ls : List Layer) (k : ℕ) (d : Layer) → n ≤ length ls → k ≤ hi → (k ≡ n → ⊥) → get_or (put_in n l ls) k d ≡ get_or ls (from_lowered n hi k) d
unfolding from_lowered
put_in_from n hi l ls k d m h ne =
    elim (cases_order k n) [
      | inl e ↦ absurd (ne e)
      | inr o ↦ elim o [
        | inl u ↦ let e : k ≡ from_lowered n hi k = grind (arith, nat_tests) in put_in_below n l ls k d u m ∙ ap (λ i. get_or ls i d) e
        | inr u ↦
            let s : k ≡ suc (k - 1) = omega arith in
            let e : k - 1 ≡ from_lowered n hi k = grind (arith, nat_tests) in
            ap (λ i. get_or (put_in n l ls) i d) s ∙ put_in_above n l ls (k - 1) d (omega arith) m ∙ ap (λ i. get_or ls i d) e
      ]
    ]

-- one taken out
pub without_from : (n hi : ℕ) (ls : List Layer) (k : ℕ) (d : Layer) → k < hi → get_or (without n ls) k d ≡ get_or ls (from_raised n hi k) d
unfolding from_raised
without_from n hi ls k d h =
    elim (cases_lt k n) [
      | inl u ↦ let e : k ≡ from_raised n hi k = grind (arith, nat_tests) in without_below n ls k d u ∙ ap (λ i. get_or ls i d) e
      | inr u ↦ let e : suc k ≡ from_raised n hi k = grind (arith, nat_tests) in without_above n ls k d u ∙ ap (λ i. get_or ls i d) e
    ]

-- one that changes places with the next
pub raised_from : (n : ℕ) (ls : List Layer) (k : ℕ) (d : Layer) → suc n < length ls → get_or (put_in (suc n) (get_or ls n d) (without n ls)) k d ≡ get_or ls (from_raised n (n + 1) k) d
unfolding from_raised
raised_from n ls k d l =
    let few : suc n ≤ length (without n ls) = omega (arith, length_without n ls (omega arith)) in
    elim (cases_order k (suc n)) [
      | inl e ↦
          let f : n ≡ from_raised n (n + 1) k = grind (arith, nat_tests) in
          ap (λ i. get_or (put_in (suc n) (get_or ls n d) (without n ls)) i d) e ∙ put_in_at (suc n) (get_or ls n d) (without n ls) d few ∙ ap (λ i. get_or ls i d) f
      | inr o ↦ elim o [
        | inl u ↦ put_in_below (suc n) (get_or ls n d) (without n ls) k d u few ∙ without_from n (n + 1) ls k d (omega arith)
        | inr u ↦
            let s : k ≡ suc (k - 1) = omega arith in
            let f : suc (k - 1) ≡ from_raised n (n + 1) k = grind (arith, nat_tests) in
            ap (λ i. get_or (put_in (suc n) (get_or ls n d) (without n ls)) i d) s ∙ put_in_above (suc n) (get_or ls n d) (without n ls) (k - 1) d (omega arith) few ∙ without_above n ls (k - 1) d (omega arith) ∙ ap (λ i. get_or ls i d) f
      ]
    ]
