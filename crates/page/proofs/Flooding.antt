-- A flood of as many steps as there are pixels takes the pixels to which similar ones lead, and no others. What is reached only grows, and there is room
-- for w * h pixels: within so many steps it has stopped growing, and what has stopped once stays as it is. Assumes nothing.
use Rattle.std.proofs.Common.{◌≡◌, ℕ, zero, suc, ◌+◌, ◌*◌, ◌<◌, ◌≤◌, Bool, true, false, cond, ◌&&◌, eqb, ltb, ◌⊎◌, sym, refl, ap, subst, inl, inr, arith}
use mathlib.Core.Path.{fun_ext}
use mathlib.Core.Bool.{false≢true}
use Rattle.std.proofs.lemmas.Bool.{ltb-true, lt-ltb, le-leb, eqb-true, eq-eqb, cases_lt, and_parts, and_from, or_cases, or_left, or_right}
use Rattle.pixel.specs.declared.Pixel.{Pixel}
use Rattle.page.specs.Layers.{Picture}
use Rattle.page.specs.Selection.{left_of, above, beside, spread, reached, mask_of}
use Rattle.page.specs.Filters.{row_sum, square_sum}
use Rattle.page.specs.Flood.{Leads, here, right, left, down, up, EnoughSteps, SimilarSelected}
use Rattle.page.specs.Edits.{active_layer}
use Rattle.page.proofs.Bounds.{row_sum_most}
use Rattle.pixel.specs.Channels.{near}
use Rattle.pixel.specs.Pixels.{similar}

-- sums over a square: of what is nowhere more, and of what is nowhere more and comes to as much
row_sum_mono : (f g : ℕ → ℕ) (a n : ℕ) → ((k : ℕ) → f k ≤ g k) → row_sum f a n ≤ row_sum g a n
row_sum_mono f g a zero le = omega arith
row_sum_mono f g a (suc n) le = omega (arith, le a, row_sum_mono f g (suc a) n le)

row_sum_tight : (f g : ℕ → ℕ) (a n : ℕ) → ((k : ℕ) → f k ≤ g k) → row_sum g a n ≤ row_sum f a n → (k : ℕ) → a ≤ k → k < a + n → g k ≤ f k
row_sum_tight f g a zero le most k ak kn = omega arith
row_sum_tight f g a (suc n) le most k ak kn =
    let rest = row_sum_mono f g (suc a) n le in
    elim (cases_lt a k) [
      | inl lt ↦ row_sum_tight f g (suc a) n le (omega (arith, le a)) k lt (omega arith)
      | inr ge ↦ subst (λ m. g m ≤ f m) (let e : a ≡ k = omega arith in e) (omega arith)
    ]

square_tight : (f g : ℕ → ℕ → ℕ) (w h : ℕ) → ((i j : ℕ) → f i j ≤ g i j) → square_sum g 0 0 w h ≤ square_sum f 0 0 w h → (i j : ℕ) → i < w → j < h → g i j ≤ f i j
square_tight f g w h le most i j iw jh =
    row_sum_tight (λ a. f a j) (λ a. g a j) 0 w (λ a. le a j)
    (row_sum_tight (λ b. row_sum (λ a. f a b) 0 w) (λ b. row_sum (λ a. g a b) 0 w) 0 h (λ b. row_sum_mono (λ a. f a b) (λ a. g a b) 0 w (λ a. le a b)) most j (omega arith) (omega arith))
    i (omega arith) (omega arith)

square_most : (f : ℕ → ℕ → ℕ) (w h : ℕ) → ((i j : ℕ) → f i j ≤ 1) → square_sum f 0 0 w h ≤ w * h
square_most f w h le =
    omega (arith, row_sum_most (λ b. row_sum (λ a. f a b) 0 w) (1 * w) 0 h (λ b. row_sum_most (λ a. f a b) 1 0 w (λ a. le a b)))

-- a test as a number
abbrev bit : Bool → ℕ
bit b = cond b 1 0

bit_most : (b : Bool) → bit b ≤ 1
bit_most true = omega arith
bit_most false = omega arith

bit_le : (a b : Bool) → (a ≡ true → b ≡ true) → bit a ≤ bit b
bit_le true true h = omega arith
bit_le true false h = absurd (false≢true (h refl))
bit_le false b h = omega arith

le_bit : (a b : Bool) → bit a ≤ bit b → a ≡ true → b ≡ true
le_bit a true h e = refl
le_bit true false h e = absurd (omega arith)
le_bit false false h e = e

same_bool : (a b : Bool) → (a ≡ true → b ≡ true) → (b ≡ true → a ≡ true) → a ≡ b
same_bool true b f g = sym (f refl)
same_bool false true f g = g refl
same_bool false false f g = refl

-- every pixel is similar to itself
near_self : (n a : ℕ) → near n a a ≡ true
unfolding near
near_self n a = let e = le-leb a (a + n) (omega arith) in and_from _ _ e e

similar_self : (n : ℕ) (d : Pixel) → similar n d d ≡ true
unfolding similar
similar_self n d =
    and_from _ _ (and_from _ _ (near_self n d.red) (near_self n d.green)) (and_from _ _ (near_self n d.blue) (near_self n d.alpha))

-- what holds beside a pixel, case by case
beside_elim : (r : ℕ → ℕ → Bool) (i j : ℕ) (P : Type 0) → (r i j ≡ true → P) → ((a : ℕ) → i ≡ suc a → r a j ≡ true → P) → (r (suc i) j ≡ true → P) →
    ((b : ℕ) → j ≡ suc b → r i b ≡ true → P) → (r i (suc j) ≡ true → P) → beside r i j ≡ true → P
beside_elim r i j P at-it from-left from-right from-above from-below e =
    elim (or_cases (r i j) _ e) [
      | inl t ↦ at-it t
      | inr e₁ ↦
          elim (or_cases (left_of r i j) _ e₁) [
            | inl t ↦ on_left i from-left t
            | inr e₂ ↦
                elim (or_cases (r (suc i) j) _ e₂) [
                  | inl t ↦ from-right t
                  | inr e₃ ↦
                      elim (or_cases (above r i j) _ e₃) [ inl t ↦ on_top j from-above t | inr t ↦ from-below t ]
                ]
          ]
    ]
  where
    on_left : (c : ℕ) → ((a : ℕ) → c ≡ suc a → r a j ≡ true → P) → left_of r c j ≡ true → P
    on_left zero k t = absurd (false≢true t)
    on_left (suc a) k t = k a refl t

    on_top : (c : ℕ) → ((b : ℕ) → c ≡ suc b → r i b ≡ true → P) → above r i c ≡ true → P
    on_top zero k t = absurd (false≢true t)
    on_top (suc b) k t = k b refl t

module _ (f : Picture) (w h n x y : ℕ) (xw : x < w) (yh : y < h) where
  abbrev R : ℕ → ℕ → ℕ → Bool
  R = reached f w h n x y

  abbrev Like : ℕ → ℕ → Type 0
  Like i j = similar n (f i j) (f x y) ≡ true

  -- one step of the flood, taken apart and put together
  spread_parts : (r : ℕ → ℕ → Bool) (i j : ℕ) → spread f w h n x y r i j ≡ true → (i < w) × (j < h) × Like i j × (beside r i j ≡ true)
  unfolding spread
  spread_parts r i j e =
      let a = and_parts (ltb i w && ltb j h) _ e in
      let b = and_parts (ltb i w) (ltb j h) a.0 in
      let c = and_parts (similar n (f i j) (f x y)) (beside r i j) a.1 in
      (ltb-true i w b.0, ltb-true j h b.1, c.0, c.1)

  spread_from : (r : ℕ → ℕ → Bool) (i j : ℕ) → i < w → j < h → Like i j → beside r i j ≡ true → spread f w h n x y r i j ≡ true
  unfolding spread
  spread_from r i j iw jh like e = and_from _ _ (and_from _ _ (lt-ltb i w iw) (lt-ltb j h jh)) (and_from _ _ like e)

  -- what is reached lies on the page and is similar, and stays reached
  reached_like : (k i j : ℕ) → R k i j ≡ true → (i < w) × (j < h) × Like i j
  reached_like zero i j e =
      let a = and_parts (eqb i x) (eqb j y) e in
      let ix = eqb-true i x a.0 in let jy = eqb-true j y a.1 in
      (omega arith, omega arith, rw (ix, jy) (similar_self n (f x y)))
  reached_like (suc k) i j e = let a = spread_parts (R k) i j e in (a.0, a.1, a.2)

  grows : (k i j : ℕ) → R k i j ≡ true → R (suc k) i j ≡ true
  grows k i j e = let a = reached_like k i j e in spread_from (R k) i j a.0 a.1 a.2 (or_left (R k i j) _ e)

  -- how much is reached
  count : ℕ → ℕ
  count k = square_sum (λ i j. bit (R k i j)) 0 0 w h

  count_most : (k : ℕ) → count k ≤ w * h
  unfolding count
  count_most k = square_most (λ i j. bit (R k i j)) w h (λ i j. bit_most (R k i j))

  stops : (k : ℕ) → count (suc k) ≤ count k → R (suc k) ≡ R k
  unfolding count
  stops k most =
      fun_ext (λ i. fun_ext (λ j. same_bool (R (suc k) i j) (R k i j)
      (λ e. let a = reached_like (suc k) i j e in
      le_bit (R (suc k) i j) (R k i j)
      (square_tight (λ p q. bit (R k p q)) (λ p q. bit (R (suc k) p q)) w h (λ p q. bit_le (R k p q) (R (suc k) p q) (grows k p q)) most i j a.0 a.1) e)
      (grows k i j)))

  stopped_or_many : (k : ℕ) → (R (suc k) ≡ R k) ⊎ (k ≤ count k)
  stopped_or_many zero = inr (omega arith)
  stopped_or_many (suc k) =
      elim (stopped_or_many k) [
        | inl e ↦ inl (ap (spread f w h n x y) e)
        | inr many ↦ elim (cases_lt (count k) (count (suc k))) [ inl lt ↦ inr (omega arith) | inr ge ↦ inl (ap (spread f w h n x y) (stops k ge)) ]
      ]

  stopped : R (suc (w * h)) ≡ R (w * h)
  stopped =
      elim (stopped_or_many (w * h)) [ inl e ↦ e | inr many ↦ stops (w * h) (omega (arith, count_most (suc (w * h)))) ]

  -- so what is beside a reached pixel, and similar, is reached
  closed : (i j : ℕ) → i < w → j < h → Like i j → beside (R (w * h)) i j ≡ true → R (w * h) i j ≡ true
  closed i j iw jh like e = subst (λ (r : ℕ → ℕ → Bool). r i j ≡ true) stopped (spread_from (R (w * h)) i j iw jh like e)

  start : (k : ℕ) → R k x y ≡ true
  start zero = and_from _ _ (eq-eqb x x refl) (eq-eqb y y refl)
  start (suc k) = grows k x y (start k)

  leads_reached : {i j : ℕ} → Leads f w h n x y i j → R (w * h) i j ≡ true
  leads_reached here = start (w * h)
  leads_reached (right {i = i} {j = j} l lt like) =
      let e = leads_reached l in let a = reached_like (w * h) i j e in
      closed (suc i) j lt a.1 like (or_right (R (w * h) (suc i) j) _ (or_left (R (w * h) i j) _ e))
  leads_reached (left {i = i} {j = j} l like) =
      let e = leads_reached l in let a = reached_like (w * h) (suc i) j e in
      closed i j (omega arith) a.1 like (or_right (R (w * h) i j) _ (or_right (left_of (R (w * h)) i j) _ (or_left (R (w * h) (suc i) j) _ e)))
  leads_reached (down {i = i} {j = j} l lt like) =
      let e = leads_reached l in let a = reached_like (w * h) i j e in
      closed i (suc j) a.0 lt like
      (or_right (R (w * h) i (suc j)) _ (or_right (left_of (R (w * h)) i (suc j)) _ (or_right (R (w * h) (suc i) (suc j)) _ (or_left (R (w * h) i j) _ e))))
  leads_reached (up {i = i} {j = j} l like) =
      let e = leads_reached l in let a = reached_like (w * h) i (suc j) e in
      closed i j a.0 (omega arith) like
      (or_right (R (w * h) i j) _ (or_right (left_of (R (w * h)) i j) _ (or_right (R (w * h) (suc i) j) _ (or_right (above (R (w * h)) i j) _ e))))

  reached_leads : (k i j : ℕ) → R k i j ≡ true → Leads f w h n x y i j
  reached_leads zero i j e =
      let a = and_parts (eqb i x) (eqb j y) e in
      rw (eqb-true i x a.0, eqb-true j y a.1) here
  reached_leads (suc k) i j e =
      let a = spread_parts (R k) i j e in
      beside_elim (R k) i j (Leads f w h n x y i j) (λ t. reached_leads k i j t)
      (λ c ic t. right' i c j ic (reached_leads k c j t) a.0 a.2)
      (λ t. left (reached_leads k (suc i) j t) a.2)
      (λ c jc t. down' i j c jc (reached_leads k i c t) a.1 a.2)
      (λ t. up (reached_leads k i (suc j) t) a.2) a.3
    where
      right' : (p q r : ℕ) → p ≡ suc q → Leads f w h n x y q r → p < w → Like p r → Leads f w h n x y p r
      right' p q r e l lt like = rw e (right l (rw e at lt) (rw e at like))

      down' : (p q r : ℕ) → q ≡ suc r → Leads f w h n x y p r → q < h → Like p q → Leads f w h n x y p q
      down' p q r e l lt like = rw e (down l (rw e at lt) (rw e at like))

pub enough_steps : EnoughSteps
enough_steps f w h n x y i j xw yh = (leads_reached f w h n x y xw yh, reached_leads f w h n x y xw yh (w * h) i j)

mask_full : (b : Bool) → mask_of b ≡ 255 → b ≡ true
mask_full true e = refl
mask_full false e = absurd (omega arith)

pub similar_selected : SimilarSelected
similar_selected p n x y i j xw yh =
    let steps = enough_steps (active_layer p).pixels p.wide p.high n x y i j xw yh in
    rw (lt-ltb x p.wide xw, lt-ltb y p.high yh) (λ l. ap mask_of (steps.0 l), λ e. steps.1 (mask_full _ e))
