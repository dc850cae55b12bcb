-- The smallest part around the pixels in which two pictures differ. Assumes nothing.
use Rattle.std.proofs.Common.{◌≡◌, ℕ, ◌+◌, ◌-◌, ◌*◌, ◌<◌, ◌≤◌, min, max, eqb, ◌⊎◌, List, sym, refl, ap, ◌∙◌, subst, inl, inr, arith}
use Rattle.std.proofs.lemmas.Bool.{cases_eq, cases_lt, cases_Bool, cond-true, cond-false, eq-eqb, ne_eqb}
use Rattle.std.specs.Prelude.{Option, None, Some, MatchOption}
use Rattle.pixel.specs.declared.areas.Area.{Area}
use Rattle.pixel.specs.Areas.{Within, AreaIn, nowhere, whole, first_rows, Touches, Around, join}
use Rattle.pixel.specs.Bytes.{pixel_at}
use Rattle.pixel.specs.Pictures.{Differs, FirstUnlike, LastUnlike, Unlike, RowDiffers}

-- a part with no columns is around nothing
empty_none : (D : ℕ → ℕ → Type 0) (a : Area) → Around D a → a.wide ≡ 0 → (i j : ℕ) → D i j → ⊥
empty_none D a so e i j d = let u = so.covers i j d in omega (arith, u.0)

-- the same pixels by another name
pub around_is : (D E : ℕ → ℕ → Type 0) (a : Area) → ((i j : ℕ) → D i j → E i j) → ((i j : ℕ) → E i j → D i j) → Around D a → Around E a
around_is D E a to from so =
    record {
      covers = λ i j e. so.covers i j (from i j e);
      tight = elim so.tight [
        | inl e ↦ inl e
        | inr t ↦ inr (record {
          left_side = (t.left_side.0, to _ _ t.left_side.1);
          right_side = (t.right_side.0, to _ _ t.right_side.1);
          top_side = (t.top_side.0, to _ _ t.top_side.1);
          bottom_side = (t.bottom_side.0, to _ _ t.bottom_side.1);
        })
      ];
    }

pub around_none : (D : ℕ → ℕ → Type 0) → ((i j : ℕ) → D i j → ⊥) → Around D nowhere
around_none D none = record { covers = λ i j d. absurd (none i j d); tight = inl refl }

-- all pixels of a page
pub around_whole : (D : ℕ → ℕ → Type 0) (w h : ℕ) → 1 ≤ w → 1 ≤ h → ((i j : ℕ) → i < w → j < h → D i j) → ((i j : ℕ) → D i j → (i < w) × (j < h)) → Around D (whole w h)
around_whole D w h some-w some-h all within =
    record {
      covers = λ i j d. let u = within i j d in ((omega arith, omega (arith, u.0)), (omega arith, omega (arith, u.1)));
      tight = inr (record {
        left_side = (0, all 0 0 (omega arith) (omega arith));
        right_side = (0, all (0 + w - 1) 0 (omega arith) (omega arith));
        top_side = (0, all 0 0 (omega arith) (omega arith));
        bottom_side = (0, all 0 (0 + h - 1) (omega arith) (omega arith));
      });
    }

-- what is around pixels of a page lies in it
pub around_in : (D : ℕ → ℕ → Type 0) (w h : ℕ) (a : Area) → ((i j : ℕ) → D i j → (i < w) × (j < h)) → Around D a → AreaIn w h a
around_in D w h a within so =
    elim so.tight [
      | inl e ↦ subst (AreaIn w h) (sym e) (omega arith, omega arith)
      | inr t ↦
          let r = t.right_side in
          let b = t.bottom_side in
          let ri = so.covers _ _ r.1 in
          let bi = so.covers _ _ b.1 in
          (omega (arith, within _ _ r.1, ri.0), omega (arith, within _ _ b.1, bi.1))
    ]

-- the smallest part around two kinds of pixels is the smallest around both parts
of_min : (P : ℕ → Type 0) (x y : ℕ) → P x → P y → P (min x y)
of_min P x y a b = elim (cases_lt x y) [ inl l ↦ let e : x ≡ min x y = omega arith in subst P e a | inr l ↦ let e : y ≡ min x y = omega arith in subst P e b ]

of_end : (P : ℕ → Type 0) (x n y m : ℕ) → P (x + n - 1) → P (y + m - 1) → P (min x y + (max (x + n) (y + m) - min x y) - 1)
of_end P x n y m a b =
    elim (cases_lt (x + n) (y + m)) [
      | inl l ↦ let e : y + m - 1 ≡ min x y + (max (x + n) (y + m) - min x y) - 1 = omega arith in subst P e b
      | inr l ↦ let e : x + n - 1 ≡ min x y + (max (x + n) (y + m) - min x y) - 1 = omega arith in subst P e a
    ]

within_left : (x n y m k : ℕ) → Within x n k → Within (min x y) (max (x + n) (y + m) - min x y) k
within_left x n y m k u = (omega (arith, u), omega (arith, u))

within_right : (x n y m k : ℕ) → Within y m k → Within (min x y) (max (x + n) (y + m) - min x y) k
within_right x n y m k u = (omega (arith, u), omega (arith, u))

touched : (D : ℕ → ℕ → Type 0) (a : Area) → Around D a → (a.wide ≡ 0 → ⊥) → Touches D a
touched D a so some = elim so.tight [ inl e ↦ absurd (some (ap (λ (b : Area). b.wide) e)) | inr t ↦ t ]

module _ (D E F : ℕ → ℕ → Type 0) (to : (i j : ℕ) → D i j → F i j) (more : (i j : ℕ) → E i j → F i j) (from : (i j : ℕ) → F i j → D i j ⊎ E i j) where
  around_both : (a b : Area) → Around D a → Around E b → (a.wide ≡ 0 → ⊥) → (b.wide ≡ 0 → ⊥) → Around F (join a b)
  around_both a b so by an bn =
      let s = touched D a so an in
      let t = touched E b by bn in
      let is : join a b ≡ record { left = min a.left b.left; top = min a.top b.top; wide = max (a.left + a.wide) (b.left + b.wide) - min a.left b.left; high = max (a.top + a.high) (b.top + b.high) - min a.top b.top }
      = cond-false (eqb a.wide 0) _ _ (ne_eqb _ _ an) ∙ cond-false (eqb b.wide 0) _ _ (ne_eqb _ _ bn) in
      subst (Around F) (sym is)
      (record {
        covers = λ i j f.
            elim (from i j f) [
              | inl d ↦ let u = so.covers i j d in (within_left _ _ b.left b.wide i u.0, within_left _ _ b.top b.high j u.1)
              | inr e ↦ let u = by.covers i j e in (within_right a.left a.wide _ _ i u.0, within_right a.top a.high _ _ j u.1)
            ];
        tight = inr (record {
          left_side = of_min (λ (i : ℕ). (j : ℕ) × F i j) a.left b.left (s.left_side.0, to _ _ s.left_side.1) (t.left_side.0, more _ _ t.left_side.1);
          right_side = of_end (λ (i : ℕ). (j : ℕ) × F i j) a.left a.wide b.left b.wide (s.right_side.0, to _ _ s.right_side.1) (t.right_side.0, more _ _ t.right_side.1);
          top_side = of_min (λ (j : ℕ). (i : ℕ) × F i j) a.top b.top (s.top_side.0, to _ _ s.top_side.1) (t.top_side.0, more _ _ t.top_side.1);
          bottom_side = of_end (λ (j : ℕ). (i : ℕ) × F i j) a.top a.high b.top b.high (s.bottom_side.0, to _ _ s.bottom_side.1) (t.bottom_side.0, more _ _ t.bottom_side.1);
        });
      })

  pub around_join : (a b : Area) → Around D a → Around E b → Around F (join a b)
  around_join a b so by =
      elim (cases_eq a.wide 0) [
        | inl e ↦
            let is : join a b ≡ b = cond-true (eqb a.wide 0) _ _ (eq-eqb _ _ e) in
            subst (Around F) (sym is) (around_is E F b more (λ i j f. elim (from i j f) [ inl d ↦ absurd (empty_none D a so e i j d) | inr x ↦ x ]) by)
        | inr an ↦ elim (cases_eq b.wide 0) [
          | inl e ↦
              let is : join a b ≡ a = cond-false (eqb a.wide 0) _ _ (ne_eqb _ _ an) ∙ cond-true (eqb b.wide 0) _ _ (eq-eqb _ _ e) in
              subst (Around F) (sym is) (around_is D F a to (λ i j f. elim (from i j f) [ inl d ↦ d | inr x ↦ absurd (empty_none E b by e i j x) ]) so)
          | inr bn ↦ around_both a b so by an bn
        ]
      ]

pub join_in : (w h : ℕ) (a b : Area) → AreaIn w h a → AreaIn w h b → AreaIn w h (join a b)
join_in w h a b s t =
    elim (cases_Bool (eqb a.wide 0)) [
      | inl e ↦ subst (AreaIn w h) (sym (cond-true (eqb a.wide 0) _ _ e)) t
      | inr n ↦ elim (cases_Bool (eqb b.wide 0)) [
        | inl e ↦ subst (AreaIn w h) (sym (cond-false (eqb a.wide 0) _ _ n ∙ cond-true (eqb b.wide 0) _ _ e)) s
        | inr m ↦ subst (AreaIn w h) (sym (cond-false (eqb a.wide 0) _ _ n ∙ cond-false (eqb b.wide 0) _ _ m)) (omega (arith, s, t), omega (arith, s, t))
      ]
    ]

module _ (xs : List ℕ) (at by : ℕ) where
  -- a row in which nothing differs, and one in which something does, from the first place to the last
  pub row_none : (left n row r : ℕ) → FirstUnlike xs at by n r → r ≡ n → RowDiffers xs at by left n row nowhere
  row_none left n row r so e =
      record {
        around = around_none _ (λ i j u. u.2 (so.alike (i - left) (omega (arith, u.0))));
        within = omega arith;
        last = omega arith;
      }

  pub row_some : (left n row r e : ℕ) → FirstUnlike xs at by n r → (r ≡ n → ⊥) → LastUnlike xs at by n e → RowDiffers xs at by left n row (record { left = left + r; top = row; wide = e - r; high = 1 })
  row_some left n row r e so ne to =
      let some : r < n = omega (arith, so.few) in
      let past : r < e = elim (cases_lt r e) [ inl l ↦ l | inr l ↦ absurd (so.unlike some (to.alike r l some)) ] in
      let at_first : r ≡ left + r - left = omega arith in
      let at_last : e - 1 ≡ left + r + (e - r) - 1 - left = omega arith in
      let unlike : ℕ → Type 0 = λ (q : ℕ). pixel_at xs (at + 4 * q) ≡ pixel_at xs (by + 4 * q) → ⊥ in
      let first : Unlike xs at by left n row (left + r) row = ((omega arith, omega (arith, some)), refl, subst unlike at_first (so.unlike some)) in
      let last : Unlike xs at by left n row (left + r + (e - r) - 1) row = ((omega arith, omega (arith, to.few)), refl, subst unlike at_last (to.unlike (omega arith))) in
      let low : row ≡ row + 1 - 1 = omega arith in
      record {
        around = record {
          covers = λ i j u.
              let lo : r ≤ i - left = elim (cases_lt (i - left) r) [ inl l ↦ absurd (u.2 (so.alike (i - left) l)) | inr l ↦ l ] in
              let hi : i - left < e = elim (cases_lt (i - left) e) [ inl l ↦ l | inr l ↦ absurd (u.2 (to.alike (i - left) l (omega (arith, u.0)))) ] in
              ((omega (arith, u.0), omega (arith, u.0)), (omega (arith, u.1), omega (arith, u.1)));
          tight = inr (record {
            left_side = (row, first);
            right_side = (row, last);
            top_side = (left + r, first);
            bottom_side = (left + r, subst (λ (q : ℕ). Unlike xs at by left n row (left + r) q) low first);
          });
        };
        within = omega (arith, to.few);
        last = omega arith;
      }

  -- one more row of a part
  pub differs_row : (w : ℕ) (a : Area) (r : ℕ) (found here : Area) → Around (Differs xs at by w (first_rows a r)) found →
      RowDiffers xs (at + 4 * ((a.top + r) * w + a.left)) (by + 4 * ((a.top + r) * w + a.left)) a.left a.wide (a.top + r) here →
      Around (Differs xs at by w (first_rows a (r + 1))) (join found here)
  differs_row w a r found here so to =
      let row = (a.top + r) * w + a.left in
      let place : (b i j : ℕ) → a.left ≤ i → j ≡ a.top + r → b + 4 * row + 4 * (i - a.left) ≡ b + 4 * (j * w + i) = λ b i j l e. omega (arith, ap (λ m. m * w) e) in
      around_join _ _ _
      (λ i j d. ((d.0.0, (omega (arith, d.0.1), omega (arith, d.0.1))), d.1))
      (λ i j u. ((u.0, (omega (arith, u.1), omega (arith, u.1))), λ e. u.2 (ap (pixel_at xs) (place at i j (omega (arith, u.0)) u.1) ∙ e ∙ sym (ap (pixel_at xs) (place by i j (omega (arith, u.0)) u.1)))))
      (λ i j d.
      elim (cases_eq j (a.top + r)) [
        | inl e ↦ inr (d.0.0, e, λ f. d.1 (sym (ap (pixel_at xs) (place at i j (omega (arith, d.0.0)) e)) ∙ f ∙ ap (pixel_at xs) (place by i j (omega (arith, d.0.0)) e)))
        | inr ne ↦ inl ((d.0.0, (omega (arith, d.0.1), omega (arith, d.0.1))), d.1)
      ])
      found here so to.around

-- what a search from the first place on finds
pub first_found : (xs : List ℕ) (at by n : ℕ) (r : Option ℕ) →
    MatchOption r ((k : ℕ) → 0 ≤ k → k < n → pixel_at xs (at + 4 * k) ≡ pixel_at xs (by + 4 * k))
    (λ i. (0 ≤ i) × (i < n) × (pixel_at xs (at + 4 * i) ≡ pixel_at xs (by + 4 * i) → ⊥) × ((k : ℕ) → 0 ≤ k → k < i → pixel_at xs (at + 4 * k) ≡ pixel_at xs (by + 4 * k))) →
    MatchOption r (FirstUnlike xs at by n n) (λ i. FirstUnlike xs at by n i × (i < n))
first_found xs at by n None all = record { few = omega arith; alike = λ k l. all k (omega arith) l; unlike = λ l. absurd (omega arith) }
first_found xs at by n (Some i) found = (record { few = omega (arith, found.1); alike = λ k l. found.3 k (omega arith) l; unlike = λ _. found.2 }, found.1)
