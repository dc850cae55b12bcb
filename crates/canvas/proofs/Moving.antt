-- Entries that change places: where each comes from, and that their planes stay below 64 and distinct. Assumes nothing.
use Rattle.std.proofs.Common.{◌≡◌, ℕ, ◌+◌, ◌-◌, ◌<◌, ◌≤◌, List, length, get_or, take, drop, set, sym, refl, ap, ◌∙◌, subst, inl, inr, arith, length-drop, get_or-set_other, get_or-set_same}
use borrow.Rule.Slice.PartMut.{put_mid}
use Rattle.std.proofs.lemmas.List.{length-take-le, get_or-take, get_or-drop, get_or_default, places}
use Rattle.std.proofs.lemmas.Bool.{cases_lt, cases_eq}
use Rattle.std.proofs.lemmas.Bool.Decides.{nat_tests}
use Rattle.canvas.specs.declared.state.Layer.{Layer as Entry}
use Rattle.canvas.specs.View.{no_entry}
use Rattle.canvas.specs.Arranging.{from_lowered, from_raised, Reordered}

-- each move is undone by the other
lowered_raised : (lo hi k : ℕ) → lo ≤ hi → from_lowered lo hi (from_raised lo hi k) ≡ k
unfolding from_lowered from_raised
lowered_raised lo hi k o = grind (arith, nat_tests)

raised_lowered : (lo hi k : ℕ) → lo ≤ hi → from_raised lo hi (from_lowered lo hi k) ≡ k
unfolding from_lowered from_raised
raised_lowered lo hi k o = grind (arith, nat_tests)

pub lowered_in : (lo hi n k : ℕ) → lo ≤ hi → hi < n → k < n → from_lowered lo hi k < n
unfolding from_lowered
lowered_in lo hi n k o l h = grind (arith, nat_tests)

pub raised_in : (lo hi n k : ℕ) → lo ≤ hi → hi < n → k < n → from_raised lo hi k < n
unfolding from_raised
raised_in lo hi n k o l h = grind (arith, nat_tests)

-- the one that went down, and the others
pub first_lowered : (lo hi : ℕ) → from_lowered lo hi lo ≡ hi
unfolding from_lowered
first_lowered lo hi = grind (arith, nat_tests)

pub lowered_other : (lo hi k : ℕ) → lo ≤ hi → k ≤ hi → (k ≡ lo → ⊥) → from_lowered lo hi k < hi
unfolding from_lowered
lowered_other lo hi k o h ne = grind (arith, nat_tests)

-- below the one that went up nothing moved
pub raised_below : (lo hi k : ℕ) → k < lo → from_raised lo hi k ≡ k
unfolding from_raised
raised_below lo hi k l = grind (arith, nat_tests)

pub raised_same : (lo hi k b : ℕ) → b < lo → k < hi → from_raised lo hi k ≡ b → k ≡ b
unfolding from_raised
raised_same lo hi k b l h e = grind (arith, nat_tests)

-- a part of the list from lo to hi that is written anew
module _ (f : ℕ → ℕ) (lo hi : ℕ) (xs rot : List Entry) (order : lo ≤ hi) (within : hi < length xs) where
  abbrev pub part : List Entry
  part = take (hi + 1 - lo) (drop lo xs)

  pub part_long : length part ≡ hi + 1 - lo
  part_long = length-take-le (hi + 1 - lo) (drop lo xs) (omega (arith, length-drop lo xs))

  pub part_at : (i : ℕ) (d : Entry) → i < hi + 1 - lo → get_or part i d ≡ get_or xs (lo + i) d
  part_at i d l = get_or-take (hi + 1 - lo) (drop lo xs) i d l ∙ get_or-drop lo xs i d

  pub part_written : length rot ≡ length part → ((k : ℕ) → k < lo → f k ≡ k) → ((k : ℕ) → hi < k → f k ≡ k) →
      ((i : ℕ) (d : Entry) → i < hi + 1 - lo → get_or rot i d ≡ get_or xs (f (lo + i)) d) → Reordered f xs (put_mid lo (hi + 1 - lo) xs rot)
  part_written len low high in_it =
      let size : length rot ≡ hi + 1 - lo = len ∙ part_long in
      let ys = put_mid lo (hi + 1 - lo) xs rot in
      let before : (k : ℕ) (d : Entry) → k < lo → get_or ys k d ≡ get_or xs k d = λ k d l. grind (arith, places) in
      let inside : (i : ℕ) (d : Entry) → i < hi + 1 - lo → get_or ys (lo + i) d ≡ get_or rot i d = λ i d l. grind (arith, places) in
      let after : (k : ℕ) (d : Entry) → hi < k → get_or ys k d ≡ get_or xs k d = λ k d l. grind (arith, places) in
      record {
        long = grind (arith, places);
        places = λ k d l.
            elim (cases_lt k lo) [
              | inl u ↦ before k d u ∙ ap (λ m. get_or xs m d) (sym (low k u))
              | inr u ↦ elim (cases_lt hi k) [
                | inl v ↦ after k d v ∙ ap (λ m. get_or xs m d) (sym (high k v))
                | inr v ↦
                    let e : lo + (k - lo) ≡ k = omega arith in
                    ap (λ m. get_or ys m d) (sym e) ∙ inside (k - lo) d (omega arith) ∙ in_it (k - lo) d (omega arith) ∙ ap (λ m. get_or xs (f m) d) e
              ]
            ];
      }

-- what `rotate_right(1)` and `rotate_left(1)` of that part leave
module _ (lo hi : ℕ) (xs rot : List Entry) (order : lo ≤ hi) (within : hi < length xs) where
  abbrev seg : List Entry
  seg = take (hi + 1 - lo) (drop lo xs)

  pub lowered : length rot ≡ length seg →
      ((i : ℕ) (d : Entry) → i < 1 → get_or rot i d ≡ get_or seg (length seg - 1 + i) d) × ((i : ℕ) (d : Entry) → 1 ≤ i → i < length seg → get_or rot i d ≡ get_or seg (i - 1) d) →
      Reordered (from_lowered lo hi) xs (put_mid lo (hi + 1 - lo) xs rot)
  unfolding from_lowered
  lowered len turned =
      let f = from_lowered lo hi in
      let size = part_long f lo hi xs rot order within in
      part_written f lo hi xs rot order within len (λ k l. grind (arith, nat_tests)) (λ k l. grind (arith, nat_tests))
      (λ i d l. elim (cases_lt i 1) [
        | inl u ↦
            let e : lo + (length seg - 1 + i) ≡ f (lo + i) = grind (arith, nat_tests) in
            turned.0 i d u ∙ part_at f lo hi xs rot order within (length seg - 1 + i) d (omega arith) ∙ ap (λ m. get_or xs m d) e
        | inr u ↦
            let e : lo + (i - 1) ≡ f (lo + i) = grind (arith, nat_tests) in
            turned.1 i d u (omega arith) ∙ part_at f lo hi xs rot order within (i - 1) d (omega arith) ∙ ap (λ m. get_or xs m d) e
      ])

  pub raised : length rot ≡ length seg →
      ((i : ℕ) (d : Entry) → i + 1 < length seg → get_or rot i d ≡ get_or seg (i + 1) d) × ((i : ℕ) (d : Entry) → length seg ≤ i + 1 → i < length seg → get_or rot i d ≡ get_or seg (i + 1 - length seg) d) →
      Reordered (from_raised lo hi) xs (put_mid lo (hi + 1 - lo) xs rot)
  unfolding from_raised
  raised len turned =
      let f = from_raised lo hi in
      let size = part_long f lo hi xs rot order within in
      part_written f lo hi xs rot order within len (λ k l. grind (arith, nat_tests)) (λ k l. grind (arith, nat_tests))
      (λ i d l. elim (cases_lt (i + 1) (length seg)) [
        | inl u ↦
            let e : lo + (i + 1) ≡ f (lo + i) = grind (arith, nat_tests) in
            turned.0 i d u ∙ part_at f lo hi xs rot order within (i + 1) d (omega arith) ∙ ap (λ m. get_or xs m d) e
        | inr u ↦
            let e : lo + (i + 1 - length seg) ≡ f (lo + i) = grind (arith, nat_tests) in
            turned.1 i d u (omega arith) ∙ part_at f lo hi xs rot order within (i + 1 - length seg) d (omega arith) ∙ ap (λ m. get_or xs m d) e
      ])

-- every entry has a plane of its own
abbrev pub Own : List Entry → Type 0
Own ls =
    ((k : ℕ) (d : Entry) → k < 64 → (get_or ls k d).plane < 64) ×
    ((p : ℕ × ℕ × Entry) → (p.0 < 64) × (p.1 < 64) × ((get_or ls p.0 p.2).plane ≡ (get_or ls p.1 p.2).plane) → p.0 ≡ p.1)

-- the plane at k was at f k, and g undoes f
own_by : (ls ms : List Entry) (f g : ℕ → ℕ) → ((k : ℕ) → k < 64 → f k < 64) → ((k : ℕ) → g (f k) ≡ k) → ((k : ℕ) (d : Entry) → k < 64 → (get_or ms k d).plane ≡ (get_or ls (f k) d).plane) → Own ls → Own ms
own_by ls ms f g in_it back from so = (
  (λ k d l. subst (λ (n : ℕ). n < 64) (sym (from k d l)) (so.0 (f k) d (in_it k l))),
  (λ p h.
      let e : f p.0 ≡ f p.1 = so.1 (f p.0, f p.1, p.2) (in_it p.0 h.0, in_it p.1 h.1, sym (from p.0 p.2 h.0) ∙ h.2 ∙ from p.1 p.2 h.1) in
      sym (back p.0) ∙ ap g e ∙ back p.1),
)

module _ (lo hi : ℕ) (ls ms : List Entry) (order : lo ≤ hi) (within : hi < 64) (long : length ls ≡ 64) where
  pub own_lowered : Reordered (from_lowered lo hi) ls ms → Own ls → Own ms
  own_lowered so =
      own_by ls ms (from_lowered lo hi) (from_raised lo hi) (λ k l. lowered_in lo hi 64 k order within l) (λ k. raised_lowered lo hi k order)
      (λ k d l. ap (λ (e : Entry). e.plane) (so.places k d (omega arith)))

  pub own_raised : Reordered (from_raised lo hi) ls ms → Own ls → Own ms
  own_raised so =
      own_by ls ms (from_raised lo hi) (from_lowered lo hi) (λ k l. raised_in lo hi 64 k order within l) (λ k. lowered_raised lo hi k order)
      (λ k d l. ap (λ (e : Entry). e.plane) (so.places k d (omega arith)))

-- an entry that changes but for its plane
pub own_set : (ls : List Entry) (i : ℕ) (e : Entry) → i < length ls → e.plane ≡ (get_or ls i no_entry).plane → Own ls → Own (set ls i e)
own_set ls i e l is =
    own_by ls (set ls i e) (λ k. k) (λ k. k) (λ k h. h) (λ k. refl) (λ k d h. elim (cases_eq k i) [
      | inl s ↦ ap (λ m. (get_or (set ls i e) m d).plane) s ∙ ap (λ (x : Entry). x.plane) (get_or-set_same ls i e d l) ∙ is ∙ ap (λ (x : Entry). x.plane) (get_or_default ls i no_entry d l) ∙ ap (λ m. (get_or ls m d).plane) (sym s)
      | inr n ↦ ap (λ (x : Entry). x.plane) (get_or-set_other ls i k e d n)
    ])
