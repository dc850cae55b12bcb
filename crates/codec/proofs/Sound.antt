-- Where an edit is read, its writing stands.
use Rattle.std.proofs.Common.{◌≡◌, ℕ, zero, suc, ◌+◌, ◌*◌, ◌/◌, ◌%◌, ◌<◌, ◌≤◌, Bool, true, false, cond, eqb, List, ◌∷◌, ◌++◌, length, get_or, take, drop, Ok, Err, sym, refl, ap, ◌∙◌, inl, inr, arith}
use Rattle.std.proofs.lemmas.List.{drop_more, take-append-drop, drop-drop, get_or-take, get_or-drop, get_or_past, length-take, length-take-le, length-drop}
use Rattle.std.proofs.lemmas.Bool.{ltb-false, leb-true, cases_lt}
use Rattle.codec.specs.declared.edits.Refusal.{Refusal}
use Rattle.pixel.specs.Pixels.{PixelFits}
use Rattle.page.specs.Fits.{Fits, FilterFits}
use Rattle.pixel.specs.Bytes.{pixel_at}
use Rattle.codec.specs.Written.{written, two, points, four, flag, filter_written}
use Rattle.codec.specs.Meaning.{two_at, edit_of, points_at, filter_of, Held, FilterHeld, Bytes}
use Rattle.codec.specs.Scan.{end_of, edit_by, body_end, heads, End, Headed, filter_end_by, filter_by}
use Rattle.codec.specs.Laws.{ReadsWritten}

-- what an Ok says of the tests before it
pub of_need : (b : Bool) (e : End) (f : Refusal) (n : ℕ) → cond b e (Err f) ≡ Ok n → (b ≡ true) × (e ≡ Ok n)
of_need true e f n h = (refl, h)
of_need false e f n h = let z : ◌≡◌ {A = ℕ} 0 1 = cc in absurd (omega arith)

pub of_stop : (b : Bool) (e : End) (f : Refusal) (n : ℕ) → cond b (Err f) e ≡ Ok n → (b ≡ false) × (e ≡ Ok n)
of_stop true e f n h = let z : ◌≡◌ {A = ℕ} 0 1 = cc in absurd (omega arith)
of_stop false e f n h = (refl, h)

-- an Ok of a filter that is a blur: its radius is there
blur_room : (bs : List ℕ) (at n k : ℕ) → body_end bs at k ≡ Ok n → k ≡ 14 → get_or bs (at + 1) 0 ≡ 2 → at + 3 ≤ length bs
blur_room bs at n k e is f =
    let g : body_end bs at 14 ≡ Ok n = rw is at e in
    let h : filter_end_by bs at 2 ≡ Ok n = rw f at g in
    leb-true (at + 3) (length bs) (of_need _ _ _ n h).0

-- an Ok comes from a head that stands and a body that is read
pub headed : (bs : List ℕ) (at n : ℕ) → end_of bs at ≡ Ok n → Headed bs at × (body_end bs at (get_or bs at 0) ≡ Ok n)
headed bs at n e =
    let a = of_need _ _ _ n e in
    let b = of_stop _ _ _ n a.1 in
    let c = of_need _ _ _ n b.1 in (
      record {
        a_kind = ltb-false 16 (get_or bs at 0) b.0;
        head = leb-true (at + get_or heads (get_or bs at 0) 0) (length bs) c.0;
        radius = blur_room bs at n (get_or bs at 0) c.1;
      },
      c.1,
    )

pub same_ok : (m n : ℕ) → ◌≡◌ {A = End} (Ok m) (Ok n) → m ≡ n
same_ok m n e = cc

-- a property of each kind there is
by_kind :
    (P : ℕ → Type 0) → P 0 → P 1 → P 2 → P 3 → P 4 → P 5 → P 6 → P 7 → P 8 → P 9 → P 10 → P 11 → P 12 → P 13 → P 14 → P 15 → P 16 → (k : ℕ) → k ≤ 16 → P k
by_kind P a b c d e f g h i j k l m n o p q zero le = a
by_kind P a b c d e f g h i j k l m n o p q (suc zero) le = b
by_kind P a b c d e f g h i j k l m n o p q (suc (suc zero)) le = c
by_kind P a b c d e f g h i j k l m n o p q (suc (suc (suc zero))) le = d
by_kind P a b c d e f g h i j k l m n o p q (suc (suc (suc (suc zero)))) le = e
by_kind P a b c d e f g h i j k l m n o p q (suc (suc (suc (suc (suc zero))))) le = f
by_kind P a b c d e f g h i j k l m n o p q (suc (suc (suc (suc (suc (suc zero)))))) le = g
by_kind P a b c d e f g h i j k l m n o p q (suc (suc (suc (suc (suc (suc (suc zero))))))) le = h
by_kind P a b c d e f g h i j k l m n o p q (suc (suc (suc (suc (suc (suc (suc (suc zero)))))))) le = i
by_kind P a b c d e f g h i j k l m n o p q (suc (suc (suc (suc (suc (suc (suc (suc (suc zero))))))))) le = j
by_kind P a b c d e f g h i j k l m n o p q (suc (suc (suc (suc (suc (suc (suc (suc (suc (suc zero)))))))))) le = k
by_kind P a b c d e f g h i j k l m n o p q (suc (suc (suc (suc (suc (suc (suc (suc (suc (suc (suc zero))))))))))) le = l
by_kind P a b c d e f g h i j k l m n o p q (suc (suc (suc (suc (suc (suc (suc (suc (suc (suc (suc (suc zero)))))))))))) le = m
by_kind P a b c d e f g h i j k l m n o p q (suc (suc (suc (suc (suc (suc (suc (suc (suc (suc (suc (suc (suc zero))))))))))))) le = n
by_kind P a b c d e f g h i j k l m n o p q (suc (suc (suc (suc (suc (suc (suc (suc (suc (suc (suc (suc (suc (suc zero)))))))))))))) le = o
by_kind P a b c d e f g h i j k l m n o p q (suc (suc (suc (suc (suc (suc (suc (suc (suc (suc (suc (suc (suc (suc (suc zero))))))))))))))) le = p
by_kind P a b c d e f g h i j k l m n o p q (suc (suc (suc (suc (suc (suc (suc (suc (suc (suc (suc (suc (suc (suc (suc (suc zero)))))))))))))))) le = q
by_kind P a b c d e f g h i j k l m n o p q (suc (suc (suc (suc (suc (suc (suc (suc (suc (suc (suc (suc (suc (suc (suc (suc (suc z))))))))))))))))) le = absurd (omega arith)

by_filter : (P : ℕ → Type 0) → P 0 → P 1 → P 2 → P 3 → (k : ℕ) → k ≤ 3 → P k
by_filter P a b c d zero le = a
by_filter P a b c d (suc zero) le = b
by_filter P a b c d (suc (suc zero)) le = c
by_filter P a b c d (suc (suc (suc zero))) le = d
by_filter P a b c d (suc (suc (suc (suc z)))) le = absurd (omega arith)

flag_back : (v : ℕ) → v ≤ 1 → flag (eqb v 1) ≡ v
flag_back zero h = refl
flag_back (suc zero) h = refl
flag_back (suc (suc v)) h = absurd (omega arith)

pub length-points : (bs : List ℕ) (c i : ℕ) → length (points_at bs i c) ≡ c
length-points bs zero i = refl
length-points bs (suc c) i = ap suc (length-points bs c (i + 4))

module _ (bs : List ℕ) (fit : Bytes bs) where
  pub two_lt : (i : ℕ) → two_at bs i < 65536
  two_lt i = omega (arith, fit i, fit (i + 1))

  -- some bytes, and then what is left
  byte_then : (i j : ℕ) (l : List ℕ) → j ≡ i + 1 → j ≤ length bs → drop j bs ≡ l → drop i bs ≡ get_or bs i 0 ∷ l
  byte_then i j l e h t = drop_more bs i 0 (omega arith) ∙ ap (λ m. get_or bs i 0 ∷ m) (ap (λ m. drop m bs) (sym e) ∙ t)

  pub kind_then : (i j k : ℕ) (l : List ℕ) → get_or bs i 0 ≡ k → j ≡ i + 1 → j ≤ length bs → drop j bs ≡ l → drop i bs ≡ k ∷ l
  kind_then i j k l is e h t = byte_then i j l e h t ∙ ap (λ m. m ∷ l) is

  pub two_then : (i j : ℕ) (l : List ℕ) → j ≡ i + 2 → j ≤ length bs → drop j bs ≡ l → drop i bs ≡ two (two_at bs i) ++ l
  two_then i j l e h t =
      kind_then i (i + 1) (two_at bs i % 256) (two_at bs i / 256 ∷ l) (omega (arith, fit i, fit (i + 1))) refl (omega arith)
      (kind_then (i + 1) j (two_at bs i / 256) l (omega (arith, fit i, fit (i + 1))) (omega arith) h t)

  pixel_then : (i j : ℕ) (l : List ℕ) → j ≡ i + 4 → j ≤ length bs → drop j bs ≡ l → drop i bs ≡ four (pixel_at bs i) ++ l
  pixel_then i j l e h t =
      byte_then i (i + 1) _ refl (omega arith)
      (byte_then (i + 1) (i + 2) _ (omega arith) (omega arith) (byte_then (i + 2) (i + 3) _ (omega arith) (omega arith) (byte_then (i + 3) j _ (omega arith) h t)))

  pub points_then : (c i j : ℕ) (l : List ℕ) → j ≡ i + 4 * c → j ≤ length bs → drop j bs ≡ l → drop i bs ≡ points (points_at bs i c) ++ l
  points_then zero i j l e h t = let s : i ≡ j = omega arith in ap (λ m. drop m bs) s ∙ t
  points_then (suc c) i j l e h t =
      two_then i (i + 2) _ refl (omega arith) (two_then (i + 2) (i + 4) _ (omega arith) (omega arith) (points_then c (i + 4) j l (omega arith) h t))

  points_fit : (c i k : ℕ) → ((get_or (points_at bs i c) k (0, 0)).0 < 65536) × ((get_or (points_at bs i c) k (0, 0)).1 < 65536)
  points_fit zero i k = (omega arith, omega arith)
  points_fit (suc c) i zero = (two_lt i, two_lt (i + 2))
  points_fit (suc c) i (suc k) = points_fit c (i + 4) k

  table_fit : (i k : ℕ) → get_or (take 256 (drop i bs)) k 0 < 256
  table_fit i k = elim (cases_lt k 256) [
    | inl h ↦ let e = get_or-take 256 (drop i bs) k 0 h ∙ get_or-drop i bs k 0 in omega (arith, e, fit (i + k))
    | inr h ↦ let e = get_or_past (take 256 (drop i bs)) k 0 (simp length-take (omega arith)) in omega (arith, e)
  ]

  pixel_fit : (i : ℕ) → PixelFits (pixel_at bs i)
  pixel_fit i = record { red_fits = fit i; green_fits = fit (i + 1); blue_fits = fit (i + 2); alpha_fits = fit (i + 3) }

  module _ (at n : ℕ) where
    -- what is shown of the kind k
    abbrev Sound : ℕ → Type 0
    Sound k =
        get_or bs at 0 ≡ k → at + get_or heads k 0 ≤ length bs → body_end bs at k ≡ Ok n →
        (drop at bs ≡ written (edit_of bs (edit_by bs at k)) ++ drop n bs) × Fits (edit_of bs (edit_by bs at k)) × (n ≤ length bs) × Held bs (edit_by bs at k)

    here : (m : ℕ) → m ≡ n → drop m bs ≡ drop n bs
    here m e = ap (λ i. drop i bs) e

    bare : (k : ℕ) → get_or bs at 0 ≡ k → at + 1 ≤ length bs → ◌≡◌ {A = End} (Ok (at + 1)) (Ok n) → (drop at bs ≡ k ∷ drop n bs) × (n ≤ length bs)
    bare k is room e = let s = same_ok (at + 1) n e in (kind_then at (at + 1) k _ is refl room (here (at + 1) s), omega arith)

    sound_stroke : Sound 13
    sound_stroke is room e =
        let t = of_stop _ _ _ n e in
        let u = of_need _ _ _ n t.1 in
        let s = same_ok (at + (8 + 4 * two_at bs (at + 6))) n u.1 in
        let few = ltb-false 1024 (two_at bs (at + 6)) t.0 in
        let all = leb-true (at + (8 + 4 * two_at bs (at + 6))) (length bs) u.0 in
        rw (length-points bs (two_at bs (at + 6)) (at + 8)) (
          kind_then at (at + 1) 13 _ is refl (omega arith)
              (pixel_then (at + 1) (at + 5) _ (omega arith) (omega arith)
              (byte_then (at + 5) (at + 6) _ (omega arith) (omega arith)
              (two_then (at + 6) (at + 8) _ (omega arith) (omega arith) (points_then (two_at bs (at + 6)) (at + 8) n _ (omega arith) (omega arith) refl)))),
          (pixel_fit (at + 1), omega (arith, fit (at + 5)), few, λ k h. points_fit (two_at bs (at + 6)) (at + 8) k),
          omega arith,
          omega arith,
        )

    -- and of the filter f
    abbrev Filtered : ℕ → Type 0
    Filtered f =
        get_or bs (at + 1) 0 ≡ f → filter_end_by bs at f ≡ Ok n →
        (drop (at + 1) bs ≡ filter_written (filter_of bs (filter_by bs at f)) ++ drop n bs) × FilterFits (filter_of bs (filter_by bs at f)) × (n ≤ length bs) × FilterHeld bs (filter_by bs at f)

    filtered : (f : ℕ) → at + 2 ≤ length bs → f ≤ 3 → Filtered f
    filtered f room =
        by_filter Filtered
        (λ is e. let s = same_ok (at + 2) n e in (kind_then (at + 1) (at + 2) 0 _ is (omega arith) room (here _ s), tt, omega arith, tt))
        (λ is e.
        let t = of_need _ _ _ n e in let s = same_ok (at + 258) n t.1 in let all = leb-true (at + 258) (length bs) t.0 in (
          kind_then (at + 1) (at + 2) 1 _ is (omega arith) room
              (sym (take-append-drop 256 (drop (at + 2) bs)) ∙ ap (λ l. take 256 (drop (at + 2) bs) ++ l) (drop-drop 256 (at + 2) bs ∙ here (at + 2 + 256) (omega arith))),
          (length-take-le 256 (drop (at + 2) bs) (simp length-drop (omega arith)), table_fit (at + 2)),
          omega arith,
          omega arith,
        ))
        (λ is e.
        let t = of_need _ _ _ n e in let u = of_stop _ _ _ n t.1 in let s = same_ok (at + 3) n u.1 in let all = leb-true (at + 3) (length bs) t.0 in
        (kind_then (at + 1) (at + 2) 2 _ is (omega arith) room (byte_then (at + 2) (at + 3) _ (omega arith) all (here _ s)), ltb-false 64 (get_or bs (at + 2) 0) u.0, omega arith, tt))
        (λ is e. let s = same_ok (at + 2) n e in (kind_then (at + 1) (at + 2) 3 _ is (omega arith) room (here _ s), tt, omega arith, tt))
        f

    sound : (k : ℕ) → k ≤ 16 → Sound k
    sound =
        by_kind Sound
        (λ is room e. let b = bare 0 is room e in (b.0, tt, b.1, tt))
        (λ is room e. let b = bare 1 is room e in (b.0, tt, b.1, tt))
        (λ is room e. let s = same_ok (at + 2) n e in (kind_then at (at + 1) 2 _ is refl (omega arith) (byte_then (at + 1) (at + 2) _ (omega arith) room (here _ s)), fit (at + 1), omega arith, tt))
        (λ is room e. let b = bare 3 is room e in (b.0, tt, b.1, tt))
        (λ is room e. let s = same_ok (at + 2) n e in (kind_then at (at + 1) 4 _ is refl (omega arith) (byte_then (at + 1) (at + 2) _ (omega arith) room (here _ s)), fit (at + 1), omega arith, tt))
        (λ is room e. let s = same_ok (at + 3) n e in (kind_then at (at + 1) 5 _ is refl (omega arith) (two_then (at + 1) (at + 3) _ (omega arith) room (here _ s)), two_lt (at + 1), omega arith, tt))
        (λ is room e.
        let t = of_stop _ _ _ n e in let s = same_ok (at + 2) n t.1 in let v = flag_back (get_or bs (at + 1) 0) (ltb-false 1 (get_or bs (at + 1) 0) t.0) in
        (kind_then at (at + 1) 6 _ is refl (omega arith) (kind_then (at + 1) (at + 2) _ _ (sym v) (omega arith) room (here _ s)), tt, omega arith, tt))
        (λ is room e. let b = bare 7 is room e in (b.0, tt, b.1, tt))
        (λ is room e. let b = bare 8 is room e in (b.0, tt, b.1, tt))
        (λ is room e. let s = same_ok (at + 9) n e in (
          kind_then at (at + 1) 9 _ is refl (omega arith)
              (two_then (at + 1) (at + 3) _ (omega arith) (omega arith) (two_then (at + 3) (at + 5) _ (omega arith) (omega arith) (two_then (at + 5) (at + 7) _ (omega arith) (omega arith) (two_then (at + 7) (at + 9) _ (omega arith) room (here _ s))))),
          (two_lt (at + 1), two_lt (at + 3), two_lt (at + 5), two_lt (at + 7)),
          omega arith,
          tt,
        ))
        (λ is room e. let s = same_ok (at + 6) n e in (
          kind_then at (at + 1) 10 _ is refl (omega arith)
              (byte_then (at + 1) (at + 2) _ (omega arith) (omega arith) (two_then (at + 2) (at + 4) _ (omega arith) (omega arith) (two_then (at + 4) (at + 6) _ (omega arith) room (here _ s)))),
          (fit (at + 1), two_lt (at + 2), two_lt (at + 4)),
          omega arith,
          tt,
        ))
        (λ is room e. let b = bare 11 is room e in (b.0, tt, b.1, tt))
        (λ is room e. let s = same_ok (at + 5) n e in (kind_then at (at + 1) 12 _ is refl (omega arith) (pixel_then (at + 1) (at + 5) _ (omega arith) room (here _ s)), pixel_fit (at + 1), omega arith, tt))
        sound_stroke
        (λ is room e.
        let t = of_stop _ _ _ n e in let f = filtered (get_or bs (at + 1) 0) room (ltb-false 3 (get_or bs (at + 1) 0) t.0) refl e in
        (kind_then at (at + 1) 14 _ is refl (omega arith) f.0, f.1, f.2, f.3))
        (λ is room e. let b = bare 15 is room e in (b.0, tt, b.1, tt))
        (λ is room e. let s = same_ok (at + 5) n e in (
          kind_then at (at + 1) 16 _ is refl (omega arith) (two_then (at + 1) (at + 3) _ (omega arith) (omega arith) (two_then (at + 3) (at + 5) _ (omega arith) room (here _ s))),
          (two_lt (at + 1), two_lt (at + 3)),
          omega arith,
          tt,
        ))

pub reads_written : ReadsWritten
reads_written bs at n fit e = let h = headed bs at n e in sound bs fit at n (get_or bs at 0) h.0.a_kind refl h.0.head h.1
