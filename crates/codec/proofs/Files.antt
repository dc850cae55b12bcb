-- Files: what the answers of their reader mean.
use Rattle.std.proofs.Common.{◌≡◌, ℕ, suc, ◌+◌, ◌*◌, ◌/◌, ◌%◌, ◌<◌, ◌≤◌, cond, eqb, ltb, leb, ◌⊎◌, List, [], ◌∷◌, ◌++◌, length, get_or, drop, None, Ok, Err, Option, Result, sym, refl, ap, ◌∙◌, subst, inl, inr, arith, MatchResult}
use Rattle.std.proofs.lemmas.List.{append-nil, drop_all, drop_at, length-append}
use Rattle.std.proofs.lemmas.Bool.{ltb-true, ltb-false, leb-true, le-leb, eq-eqb, eqb-true, cond_both, cond-true}
use Rattle.std.specs.List.{All}
use Rattle.page.specs.Edits as page
use Rattle.codec.specs.declared.edits.Refusal.{Refusal}
use Rattle.codec.specs.declared.edits.Refusal.TheVariants.{NotPage}
use Rattle.codec.specs.declared.file.File.{File}
use Rattle.codec.specs.declared.file.Lengths.{Lengths}
use Rattle.codec.specs.Written.{two}
use Rattle.codec.specs.Meaning.{two_at, Bytes}
use Rattle.codec.specs.Refusals.{number}
use Rattle.codec.specs.Scan.{End, need}
use Rattle.codec.specs.Read.{unless}
use Rattle.codec.specs.Files.{long, all_written, IsFile, Built, Enough, done_of, undone_of, after_edits, on_ok, edits_end, four_at, letter, sized, side_refusal, short_of, head_end, body_from, file_at, whole_file, read_file}
use Rattle.codec.specs.FileLaws.{FileTaken, FileRead, FileWrittenRead}
use Rattle.codec.proofs.Sound.{same_ok, of_need, kind_then, two_then, two_lt}
use Rattle.codec.proofs.Complete.{byte_is, two_is, on}
use Rattle.codec.proofs.Means.{of_unless}
use Rattle.codec.proofs.Rows.{of_some, of_none, of_on, length_from, edits_read, from_written, Scanned, edits_written}

-- a side that is not refused
side_of : (n at : ℕ) → side_refusal n at ≡ None → (1 ≤ n) × (n ≤ 4096)
side_of n at e =
    let a = of_none (leb 1 n) _ _ e in
    let b = of_none (leb n 4096) _ _ a.1 in
    (leb-true 1 n a.0, leb-true n 4096 b.0)

-- enough is lent where no slice is too short
of_short : (lent : Lengths) (w h : ℕ) → short_of lent w h ≡ None → (544 * (w * h) ≤ lent.tiles) × (w * h ≤ lent.work)
of_short lent w h e =
    let a = of_some (ltb lent.tiles (544 * (w * h))) _ _ e in
    let b = of_some (ltb lent.work (w * h)) _ _ a.1 in
    (ltb-false lent.tiles (544 * (w * h)) a.0, ltb-false lent.work (w * h) b.0)

module _ (bs : List ℕ) where
  letter_ok : (i b : ℕ) (e : End) → suc i ≤ length bs → get_or bs i 0 ≡ b → letter bs i b e ≡ e
  letter_ok i b e h is = cond-true _ _ _ (le-leb (0 + suc i) (length bs) (omega arith)) ∙ cond-true _ _ _ (eq-eqb (get_or bs i 0) b is)

  sized_ok : (i w : ℕ) (e : End) → suc (suc i) ≤ length bs → two_at bs i ≡ w → 1 ≤ w → w ≤ 4096 → sized bs i e ≡ e
  sized_ok i w e h is low high =
      cond-true _ _ _ (le-leb (0 + suc (suc i)) (length bs) (omega arith))
      ∙ ap (λ o. unless o e) (cond-true _ _ _ (le-leb 1 (two_at bs i) (omega arith)) ∙ cond-true _ _ _ (le-leb (two_at bs i) 4096 (omega arith)))

  letter_of : (i b n : ℕ) (e : End) → letter bs i b e ≡ Ok n → (suc i ≤ length bs) × (get_or bs i 0 ≡ b) × (e ≡ Ok n)
  letter_of i b n e h =
      let a = of_need (leb (0 + suc i) (length bs)) (cond (eqb (get_or bs i 0) b) e (Err NotPage)) _ n h in
      let c = of_need (eqb (get_or bs i 0) b) e _ n a.1 in
      let all : 0 + suc i ≤ length bs = leb-true (0 + suc i) (length bs) a.0 in
      (omega arith, eqb-true (get_or bs i 0) b c.0, c.1)

  sized_of : (i n : ℕ) (e : End) → sized bs i e ≡ Ok n → (1 ≤ two_at bs i) × (two_at bs i ≤ 4096) × (e ≡ Ok n)
  sized_of i n e h =
      let a = of_need _ _ _ n h in
      let b = of_unless (side_refusal (two_at bs i) i) e n a.1 in
      let c = side_of (two_at bs i) i b.0 in
      (c.0, c.1, b.1)

  four_is : (i x : ℕ) (l : List ℕ) → drop i bs ≡ long x ++ l → four_at bs i ≡ x
  four_is i x l d = omega (arith, two_is bs i (x % 65536) _ d, two_is bs (i + 2) (x / 65536) l (on bs i 2 _ d))

-- bytes that are a file, and what stands where in them
module _ (bs : List ℕ) (lent : Lengths) (w h : ℕ) (done undone : List page.Edit) (f : IsFile bs w h done undone) where
  size : 16 + length (all_written done) + length (all_written undone) ≡ length bs
  size = omega (arith, ap length f.is, length-append (all_written done) (all_written undone))

  rest : drop 16 bs ≡ all_written done ++ all_written undone
  rest = on bs 0 16 _ f.is

  next : drop (16 + length (all_written done)) bs ≡ all_written undone ++ []
  next = on bs 16 (length (all_written done)) _ rest ∙ (drop_at (all_written done) (all_written undone) (length (all_written done)) refl ∙ sym (append-nil (all_written undone)))

  width_is : two_at bs 4 ≡ w
  width_is = two_is bs 4 w _ (on bs 0 4 _ f.is)

  height_is : two_at bs 6 ≡ h
  height_is = two_is bs 6 h _ (on bs 0 6 _ f.is)

  done_is : four_at bs 8 ≡ length done
  done_is = four_is bs 8 (length done) _ (on bs 0 8 _ f.is)

  undone_is : four_at bs 12 ≡ length undone
  undone_is = four_is bs 12 (length undone) _ (on bs 0 12 _ f.is)

  head_is : head_end bs lent ≡ unless (short_of lent w h) (Ok 16)
  head_is =
      let d = f.is in let l = size in
      letter_ok bs 0 80 _ (omega arith) (byte_is bs 0 80 _ d)
      ∙ (letter_ok bs 1 65 _ (omega arith) (byte_is bs 1 65 _ (on bs 0 1 _ d))
      ∙ (letter_ok bs 2 71 _ (omega arith) (byte_is bs 2 71 _ (on bs 0 2 _ d))
      ∙ (letter_ok bs 3 69 _ (omega arith) (byte_is bs 3 69 _ (on bs 0 3 _ d))
      ∙ (sized_ok bs 4 w _ (omega arith) width_is f.wide.0 f.wide.1
      ∙ (sized_ok bs 6 h _ (omega arith) height_is f.high.0 f.high.1
      ∙ rw (width_is, height_is) (ap (unless (short_of lent w h)) (cond-true _ _ _ (le-leb (0 + 16) (length bs) (omega arith)))))))))

  pub file_is : ((file_at bs).width ≡ w) × ((file_at bs).height ≡ h) × (done_of bs (file_at bs) ≡ done) × (undone_of bs (file_at bs) ≡ undone)
  file_is =
      let one = from_written bs done 16 (all_written undone) f.fit.0 rest in
      let two' = from_written bs undone (16 + length (all_written done)) [] f.fit.1 next in
      let same : (done_of bs (file_at bs) ≡ done) × (undone_of bs (file_at bs) ≡ undone) = rw (done_is, undone_is) (one.0, rw one.1 two'.0) in
      (width_is, height_is, same.0, same.1)

  -- how they are scanned
  abbrev Whole : End → Type 0
  Whole x =
      MatchResult x (λ n. n ≡ length bs)
      (λ g. ((4 ≤ number g) × (Enough lent w h (length done + length undone) → ⊥)) ⊎ ((number g ≡ 3) × (All Built done → All Built undone → ⊥)))

  second_row : (n : ℕ) (x : End) → n ≡ 16 + length (all_written done) → Scanned lent.turns (length done) undone n x → Whole x
  second_row n (Ok m) is s = omega (arith, size)
  second_row n (Err g) is (inl s) = inl (s.0, λ en. s.1 en.few en.for_turns)
  second_row n (Err g) is (inr s) = inr (s.0, λ b c. s.1 c)

  first_row : (x : End) (g : ℕ → End) → Scanned lent.turns 0 done 16 x → ((n : ℕ) → n ≡ 16 + length (all_written done) → Whole (g n)) → Whole (on_ok x g)
  first_row (Ok n) g s more = more n s
  first_row (Err e) g (inl s) more = inl (s.0, λ en. s.1 (omega (arith, en.few)) (omega (arith, en.for_turns)))
  first_row (Err e) g (inr s) more = inr (s.0, λ b c. s.1 b)

  body_scanned : Whole (body_from bs lent.turns 16)
  body_scanned =
      rw (done_is, undone_is)
      (first_row _ (edits_end bs lent.turns (length done) (length undone)) (edits_written bs lent.turns done 0 16 (all_written undone) f.fit.0 rest)
      (λ n is. second_row n _ is
      (edits_written bs lent.turns undone (length done) n [] f.fit.1 (ap (λ m. drop m bs) is ∙ next))))

  pub file_scanned : Whole (on_ok (head_end bs lent) (body_from bs lent.turns))
  file_scanned =
      let P : End → Type 0 = λ x. Whole (on_ok x (body_from bs lent.turns)) in
      let Q : Option Refusal → Type 0 = λ o. P (unless o (Ok 16)) in
      subst P (sym head_is)
      (cond_both (ltb lent.tiles (544 * (w * h))) _ _ Q
      (λ s. inl (omega arith, λ en. omega (arith, ltb-true lent.tiles (544 * (w * h)) s, en.for_tiles)))
      (λ s. cond_both (ltb lent.work (w * h)) _ _ Q
      (λ t. inl (omega arith, λ en. omega (arith, ltb-true lent.work (w * h) t, en.for_work))) (λ t. body_scanned)))

module _ (bs : List ℕ) (fit : Bytes bs) where
  four_then : (i j : ℕ) (l : List ℕ) → j ≡ i + 4 → j ≤ length bs → drop j bs ≡ l → drop i bs ≡ long (four_at bs i) ++ l
  four_then i j l e h t =
      let a : four_at bs i % 65536 ≡ two_at bs i = omega (arith, two_lt bs fit i) in
      let b : four_at bs i / 65536 ≡ two_at bs (i + 2) = omega (arith, two_lt bs fit i) in
      rw (a, b) (two_then bs fit i (i + 2) _ refl (omega arith) (two_then bs fit (i + 2) j l (omega arith) h t))

  four_lt : (i : ℕ) → four_at bs i < 4294967296
  four_lt i = omega (arith, two_lt bs fit i, two_lt bs fit (i + 2))

  -- a head that is read
  record Head (lent : Lengths) (m : ℕ) : Type 0 where
    start : 16 ≡ m
    wide : (1 ≤ two_at bs 4) × (two_at bs 4 ≤ 4096)
    high : (1 ≤ two_at bs 6) × (two_at bs 6 ≤ 4096)
    lends : (544 * (two_at bs 4 * two_at bs 6) ≤ lent.tiles) × (two_at bs 4 * two_at bs 6 ≤ lent.work)
    stands : (l : List ℕ) → drop 16 bs ≡ l → bs ≡ 80 ∷ 65 ∷ 71 ∷ 69 ∷ (two (two_at bs 4) ++ (two (two_at bs 6) ++ (long (four_at bs 8) ++ (long (four_at bs 12) ++ l))))

  head_read : (lent : Lengths) (m : ℕ) → head_end bs lent ≡ Ok m → Head lent m
  head_read lent m e =
      let l0 = letter_of bs 0 80 _ _ e in
      let l1 = letter_of bs 1 65 _ _ l0.2 in
      let l2 = letter_of bs 2 71 _ _ l1.2 in
      let l3 = letter_of bs 3 69 _ _ l2.2 in
      let s4 = sized_of bs 4 _ _ l3.2 in
      let s6 = sized_of bs 6 _ _ s4.2 in
      let u = of_unless (short_of lent (two_at bs 4) (two_at bs 6)) (need bs 0 16 (Ok 16)) m s6.2 in
      let c = of_need (leb (0 + 16) (length bs)) (Ok 16) _ m u.1 in
      let all : 0 + 16 ≤ length bs = leb-true (0 + 16) (length bs) c.0 in
      record {
        start = same_ok 16 m c.1;
        wide = (s4.0, s4.1);
        high = (s6.0, s6.1);
        lends = of_short lent (two_at bs 4) (two_at bs 6) u.0;
        stands = λ l t.
            kind_then bs fit 0 1 80 _ l0.1 refl (omega arith) (kind_then bs fit 1 2 65 _ l1.1 refl (omega arith) (kind_then bs fit 2 3 71 _ l2.1 refl (omega arith) (kind_then bs fit 3 4 69 _ l3.1 refl (omega arith)
            (two_then bs fit 4 6 _ refl (omega arith) (two_then bs fit 6 8 _ refl (omega arith) (four_then 8 12 _ refl (omega arith) (four_then 12 16 _ refl (omega arith) t)))))));
      }

  module _ (lent : Lengths) where
    taken : (n : ℕ) → on_ok (head_end bs lent) (body_from bs lent.turns) ≡ Ok n → length bs ≤ n → FileTaken bs lent (file_at bs)
    taken n e long-enough =
        let turns = lent.turns in
        let a = of_on (head_end bs lent) (body_from bs turns) n e in
        let hd = head_read lent a.0 a.1 in
        let body : body_from bs turns 16 ≡ Ok n = ap (body_from bs turns) hd.start ∙ a.2 in
        let b = of_on (edits_end bs turns 0 (four_at bs 8) 16) (edits_end bs turns (four_at bs 8) (four_at bs 12)) n body in
        let one = edits_read bs fit turns (four_at bs 8) 0 16 b.0 (omega arith) (omega arith) b.1 in
        let next = ap (edits_end bs turns (four_at bs 8) (four_at bs 12)) one.ends ∙ b.2 in
        let two' = edits_read bs fit turns (four_at bs 12) (four_at bs 8) (after_edits bs 16 (four_at bs 8)) n (omega (arith, one.few)) (omega (arith, one.for_turns)) next in
        let d = done_of bs (file_at bs) in let u = undone_of bs (file_at bs) in
        let d_long : length d ≡ four_at bs 8 = length_from bs (four_at bs 8) 16 in
        let u_long : length u ≡ four_at bs 12 = length_from bs (four_at bs 12) (after_edits bs 16 (four_at bs 8)) in
        let body_is : drop 16 bs ≡ all_written d ++ all_written u =
        one.stands ∙ ap (λ l. all_written d ++ l)
        (ap (λ m. drop m bs) (sym one.ends) ∙ (two'.stands ∙ (ap (λ l. all_written u ++ l) (drop_all n bs long-enough) ∙ append-nil (all_written u)))) in
        record {
          is_file = record {
            wide = hd.wide;
            high = hd.high;
            fit = (one.fits, two'.fits);
            few = (omega (arith, d_long, four_lt 8), omega (arith, u_long, four_lt 12));
            is = rw (d_long, u_long) (hd.stands (all_written d ++ all_written u) body_is);
          };
          is_built = (one.are_built, two'.are_built);
          counts = (d_long, u_long);
          enough = record { for_tiles = hd.lends.0; for_work = hd.lends.1; few = two'.few; for_turns = two'.for_turns };
        }

    file_means : (x : End) → on_ok (head_end bs lent) (body_from bs lent.turns) ≡ x → FileRead bs lent (whole_file bs x)
    file_means (Err f) e = λ w h done undone is. subst (Whole bs lent w h done undone is) e (file_scanned bs lent w h done undone is)
    file_means (Ok n) e =
        cond_both (ltb n (length bs)) _ _ (FileRead bs lent)
        (λ t w h done undone is.
        let q : n ≡ length bs = subst (Whole bs lent w h done undone is) e (file_scanned bs lent w h done undone is) in absurd (omega (arith, ltb-true n (length bs) t)))
        (λ t. taken n e (ltb-false n (length bs) t))

pub read_file_means : (bs : List ℕ) (lent : Lengths) (r : Result File Refusal) → r ≡ read_file bs lent → Bytes bs → FileRead bs lent r
read_file_means bs lent r e fit =
    let P : Result File Refusal → Type 0 = λ x. FileRead bs lent x in
    subst P (sym e) (file_means bs fit lent (on_ok (head_end bs lent) (body_from bs lent.turns)) refl)

-- a file that is written is read as the same
pub file_written_read : FileWrittenRead
file_written_read bs lent w h done undone is b c en = by_end (on_ok (head_end bs lent) (body_from bs lent.turns)) (file_scanned bs lent w h done undone is)
  where
    by_end : (x : End) → Whole bs lent w h done undone is x →
        MatchResult (whole_file bs x) (λ f. (f.width ≡ w) × (f.height ≡ h) × (done_of bs f ≡ done) × (undone_of bs f ≡ undone)) (λ f. ⊥)
    by_end (Err f) (inl s) = s.1 en
    by_end (Err f) (inr s) = s.1 b c
    by_end (Ok n) s =
        let P : Result File Refusal → Type 0 = λ r. MatchResult r (λ f. (f.width ≡ w) × (f.height ≡ h) × (done_of bs f ≡ done) × (undone_of bs f ≡ undone)) (λ f. ⊥) in
        cond_both (ltb n (length bs)) _ _ P
        (λ t. omega (arith, ltb-true n (length bs) t))
        (λ t. file_is bs lent w h done undone is)

-- bytes that are a file, where they are read, are read as that file
pub file_read_is :
    (bs : List ℕ) (lent : Lengths) (w h : ℕ) (done undone : List page.Edit) (f : File) → IsFile bs w h done undone → read_file bs lent ≡ Ok f →
    (f.width ≡ w) × (f.height ≡ h) × (done_of bs f ≡ done) × (undone_of bs f ≡ undone)
file_read_is bs lent w h done undone f is read =
    let P : File → Type 0 = λ g. (g.width ≡ w) × (g.height ≡ h) × (done_of bs g ≡ done) × (undone_of bs g ≡ undone) in
    subst P (of_whole (on_ok (head_end bs lent) (body_from bs lent.turns)) read) (file_is bs lent w h done undone is)
  where
    of_whole : (x : End) → whole_file bs x ≡ Ok f → file_at bs ≡ f
    of_whole (Err g) e = let z : ◌≡◌ {A = ℕ} 0 1 = cc in absurd (omega arith)
    of_whole (Ok n) e =
        let P : Result File Refusal → Type 0 = λ r. r ≡ Ok f → file_at bs ≡ f in
        cond_both (ltb n (length bs)) _ _ P (λ t g. let z : ◌≡◌ {A = ℕ} 0 1 = cc in absurd (omega arith)) (λ t g. cc) e
