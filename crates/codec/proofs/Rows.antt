-- Edits one after the other: the scan over them, and what its answers mean.
use Rattle.std.proofs.Common.{◌≡◌, ℕ, zero, suc, ◌+◌, ◌-◌, ◌*◌, ◌<◌, ◌≤◌, Bool, true, false, cond, ltb, leb, ◌⊎◌, List, [], ◌∷◌, ◌++◌, length, get_or, drop, Some, None, Ok, Err, Option, sym, refl, ap, ◌∙◌, subst, inl, inr, add-zero, suc-add, zero-add, arith, MatchResult}
use Rattle.std.proofs.lemmas.List.{append_assoc, drop_at, get_or-drop, length-append}
use Rattle.std.proofs.lemmas.Bool.{ltb-true, ltb-false, leb-true, leb-false, cond_both, both_ways}
use Rattle.std.specs.List.{All}
use Rattle.std.proofs.lemmas.List.Elements.{All-nil, All-cons, All-tail}
use Rattle.page.specs.Edits as page
use Rattle.page.specs.Fits.{Fits, kind}
use Rattle.codec.specs.declared.edits.Edit.{Edit}
use Rattle.codec.specs.declared.edits.Refusal.{Refusal}
use Rattle.codec.specs.Kinds.{built}
use Rattle.codec.specs.Written.{written}
use Rattle.codec.specs.Meaning.{edit_of, Bytes}
use Rattle.codec.specs.Refusals.{number}
use Rattle.codec.specs.Scan.{End, end_of, edit_at}
use Rattle.codec.specs.Read.{unless, taken_end, edit_and_end, edit_or_none}
use Rattle.codec.specs.Files.{all_written, Built, edits_from, after_edits, against_edit, on_ok, edits_end}
use Rattle.codec.specs.FileLaws.{EditsInOrder}
use Rattle.codec.proofs.Sound.{reads_written, same_ok}
use Rattle.codec.proofs.Complete.{written_read, on, room}
use Rattle.codec.proofs.Means.{not_both, kind_first, written_long, of_taken}

abbrev pub ok : ℕ → End
ok n = Ok n

-- the kind of an edit that is written at `at` stands there
pub first_kind : (bs : List ℕ) (at : ℕ) (e : page.Edit) (rest : List ℕ) → drop at bs ≡ written e ++ rest → get_or bs at 0 ≡ kind e
first_kind bs at e rest d = ap (λ m. get_or bs m 0) (sym (add-zero at)) ∙ (sym (get_or-drop at bs 0 0) ∙ (ap (λ l. get_or l 0 0) d ∙ kind_first e rest 0))

-- one more edit, at a count that is not 0
pub edits_more : (bs : List ℕ) (turns k c at : ℕ) → 0 < c → edits_end bs turns k c at ≡ on_ok (taken_end bs at (against_edit turns k at)) (edits_end bs turns (k + 1) (c - 1))
edits_more bs turns k zero at h = absurd (omega arith)
edits_more bs turns k (suc c) at h = let e : suc c - 1 ≡ c = omega arith in rw e

-- a step of the reader's loop
pub edits_step : (bs : List ℕ) (turns k end at : ℕ) → k < end →
    edits_end bs turns k (end - k) at ≡ on_ok (taken_end bs at (against_edit turns k at)) (edits_end bs turns (k + 1) (end - (k + 1)))
edits_step bs turns k end at h =
    let c : end - k - 1 ≡ end - (k + 1) = omega arith in
    edits_more bs turns k (end - k) at (omega arith) ∙ rw c

-- an end after another
pub of_on : (x : End) (g : ℕ → End) (n : ℕ) → on_ok x g ≡ Ok n → (m : ℕ) × (x ≡ Ok m) × (g m ≡ Ok n)
of_on (Ok m) g n h = (m, refl, h)
of_on (Err f) g n h = absurd (not_both f n h)

pub length_from : (bs : List ℕ) (c at : ℕ) → length (edits_from bs at c) ≡ c
length_from bs zero at = refl
length_from bs (suc c) at = ap suc (length_from bs c (edit_and_end bs at).1)

-- edits in two goes, and one more behind the others
pub edits_in_order : EditsInOrder
edits_in_order bs at zero b = (ap (edits_from bs at) (zero-add b), ap (after_edits bs at) (zero-add b))
edits_in_order bs at (suc a) b =
    let more = edits_in_order bs (edit_and_end bs at).1 a b in
    (ap (edits_from bs at) (suc-add a b) ∙ ap (λ es. edit_of bs (edit_and_end bs at).0 ∷ es) more.0, ap (after_edits bs at) (suc-add a b) ∙ more.1)

pub one_more : (bs : List ℕ) (at k : ℕ) →
    (edits_from bs at (k + 1) ≡ edits_from bs at k ++ edit_of bs (edit_and_end bs (after_edits bs at k)).0 ∷ [])
    × (after_edits bs at (k + 1) ≡ (edit_and_end bs (after_edits bs at k)).1)
one_more bs at k = edits_in_order bs at k 1

-- what a None says of the test before it
pub of_some : (b : Bool) (f : Refusal) (o : Option Refusal) → cond b (Some f) o ≡ None → (b ≡ false) × (o ≡ None)
of_some true f o h = let z : ◌≡◌ {A = ℕ} 0 1 = cc in absurd (omega arith)
of_some false f o h = (refl, h)

pub of_none : (b : Bool) (f : Refusal) (o : Option Refusal) → cond b o (Some f) ≡ None → (b ≡ true) × (o ≡ None)
of_none true f o h = (refl, h)
of_none false f o h = let z : ◌≡◌ {A = ℕ} 0 1 = cc in absurd (omega arith)

-- what stands against an edit that is taken: nothing
pub of_against : (turns k at : ℕ) → against_edit turns k at ≡ None → (k < 65536) × (8192 * (k + 1) ≤ turns)
of_against turns k at e =
    let a = of_some (leb 65536 k) _ _ e in
    let b = of_some (ltb turns (8192 * (k + 1))) _ _ a.1 in
    (leb-false 65536 k a.0, ltb-false turns (8192 * (k + 1)) b.0)

-- c edits es stand from `at` to n, the first after k others
pub record Row (bs : List ℕ) (turns k c at n : ℕ) (es : List page.Edit) (end : ℕ) : Type 0 where
  pub stands : drop at bs ≡ all_written es ++ drop n bs
  pub fits : All Fits es
  pub are_built : All Built es
  pub ends : end ≡ n
  pub few : k + c ≤ 65536
  pub for_turns : 8192 * (k + c) ≤ turns

-- edits that are read are written there
pub edits_read :
    (bs : List ℕ) → Bytes bs → (turns c k at n : ℕ) → k ≤ 65536 → 8192 * k ≤ turns → edits_end bs turns k c at ≡ Ok n →
    Row bs turns k c at n (edits_from bs at c) (after_edits bs at c)
edits_read bs fit turns zero k at n few room e =
    let same = same_ok at n e in
    record { stands = ap (λ m. drop m bs) same; fits = All-nil Fits; are_built = All-nil Built; ends = same; few = omega arith; for_turns = omega arith }
edits_read bs fit turns (suc c) k at n few room e =
    let s = of_on (taken_end bs at (against_edit turns k at)) (edits_end bs turns (k + 1) c) n e in
    let t = of_taken bs at (against_edit turns k at) s.0 s.1 in
    let a = of_against turns k at t.free in
    let one = reads_written bs at s.0 fit t.end in
    let more = edits_read bs fit turns c (k + 1) s.0 n (omega (arith, a.0)) a.1 s.2 in
    let d = edit_of bs (edit_at bs at) in
    let kind_is : get_or bs at 0 ≡ kind d = first_kind bs at d (drop s.0 bs) one.0 in
    let is : edit_and_end bs at ≡ (edit_at bs at, s.0) = ap (edit_or_none bs at) t.end in
    subst (λ (p : Edit × ℕ). Row bs turns k (suc c) at n (edit_of bs p.0 ∷ edits_from bs p.1 c) (after_edits bs p.1 c)) (sym is)
    (record {
      stands = one.0 ∙ (ap (λ l. written d ++ l) more.stands ∙ sym (append_assoc (written d) (all_written (edits_from bs s.0 c)) (drop n bs)));
      fits = All-cons Fits d (edits_from bs s.0 c) one.1 more.fits;
      are_built = All-cons Built d (edits_from bs s.0 c) (ap built (sym kind_is) ∙ t.is_built) more.are_built;
      ends = more.ends;
      few = omega (arith, more.few);
      for_turns = omega (arith, more.for_turns);
    })

-- edits that are written are those that are read there
pub from_written :
    (bs : List ℕ) (es : List page.Edit) (at : ℕ) (rest : List ℕ) → All Fits es → drop at bs ≡ all_written es ++ rest →
    (edits_from bs at (length es) ≡ es) × (after_edits bs at (length es) ≡ at + length (all_written es))
from_written bs [] at rest fits d = (refl, omega arith)
from_written bs (e ∷ es) at rest fits d =
    let split : drop at bs ≡ written e ++ (all_written es ++ rest) = d ∙ append_assoc (written e) (all_written es) rest in
    let one = written_read bs (all_written es ++ rest) at e (fits 0 e (omega arith)) split in
    let m = at + length (written e) in
    let next : drop m bs ≡ all_written es ++ rest =
    on bs at (length (written e)) _ split ∙ drop_at (written e) (all_written es ++ rest) (length (written e)) refl in
    let more = from_written bs es m rest (All-tail Fits e es fits) next in
    let is : edit_and_end bs at ≡ (edit_at bs at, m) = ap (edit_or_none bs at) one.0 in
    let size = length-append (written e) (all_written es) in
    subst (λ (p : Edit × ℕ). (edit_of bs p.0 ∷ edits_from bs p.1 (length es) ≡ e ∷ es) × (after_edits bs p.1 (length es) ≡ at + length (all_written (e ∷ es)))) (sym is)
    (rw (one.1, more.0), omega (arith, more.1, size))

-- how edits that are written are scanned, after k others
abbrev pub Scanned : ℕ → ℕ → List page.Edit → ℕ → End → Type 0
Scanned turns k es at x =
    MatchResult x (λ n. n ≡ at + length (all_written es))
    (λ f. ((4 ≤ number f) × (k + length es ≤ 65536 → 8192 * (k + length es) ≤ turns → ⊥)) ⊎ ((number f ≡ 3) × (All Built es → ⊥)))

scanned_more :
    (turns k at : ℕ) (e : page.Edit) (es : List page.Edit) (x : End) → Scanned turns (k + 1) es (at + length (written e)) x → Scanned turns k (e ∷ es) at x
scanned_more turns k at e es (Ok n) h = let size = length-append (written e) (all_written es) in omega arith
scanned_more turns k at e es (Err f) (inl h) = inl (h.0, λ few room. h.1 (omega arith) (omega arith))
scanned_more turns k at e es (Err f) (inr h) = inr (h.0, λ b. h.1 (All-tail Built e es b))

pub edits_written :
    (bs : List ℕ) (turns : ℕ) (es : List page.Edit) (k at : ℕ) (rest : List ℕ) → All Fits es → drop at bs ≡ all_written es ++ rest →
    Scanned turns k es at (edits_end bs turns k (length es) at)
edits_written bs turns [] k at rest fits d = omega arith
edits_written bs turns (e ∷ es) k at rest fits d =
    let split : drop at bs ≡ written e ++ (all_written es ++ rest) = d ∙ append_assoc (written e) (all_written es) rest in
    let one = written_read bs (all_written es ++ rest) at e (fits 0 e (omega arith)) split in
    let m = at + length (written e) in
    let next : drop m bs ≡ all_written es ++ rest =
    on bs at (length (written e)) _ split ∙ drop_at (written e) (all_written es ++ rest) (length (written e)) refl in
    let long = written_long e in
    let all = room bs at (written e) (all_written es ++ rest) split long in
    let k_is = first_kind bs at e (all_written es ++ rest) split in
    let go : End → End = λ x. on_ok x (edits_end bs turns (k + 1) (length es)) in
    let P : End → Type 0 = λ x. Scanned turns k (e ∷ es) at (go x) in
    let free : P (end_of bs at) = subst P (sym one.0) (scanned_more turns k at e es _ (edits_written bs turns es (k + 1) m rest (All-tail Fits e es fits) next)) in
    cond_both (leb (at + 1) (length bs)) _ _ P
    (λ h. cond_both (built (get_or bs at 0)) _ _ P
    (λ b. cond_both (leb 65536 k) _ _ (λ (o : Option Refusal). P (unless o (end_of bs at)))
    (λ big. inl (omega arith, λ few turns-room. omega (arith, leb-true 65536 k big)))
    (λ small. cond_both (ltb turns (8192 * (k + 1))) _ _ (λ (o : Option Refusal). P (unless o (end_of bs at)))
    (λ short. inl (omega arith, λ few turns-room. omega (arith, ltb-true turns (8192 * (k + 1)) short))) (λ enough. free)))
    (λ b. inr (refl, λ are. both_ways (built (get_or bs at 0)) b (ap built k_is ∙ are 0 e (omega arith)))))
    (λ h. absurd (omega (arith, leb-false (at + 1) (length bs) h)))
