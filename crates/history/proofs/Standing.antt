-- An edit that stands in bytes is read from them, and from others that are the same there. Assumes nothing.
use Rattle.std.proofs.Common.{◌≡◌, ℕ, ◌+◌, ◌-◌, ◌*◌, ◌<◌, ◌≤◌, List, ◌++◌, length, get_or, take, drop, Ok, Err, sym, refl, ap, ◌∙◌, arith, length-append, length-drop}
use Rattle.std.proofs.lemmas.List.{same_lists, take-append-drop, length-take-le, get_or-take, get_or-drop, get_or_default, get_or_append_left}
use Rattle.page.specs.Edits as page
use Rattle.page.specs.Fits.{Fits}
use Rattle.codec.specs.Meaning.{edit_of, Bytes}
use Rattle.codec.specs.Written.{written}
use Rattle.codec.specs.Scan.{End, end_of, edit_at}
use Rattle.codec.specs.Read.{edit_or_none, edit_and_end}
use Rattle.codec.proofs.Complete.{written_read}
use Rattle.codec.proofs.Sound.{reads_written}
use Rattle.codec.proofs.Means.{not_both, written_long}
use Rattle.codec.proofs.Writes.{written_short}
use Rattle.canvas.specs.Applying.{known}
use Rattle.history.specs.Slots.{slot_edit}

-- what stands at `at` in one list stands there in another that is the same so far
front_same : (xs ys ws rest : List ℕ) (at : ℕ) → length ys ≡ length xs → at ≤ length xs → drop at xs ≡ ws ++ rest → ((m : ℕ) → m < length ws → get_or ys (at + m) 0 ≡ get_or xs (at + m) 0) →
    drop at ys ≡ ws ++ drop (length ws) (drop at ys)
front_same xs ys ws rest at long in_it stands same =
    let m = length ws in
    let sizes : length xs - at ≡ m + length rest = sym (length-drop at xs) ∙ ap length stands ∙ length-append ws rest in
    let room : m ≤ length (drop at ys) = omega (arith, length-drop at ys, long, sizes) in
    let front : take m (drop at ys) ≡ ws
    = same_lists (take m (drop at ys)) ws (length-take-le m (drop at ys) room) (λ k d l.
    let km : k < m = omega (arith, length-take-le m (drop at ys) room) in
    let inside : at + k < length ys = omega (arith, long, sizes) in
    get_or-take m (drop at ys) k d km ∙ get_or-drop at ys k d ∙ get_or_default ys (at + k) d 0 inside ∙ same k km ∙ get_or_default xs (at + k) 0 d (omega (arith, sizes)) ∙ sym (get_or-drop at xs k d)
    ∙ ap (λ l. get_or l k d) stands ∙ get_or_append_left ws rest d k km) in
    sym (take-append-drop m (drop at ys)) ∙ ap (λ l. l ++ drop m (drop at ys)) front

-- an edit that stands at `at` is the one that is read there
pub stands_read : (xs rest : List ℕ) (at : ℕ) (e : page.Edit) → Fits e → drop at xs ≡ written e ++ rest → edit_of xs (edit_and_end xs at).0 ≡ e
stands_read xs rest at e fits stands =
    let law = written_read xs rest at e fits stands in ap (λ r. edit_of xs (edit_or_none xs at r).0) law.0 ∙ law.1

-- an edit that is read at `at` in xs is read there in ys, where the next 8,192 bytes are the same
found_same : (xs ys : List ℕ) (at n : ℕ) → Bytes xs → length ys ≡ length xs → ((q : ℕ) → at ≤ q → q < at + 8192 → get_or ys q 0 ≡ get_or xs q 0) → end_of xs at ≡ Ok n →
    ((m : ℕ) × (end_of ys at ≡ Ok m)) × (edit_of ys (edit_at ys at) ≡ edit_of xs (edit_at xs at))
found_same xs ys at n bytes long same e =
    let law = reads_written xs at n bytes e in
    let d = edit_of xs (edit_at xs at) in
    let size : length xs - at ≡ length (written d) + length (drop n xs) = sym (length-drop at xs) ∙ ap length law.0 ∙ length-append (written d) (drop n xs) in
    let some = written_long d in
    let stands : drop at ys ≡ written d ++ drop (length (written d)) (drop at ys)
    = front_same xs ys (written d) (drop n xs) at long (omega (arith, size, some)) law.0 (λ m l. same (at + m) (omega arith) (omega (arith, written_short d law.1))) in
    let back = written_read ys (drop (length (written d)) (drop at ys)) at d law.1 stands in
    ((at + length (written d), back.0), back.1)

read_same_by : (xs ys : List ℕ) (at : ℕ) → Bytes xs → Bytes ys → length ys ≡ length xs → ((q : ℕ) → at ≤ q → q < at + 8192 → get_or ys q 0 ≡ get_or xs q 0) → (r s : End) → end_of xs at ≡ r → end_of ys at ≡ s →
    edit_of ys (edit_or_none ys at s).0 ≡ edit_of xs (edit_or_none xs at r).0
read_same_by xs ys at bx by long same (Ok n) (Ok m) e f = (found_same xs ys at n bx long same e).1
read_same_by xs ys at bx by long same (Ok n) (Err g) e f = let found = (found_same xs ys at n bx long same e).0 in absurd (not_both g found.0 (sym f ∙ found.1))
read_same_by xs ys at bx by long same (Err g) (Ok m) e f =
    let found = (found_same ys xs at m by (sym long) (λ q l u. sym (same q l u)) f).0 in absurd (not_both g found.0 (sym e ∙ found.1))
read_same_by xs ys at bx by long same (Err g) (Err k) e f = refl

-- a slot that is not written keeps its edit
pub slot_same : (xs ys : List ℕ) (k : ℕ) → Bytes xs → Bytes ys → length ys ≡ length xs → ((q : ℕ) → 8192 * k ≤ q → q < 8192 * k + 8192 → get_or ys q 0 ≡ get_or xs q 0) → slot_edit ys k ≡ slot_edit xs k
slot_same xs ys k bx by long same = ap known (read_same_by xs ys (8192 * k) bx by long same (end_of xs (8192 * k)) (end_of ys (8192 * k)) refl refl)
