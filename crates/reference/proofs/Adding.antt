-- An edit whose bytes come behind those of the others is read as the edit that it is. Assumes nothing.
use Rattle.std.proofs.Common.{◌≡◌, ℕ, true, List, [], ◌++◌, length, drop, sym, refl, ap, ◌∙◌, ap₂}
use Rattle.std.proofs.lemmas.List.{append-nil, drop_at}
use Rattle.page.specs.Edits as page
use Rattle.page.specs.Fits.{kind}
use Rattle.codec.specs.declared.edits.Edit.{Edit}
use Rattle.codec.specs.Meaning.{edit_of}
use Rattle.codec.specs.Kinds.{built}
use Rattle.codec.specs.Written.{written}
use Rattle.codec.specs.Read.{edit_or_none, edit_and_end}
use Rattle.codec.specs.Laws.{EditGood, EditBytes}
use Rattle.codec.proofs.Complete.{written_read}
use Rattle.codec.proofs.Growing.{held_reach}
use Rattle.reference.specs.Lists.{Good}

pub read_behind : (bs turn : List ℕ) (e : page.Edit) → EditBytes turn e → edit_of (bs ++ turn) (edit_and_end (bs ++ turn) (length bs)).0 ≡ e
read_behind bs turn e b =
    let stands : drop (length bs) (bs ++ turn) ≡ written e ++ [] = drop_at bs turn (length bs) refl ∙ b.is ∙ sym (append-nil (written e)) in
    let law = written_read (bs ++ turn) [] (length bs) e b.fits stands in
    ap (λ r. edit_of (bs ++ turn) (edit_or_none (bs ++ turn) (length bs) r).0) law.0 ∙ law.1

-- an edit that was read is good, if it is of a kind that there is
pub good_read : (bs : List ℕ) (x : Edit) → EditGood bs x → built (kind (edit_of bs x)) ≡ true → Good bs x
good_read bs x g is = (is, held_reach bs x g.held, ∣ g.fits ∣₁)

pub appended : (bs turn now : List ℕ) (at : ℕ) (x : Edit × ℕ) → now ≡ bs ++ turn → at ≡ length bs → x ≡ edit_and_end now at → EditGood now x.0 →
    (e : page.Edit) → EditBytes turn e → Good now x.0 × (edit_of now x.0 ≡ e)
appended bs turn now at x is long read good e b =
    let means : edit_of now x.0 ≡ e = ap (edit_of now) (ap (λ (y : Edit × ℕ). y.0) read) ∙ (ap₂ (λ m n. edit_of m (edit_and_end m n).0) is long ∙ read_behind bs turn e b) in
    (good_read now x.0 good (ap (λ m. built (kind m)) means ∙ b.is_built), means)
