-- Edits of kinds that there are not. Assumes nothing.
use Rattle.std.proofs.Common.{◌≡◌, ℕ, Bool, false, if◌then◌else◌, ◌⊎◌, List, sym, refl, ap, subst, inl, inr}
use Rattle.pixel.specs.declared.Pixel.{Pixel}
use Rattle.page.specs.Edits as page
use Rattle.page.specs.Edits.{set_mode}
use Rattle.page.specs.Fits.{kind}
use Rattle.codec.specs.declared.edits.Filter.{Filter}
use Rattle.codec.specs.declared.edits.Edit.{Edit}
use Rattle.codec.specs.declared.edits.Edit.TheVariants.{SelectSimilar, Stroke, ApplyFilter, Copy, Paste}
use Rattle.codec.specs.Kinds.{built}
use Rattle.codec.specs.Meaning.{edit_of}
use Rattle.page.proofs.Agreeing.{agree_refl}
use Rattle.canvas.specs.declared.state.Canvas.{Canvas}
use Rattle.canvas.specs.View.{view}
use Rattle.canvas.specs.Applying.{known, Applied}

-- an edit of one of the kinds that there are not
abbrev Other : Edit → Type 0
Other e =
    ((n : ℕ) × (x : ℕ) × (y : ℕ) × (e ≡ SelectSimilar n x y)) ⊎ (((d : Pixel) × (r : ℕ) × (m : ℕ) × (k : ℕ) × (e ≡ Stroke d r m k)) ⊎ (((f : Filter) × (e ≡ ApplyFilter f)) ⊎ ((e ≡ Copy) ⊎ ((x : ℕ) × (y : ℕ) × (e ≡ Paste x y)))))

pub others_unbuilt : (bs : List ℕ) (e : Edit) → Other e → built (kind (edit_of bs e)) ≡ false
unfolding kind
others_unbuilt bs e (inl s) = ap (λ d. built (kind (edit_of bs d))) s.3
others_unbuilt bs e (inr (inl s)) = ap (λ d. built (kind (edit_of bs d))) s.4
others_unbuilt bs e (inr (inr (inl s))) = ap (λ d. built (kind (edit_of bs d))) s.1
others_unbuilt bs e (inr (inr (inr (inl s)))) = ap (λ d. built (kind (edit_of bs d))) s
others_unbuilt bs e (inr (inr (inr (inr s)))) = ap (λ d. built (kind (edit_of bs d))) s.2

-- one that is not built leaves the page
pub not_known : (s : Canvas) (xs : List ℕ) (e : page.Edit) → built (kind e) ≡ false → Applied s (known e) xs s xs
not_known s xs e n =
    subst (λ (b : Bool). Applied s (if b then e else set_mode 255) xs s xs) (sym n) (record { agrees = agree_refl (view s xs); same_size = refl; long = refl })
