-- An edit applied to a canvas. Assumes nothing.
use Rattle.std.specs.Prelude.{◌≡◌, ℕ, true, if◌then◌else◌, List, length}
use Rattle.page.specs.Edits as page
use Rattle.page.specs.Edits.{edited, set_mode}
use Rattle.page.specs.Agree.{Agree}
use Rattle.page.specs.Fits.{kind}
use Rattle.codec.specs.declared.edits.Edit.{Edit}
use Rattle.codec.specs.Meaning.{edit_of}
use Rattle.codec.specs.Kinds.{built}
use Rattle.canvas.specs.declared.state.Canvas.{Canvas}
use Rattle.canvas.specs.View.{view}

-- an edit of a kind that there is
abbrev pub Built : List ℕ → Edit → Type 0
Built bs e = built (kind (edit_of bs e)) ≡ true

-- an edit of another kind changes nothing, as a mode that there is not
abbrev pub known : page.Edit → page.Edit
known e = if built (kind e) then e else set_mode 255

-- the page is the one before, edited, and of the same size
pub record Applied (s : Canvas) (e : page.Edit) (xs : List ℕ) (t : Canvas) (ys : List ℕ) : Type 0 where
  pub agrees : Agree (view t ys) (edited (view s xs) e)
  pub same_size : t.size ≡ s.size
  pub long : length ys ≡ length xs
