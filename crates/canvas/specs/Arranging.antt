-- Entries of layers that change places, and what the edits of layers leave. Assumes nothing.
use Rattle.std.specs.Prelude.{◌≡◌, ℕ, ◌+◌, ◌-◌, ◌*◌, ◌<◌, if◌then◌else◌, List, length, ◌==◌, nat_le, nat_lt, slice_index_or}
use Rattle.pixel.specs.Bytes.{Wrote}
use Rattle.page.specs.Edits.{Edit, edited}
use Rattle.page.specs.Agree.{Agree}
use Rattle.canvas.specs.declared.state.Layer.{Layer as Entry}
use Rattle.canvas.specs.declared.state.Canvas.{Canvas}
use Rattle.canvas.specs.View.{plane_at, no_entry, view}

-- where the entry at k was before the one at hi went down to lo, and those from there on one up
unfoldable pub from_lowered : ℕ → ℕ → ℕ → ℕ
from_lowered lo hi k = if nat_lt k lo then k else if k == lo then hi else if nat_le k hi then k - 1 else k

-- where it was before the one at lo went up to hi, and those up to there one down
unfoldable pub from_raised : ℕ → ℕ → ℕ → ℕ
from_raised lo hi k = if nat_lt k lo then k else if nat_lt k hi then k + 1 else if k == hi then lo else k

-- the entry at k was at f k
pub record Reordered (f : ℕ → ℕ) (ls ms : List Entry) : Type 0 where
  pub long : length ms ≡ length ls
  pub places : (k : ℕ) (d : Entry) → k < length ls → slice_index_or ms k d ≡ slice_index_or ls (f k) d

-- a canvas of the same size, with n layers of which a is active, and the entries ls in another order
pub record Arranged (s : Canvas) (ls : List Entry) (f : ℕ → ℕ) (n a : ℕ) (t : Canvas) : Type 0 where
  pub size_is : t.size ≡ s.size
  pub count_is : t.count ≡ n
  pub active_is : t.active ≡ a
  pub entries : Reordered f ls t.layers

-- an edit of the layers: the page is the one before, edited, and of the same size
pub record LayersEdited (s : Canvas) (e : Edit) (xs : List ℕ) (t : Canvas) (ys : List ℕ) : Type 0 where
  pub agrees : Agree (view t ys) (edited (view s xs) e)
  pub same_size : t.size ≡ s.size

-- where the plane of the k-th entry begins
abbrev pub plane_start : Canvas → ℕ → ℕ
plane_start s k = plane_at (s.size.wide * s.size.high) (slice_index_or s.layers k no_entry).plane

-- the same, and of the bytes only those of the plane of entry k are written
pub record LayersPainted (s : Canvas) (e : Edit) (k : ℕ) (xs : List ℕ) (t : Canvas) (ys : List ℕ) : Type 0 where
  pub edit : LayersEdited s e xs t ys
  pub wrote : Wrote (plane_start s k) (plane_start s k + 4 * (s.size.wide * s.size.high)) xs ys
