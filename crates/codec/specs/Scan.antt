-- Where an edit of any kind ends in bytes, or why there is none, and which one it is. Assumes nothing.
use Rattle.std.specs.Prelude.{◌≡◌, ℕ, ◌+◌, ◌*◌, ◌<◌, ◌≤◌, ⊤, if◌then◌else◌, List, [], ◌∷◌, length, Ok, Err, Result, MatchResult, ◌==◌, nat_le, nat_lt, slice_index, slice_index_or}
use Rattle.pixel.specs.Bytes.{pixel_at}
use Rattle.codec.specs.declared.edits.Edit.{Edit}
use Rattle.codec.specs.declared.edits.Edit.TheVariants.{AddLayer, DropLayer, ChooseLayer, RaiseLayer, SetMode, SetOpacity, SetVisible, MergeDown, SelectAll, SelectRect, SelectSimilar, SelectInverse, Fill, Stroke, ApplyFilter, Copy, Paste}
use Rattle.codec.specs.declared.edits.Filter.{Filter}
use Rattle.codec.specs.declared.edits.Filter.TheVariants.{Invert, Curve, BoxBlur, Edges}
use Rattle.codec.specs.declared.edits.Refusal.{Refusal}
use Rattle.codec.specs.declared.edits.Refusal.TheVariants.{Ends, NoKind, NoFilter, ManyPoints, WideBlur, NoFlag}
use Rattle.codec.specs.Meaning.{two_at}

abbrev pub End : Type 0
End = Result ℕ Refusal

-- what comes where there are n bytes from `at` on
abbrev pub need : List ℕ → ℕ → ℕ → End → End
need bs at n e = if nat_le (at + n) (length bs) then e else Err (Ends (length bs))

-- whether there are, as a result
abbrev pub Needs : List ℕ → ℕ → ℕ → Result ⊤ Refusal → Type 0
Needs bs at n r = MatchResult r (λ _. at + n ≤ length bs) (λ why. (length bs < at + n) × (why ≡ Ends (length bs)))

-- how many bytes of each kind stand before what its length depends on
abbrev pub heads : List ℕ
heads = 1 ∷ 1 ∷ 2 ∷ 1 ∷ 2 ∷ 3 ∷ 2 ∷ 1 ∷ 1 ∷ 9 ∷ 6 ∷ 1 ∷ 5 ∷ 8 ∷ 2 ∷ 1 ∷ 5 ∷ []

abbrev pub stroke_end : List ℕ → ℕ → End
stroke_end bs at =
    if nat_lt 1024 (two_at bs (at + 6)) then Err (ManyPoints (at + 6))
    else need bs at (8 + 4 * two_at bs (at + 6)) (Ok (at + (8 + 4 * two_at bs (at + 6))))

-- the end of the filter f
abbrev pub filter_end_by : List ℕ → ℕ → ℕ → End
filter_end_by bs at f =
    if nat_lt 3 f then Err (NoFilter (at + 1))
    else (if f == 1 then need bs at 258 (Ok (at + 258))
    else (if f == 2 then need bs at 3 (if nat_lt 64 (slice_index bs (at + 2)) then Err (WideBlur (at + 2)) else Ok (at + 3)) else Ok (at + 2)))

abbrev pub filter_end : List ℕ → ℕ → End
filter_end bs at = filter_end_by bs at (slice_index bs (at + 1))

abbrev pub flag_end : List ℕ → ℕ → End
flag_end bs at = if nat_lt 1 (slice_index bs (at + 1)) then Err (NoFlag (at + 1)) else Ok (at + 2)

abbrev pub body_end : List ℕ → ℕ → ℕ → End
body_end bs at k =
    if k == 6 then flag_end bs at
    else (if k == 13 then stroke_end bs at else (if k == 14 then filter_end bs at else Ok (at + slice_index heads k)))

-- the end of the edit that starts at `at`
abbrev pub end_of : List ℕ → ℕ → End
end_of bs at =
    need bs at 1
    (if nat_lt 16 (slice_index bs at) then Err (NoKind at) else need bs at (slice_index heads (slice_index bs at)) (body_end bs at (slice_index bs at)))

-- the bytes hold an edit's head, and a blur's radius
pub record Headed (bs : List ℕ) (at : ℕ) : Type 0 where
  pub a_kind : slice_index bs at ≤ 16
  pub head : at + slice_index heads (slice_index bs at) ≤ length bs
  pub radius : slice_index bs at ≡ 14 → slice_index bs (at + 1) ≡ 2 → at + 3 ≤ length bs

abbrev pub filter_by : List ℕ → ℕ → ℕ → Filter
filter_by bs at f = slice_index_or (Invert ∷ Curve (at + 2) ∷ BoxBlur (slice_index bs (at + 2)) ∷ []) f Edges

abbrev pub filter_at : List ℕ → ℕ → Filter
filter_at bs at = filter_by bs at (slice_index bs (at + 1))

-- the edit of kind k at `at`
abbrev pub edit_by : List ℕ → ℕ → ℕ → Edit
edit_by bs at k =
    slice_index_or
    (AddLayer ∷ DropLayer ∷ ChooseLayer (slice_index bs (at + 1)) ∷ RaiseLayer ∷ SetMode (slice_index bs (at + 1))
    ∷ SetOpacity (two_at bs (at + 1)) ∷ SetVisible (slice_index bs (at + 1) == 1) ∷ MergeDown ∷ SelectAll
    ∷ SelectRect (record { x = two_at bs (at + 1); y = two_at bs (at + 3); width = two_at bs (at + 5); height = two_at bs (at + 7) })
    ∷ SelectSimilar (slice_index bs (at + 1)) (two_at bs (at + 2)) (two_at bs (at + 4)) ∷ SelectInverse
    ∷ Fill (pixel_at bs (at + 1)) ∷ Stroke (pixel_at bs (at + 1)) (slice_index bs (at + 5)) (at + 8) (two_at bs (at + 6))
    ∷ ApplyFilter (filter_at bs at) ∷ Copy ∷ [])
    k (Paste (two_at bs (at + 1)) (two_at bs (at + 3)))

abbrev pub edit_at : List ℕ → ℕ → Edit
edit_at bs at = edit_by bs at (slice_index bs at)
