-- Lent bytes with a place among them, before and after more is put there; and the laws of that. Assumes nothing.
use Rattle.std.specs.Prelude.{◌≡◌, ℕ, ◌+◌, ◌≤◌, List, [], ◌++◌, length, take, drop}
use Rattle.std.proofs.Common.{refl, sym, ap, ◌∙◌, arith}
use Rattle.std.proofs.lemmas.List.{append_assoc, drop-drop, drop_at, length-append, length-drop, length-take-le, take_at, take-append-drop}
use Rattle.codec.specs.declared.sinks.Cursor.{Cursor}
use Rattle.codec.specs.Put.{put_at}

abbrev pub CursorFits : Cursor → ℕ → Type 0
CursorFits s n = s.at + n ≤ length s.out.now

-- xs was put, and the place is behind it
pub record CursorPuts (s : Cursor) (xs : List ℕ) (t : Cursor) : Type 0 where
  pub same_reference : t.out.ghost_name ≡ s.out.ghost_name
  pub room : s.at + length xs ≤ length s.out.now
  pub bytes : t.out.now ≡ put_at s.out.now s.at xs
  pub place : t.at ≡ s.at + length xs

-- one piece put after another
pub put_put : (xs : List ℕ) (at : ℕ) (ys zs : List ℕ) → at + length ys ≤ length xs → put_at (put_at xs at ys) (at + length ys) zs ≡ put_at xs at (ys ++ zs)
put_put xs at ys zs h =
    let p : List ℕ = take at xs ++ ys in
    let d : List ℕ = drop (at + length ys) xs in
    let w : put_at xs at ys ≡ p ++ d = sym (append_assoc (take at xs) ys d) in
    let long : length p ≡ at + length ys = length-append (take at xs) ys ∙ ap (λ n. n + length ys) (length-take-le at xs (omega arith)) in
    let front : take (at + length ys) (put_at xs at ys) ≡ p = ap (take (at + length ys)) w ∙ take_at p d (at + length ys) long in
    let back : drop (at + length ys + length zs) (put_at xs at ys) ≡ drop (at + length (ys ++ zs)) xs =
    sym (drop-drop (length zs) (at + length ys) (put_at xs at ys))
    ∙ (ap (λ l. drop (length zs) (drop (at + length ys) l)) w ∙ (ap (drop (length zs)) (drop_at p d (at + length ys) long)
    ∙ (drop-drop (length zs) (at + length ys) xs ∙ ap (λ n. drop n xs) (omega (arith, length-append ys zs))))) in
    rw (front, back) (append_assoc (take at xs) ys _ ∙ ap (λ l. take at xs ++ l) (sym (append_assoc ys zs _)))

-- it stays as long
pub length-put_at : (xs : List ℕ) (at : ℕ) (ys : List ℕ) → at + length ys ≤ length xs → length (put_at xs at ys) ≡ length xs
length-put_at xs at ys h =
    omega (arith, length-append (take at xs) (ys ++ drop (at + length ys) xs), length-append ys (drop (at + length ys) xs), length-take-le at xs (omega arith), length-drop (at + length ys) xs)

pub cursor_none : (s : Cursor) → CursorFits s 0 → CursorPuts s [] s
cursor_none s fits =
    let e : s.at + 0 ≡ s.at = omega arith in
    record { same_reference = refl; room = fits; bytes = sym (rw e (take-append-drop s.at s.out.now)); place = omega arith }

pub cursor_both : (s t u : Cursor) (xs ys : List ℕ) → CursorPuts s xs t → CursorPuts t ys u → CursorPuts s (xs ++ ys) u
cursor_both s t u xs ys first then =
    let size = length-append xs ys in
    let long = ap length first.bytes ∙ length-put_at s.out.now s.at xs first.room in
    let all : s.at + length (xs ++ ys) ≤ length s.out.now = omega (arith, size, long, first.place, then.room) in
    record {
      same_reference = then.same_reference ∙ first.same_reference;
      room = all;
      bytes = then.bytes ∙ rw (first.bytes, first.place) (put_put s.out.now s.at xs ys first.room);
      place = omega (arith, size, first.place, then.place);
    }

pub cursor_rest : (s t : Cursor) (xs : List ℕ) (n : ℕ) → CursorFits s (length xs + n) → CursorPuts s xs t → CursorFits t n
cursor_rest s t xs n fits so =
    let long = ap length so.bytes ∙ length-put_at s.out.now s.at xs so.room in
    omega (arith, long, so.place)

pub cursor_fewer : (s : Cursor) (m n : ℕ) → m ≤ n → CursorFits s n → CursorFits s m
cursor_fewer s m n h fits = omega arith
