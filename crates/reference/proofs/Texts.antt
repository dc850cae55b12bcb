-- The text of an engine's edits, piece after piece; and what is printed of its page. Assumes nothing.
use Rattle.std.proofs.Common.{◌≡◌, ℕ, ◌*◌, ◌<◌, ◌≤◌, ◌&&◌, List, [], ◌++◌, length, take, drop, Ok, vec_items, codes, sym, ap, ◌∙◌, ap₂, arith}
use Rattle.std.specs.List.{flat_map}
use Rattle.pixel.specs.declared.sizes.Size.{Size}
use Rattle.codec.specs.declared.edits.Edit.{Edit}
use Rattle.std.proofs.lemmas.Bool.{lt-ltb, le-leb, cond-true}
use Rattle.page.specs.Edits.{seen}
use Rattle.canvas.specs.declared.state.Canvas.{Canvas}
use Rattle.words.specs.declared.showing.Format.{Format}
use Rattle.words.specs.Printing.{printed}
use Rattle.words.proofs.Pieces.{both_added, printed_same}
use Rattle.reference.specs.declared.state.Engine.{Engine}
use Rattle.reference.specs.Lists.{meanings}
use Rattle.reference.specs.Making.{seen_at}
use Rattle.reference.specs.Turning.{Remade, page_of}
use Rattle.reference.specs.Shown.{or_white, edit_line, edits_text}
use Rattle.page.proofs.Undo.{done_in_order}

pub text_pieces :
    (s : Engine) (none one two last bs : List ℕ) (ds us : List Edit) → none ≡ [] → bs ≡ vec_items s.bytes → ds ≡ take s.done (vec_items s.edits) → us ≡ drop s.done (vec_items s.edits) →
    one ≡ none ++ flat_map edit_line (meanings bs ds) → two ≡ one ++ codes "undone\n" → last ≡ two ++ flat_map edit_line (meanings bs us) → last ≡ edits_text s
text_pieces s none one two last bs ds us n b d u p q r =
    both_added one two last (codes "undone\n") _ q r ∙ ap (λ l. l ++ (codes "undone\n" ++ flat_map edit_line (meanings bs us))) p
    ∙ rw (n, b, d, u) (ap (λ es. flat_map edit_line es ++ (codes "undone\n" ++ flat_map edit_line (meanings (vec_items s.bytes) (drop s.done (vec_items s.edits))))) (sym (done_in_order (meanings (vec_items s.bytes) (take s.done (vec_items s.edits))))))

-- the page that was made anew is printed as the page of the history
pub prints_page :
    (s : Engine) (format : Format) (xs ys zs : List ℕ) (c : Canvas) → Remade s xs ys (Ok c) → zs ≡ ys →
    printed format s.size.wide s.size.high (λ x y. or_white (seen_at c zs x y)) ≡ printed format s.size.wide s.size.high (seen (page_of s))
prints_page s format xs ys zs c m same = printed_same format s.size.wide s.size.high (λ x y. or_white (seen_at c zs x y)) (seen (page_of s)) at
  where
    room : 544 * (c.size.wide * c.size.high) ≤ length ys
    room = omega (arith, m.0, m.1.long, ap (λ (z : Size). z.wide * z.high) m.1.size_is)

    at : (x y : ℕ) → x < s.size.wide → y < s.size.high → or_white (seen_at c zs x y) ≡ seen (page_of s) x y
    at x y k l =
        let inside = ap₂ ◌&&◌ (ap₂ ◌&&◌ (lt-ltb x c.size.wide (omega (arith, ap (λ (z : Size). z.wide) m.1.size_is))) (lt-ltb y c.size.high (omega (arith, ap (λ (z : Size). z.high) m.1.size_is)))) (le-leb (544 * (c.size.wide * c.size.high)) (length ys) room) in
        ap (λ l. or_white (seen_at c l x y)) same ∙ (ap or_white (cond-true _ _ _ inside) ∙ m.1.shows x y k l)
