-- The blank page is well formed, and edits keep a page so. Assumes nothing.
use Rattle.std.proofs.Common.{◌≡◌, ℕ, zero, suc, ◌-◌, ◌<◌, ◌≤◌, ◌&&◌, ltb, List, [], ◌∷◌, length, refl, ap, arith, length-set}
use Rattle.std.proofs.lemmas.Bool.{ltb-true, cond_both}
use Rattle.page.specs.Layers.{Layer, clear_layer, put_in, without}
use Rattle.page.specs.Edits.{Page, Edit, edited, after, active_layer, with_layers, with_layer, merged_layer, add_layer, drop_layer, choose_layer, raise_layer, set_mode, set_opacity, set_visible, merge_down, select_all, select_rect, select_similar, select_inverse, fill, stroke, apply_filter, copy, paste}
use Rattle.page.specs.Agree.{Formed, WellFormed}

length-put_in : (k : ℕ) (l : Layer) (ls : List Layer) → length (put_in k l ls) ≡ suc (length ls)
length-put_in zero l ls = refl
length-put_in (suc k) l [] = refl
length-put_in (suc k) l (m ∷ ms) = ap suc (length-put_in k l ms)

length_without : (k : ℕ) (ls : List Layer) → k < length ls → suc (length (without k ls)) ≡ length ls
length_without k [] h = omega arith
length_without zero (l ∷ ls) h = refl
length_without (suc k) (l ∷ ls) h = ap suc (length_without k ls (omega arith))

-- another active layer of as many
with_formed : (p : Page) (ls : List Layer) (k : ℕ) → k < length ls → length ls ≤ 64 → Formed (with_layers p ls k)
with_formed p ls k h few = record { active_there = h; few_layers = few }

layer_formed : (p : Page) (l : Layer) → Formed p → Formed (with_layer p l)
layer_formed p l f = let n = length-set p.layers p.active l in with_formed p _ _ (omega arith) (omega arith)

pub edits_form : (p : Page) (e : Edit) → Formed p → Formed (edited p e)
edits_form p add_layer f =
    cond_both (ltb (length p.layers) 64) _ p Formed
    (λ e. let few = ltb-true (length p.layers) 64 e in let n = length-put_in (suc p.active) clear_layer p.layers in with_formed p _ _ (omega arith) (omega arith)) (λ _. f)
edits_form p drop_layer f =
    cond_both (ltb 1 (length p.layers)) _ p Formed
    (λ e. let more = ltb-true 1 (length p.layers) e in let n = length_without p.active p.layers f.active_there in with_formed p _ _ (omega arith) (omega arith)) (λ _. f)
edits_form p (choose_layer k) f =
    cond_both (ltb k (length p.layers)) _ p Formed (λ e. with_formed p _ _ (ltb-true k (length p.layers) e) f.few_layers) (λ _. f)
edits_form p raise_layer f =
    cond_both (ltb (suc p.active) (length p.layers)) _ p Formed
    (λ e. let more = ltb-true (suc p.active) (length p.layers) e in
    let n = length_without p.active p.layers f.active_there in
    let m = length-put_in (suc p.active) (active_layer p) (without p.active p.layers) in with_formed p _ _ (omega arith) (omega arith)) (λ _. f)
edits_form p (set_mode m) f = cond_both (ltb m 6) _ p Formed (λ _. layer_formed p _ f) (λ _. f)
edits_form p (set_opacity a) f = cond_both (ltb a 256) _ p Formed (λ _. layer_formed p _ f) (λ _. f)
edits_form p (set_visible b) f = layer_formed p _ f
edits_form p merge_down f =
    cond_both (ltb 0 p.active) _ p Formed
    (λ e. let more = ltb-true 0 p.active e in
    let n = length_without p.active p.layers f.active_there in
    let m = length-set (without p.active p.layers) (p.active - 1) (merged_layer p) in with_formed p _ _ (omega arith) (omega arith)) (λ _. f)
edits_form p select_all f = record { active_there = f.active_there; few_layers = f.few_layers }
edits_form p (select_rect x y w h) f = record { active_there = f.active_there; few_layers = f.few_layers }
edits_form p (select_similar n x y) f =
    cond_both (ltb x p.wide && ltb y p.high) _ p Formed (λ _. record { active_there = f.active_there; few_layers = f.few_layers }) (λ _. f)
edits_form p select_inverse f = record { active_there = f.active_there; few_layers = f.few_layers }
edits_form p (fill d) f = layer_formed p _ f
edits_form p (stroke d r ats) f = layer_formed p _ f
edits_form p (apply_filter g) f = layer_formed p _ f
edits_form p copy f = record { active_there = f.active_there; few_layers = f.few_layers }
edits_form p (paste x y) f = layer_formed p _ f

rows_form : (p : Page) (es : List Edit) → Formed p → Formed (after p es)
rows_form p [] f = f
rows_form p (e ∷ es) f = rows_form (edited p e) es (edits_form p e f)

pub well_formed : WellFormed
well_formed = record { blank_formed = λ w h. record { active_there = omega arith; few_layers = omega arith }; edits_form = edits_form; rows_form = rows_form }
