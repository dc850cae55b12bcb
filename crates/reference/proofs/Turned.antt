-- What a turn comes to, by the turn that was read. Assumes nothing.
use Rattle.std.proofs.Common.{◌≡◌, ℕ, List, Ok, Err, Option, Result, sym, subst}
use Rattle.std.specs.Result.{IsErrAnd}
use Rattle.codec.specs.declared.edits.Edit.{Edit}
use Rattle.codec.specs.declared.edits.Turn.{Turn as Read}
use Rattle.codec.specs.declared.edits.Turn.TheVariants.{Does}
use Rattle.codec.specs.declared.edits.Refusal.{Refusal}
use Rattle.codec.specs.Meaning.{edit_of}
use Rattle.codec.specs.Laws.{EditBytes, Taken}
use Rattle.words.specs.declared.taking.Fault.{Fault}
use Rattle.words.specs.declared.taking.Fault.TheVariants.{NoMemory}
use Rattle.reference.specs.declared.state.Engine.{Engine}
use Rattle.reference.specs.Turning.{history, Steps, TurnedBy}

pub taken_edit : (bs : List ℕ) (a : Option Refusal) (t : Read) (e : Edit) → t ≡ Does e → Taken bs a t → EditBytes bs (edit_of bs e)
taken_edit bs a t e is k =
    let taken : Taken bs a (Does e) = subst (Taken bs a) is k in
    record { fits = taken.fits; is_built = taken.is_built; is = taken.is }

-- want of memory, as `?` hands it on
pub no_memory_by : (bs : List ℕ) (s s' : Engine) (t : Read) (r : Result (Unit {0}) Fault) → IsErrAnd r (λ f. f ≡ NoMemory) → Steps s (history s) s' → TurnedBy bs (Ok t) s s' r
no_memory_by bs s s' t (Ok u) none st = absurd none
no_memory_by bs s s' t (Err f) is st = subst (λ g. TurnedBy bs (Ok t) s s' (Err g)) (sym is) st
