-- Why a program stops, and the status that it ends with. Assumes nothing.
use Rattle.std.specs.Prelude.{◌≡◌, ℕ, Bool, true, false, Ok, Err, Result, ⊤}
use Rattle.words.specs.declared.taking.Fault.{Fault}
use Rattle.words.specs.declared.taking.Fault.TheVariants.{Refused as IsRefused, NoMemory}
use Rattle.words.specs.declared.programs.Stop.{Stop}
use Rattle.words.specs.declared.programs.Stop.TheVariants.{Refused, Failed}

-- nothing was refused
abbrev pub HasFailed : Stop → Type 0
HasFailed (Refused why) = ⊥
HasFailed (Failed fault) = ⊤

-- what a fault makes a program stop by
abbrev pub StopsBy : Fault → Stop → Type 0
StopsBy (IsRefused why) stop = stop ≡ Refused why
StopsBy NoMemory stop = HasFailed stop

-- 0 where nothing was left out
abbrev pub status : Result Bool Stop → ℕ
status (Ok true) = 0
status (Ok false) = 1
status (Err why) = 1
