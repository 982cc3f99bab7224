-- The answers of a store that refuses all inputs of a list.
-- No manual page has it: it is the project's own protocol (docs/FORMATS.md, "Refusals").
-- The turn of the manager and its opening stand on this file.
use Rattle.std.specs.Prelude.{◌≡◌, ◌≢◌, List, Bool, Result, Ok, Err}
use Rattle.um_model.specs.Machine.{Input, Reply}
use Rattle.um_wire.specs.declared.refusal.Refusal.{Refusal}
use Rattle.um_wire.specs.declared.refusal.Refusal.TheVariants as refusal
use Rattle.um_manager.specs.Places.{Place}
use Rattle.um_manager.specs.Turns.{Now, Submitted}
use Rattle.um_manager.specs.declared.submitting.StoreFault.{StoreFault}
use Rattle.um_manager.specs.declared.submitting.StoreFault.TheVariants as fault

abbrev pub refusal_of : StoreFault → Refusal
refusal_of fault.NoMemory = refusal.NoMemory
refusal_of fault.Reopen = refusal.Reopen

-- want of memory for all is that for each, and no refusal of the store
abbrev pub StoreAnswers : StoreFault → Result Unit Refusal → Type 0
StoreAnswers fault.NoMemory result = result ≡ Ok tt
StoreAnswers fault.Reopen result = result ≡ Err refusal.Reopen

-- the inputs were offered; want of memory is reported of single inputs alone
abbrev pub Submits : Place → Result Unit Refusal → List Input → List Reply → (honest whole : Bool) → Now → Now → Type 0
Submits place result inputs replies honest whole a b = (result ≢ Err refusal.NoMemory) × Submitted place result inputs replies honest whole a b
