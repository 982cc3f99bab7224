-- The result of a call that can be refused, beside the result of the definitions.
use Rattle.std.specs.Prelude.{◌≡◌, ◌≢◌, Result, Ok, Err}
use Rattle.um_model.specs.Refusals.{Refused}
use Rattle.um_wire.specs.Refusal.{refused_of}
use Rattle.um_wire.specs.declared.refusal.Refusal.{Refusal}
use Rattle.um_wire.specs.declared.refusal.Refusal.TheVariants.{NoMemory}

-- the result is the defined one, and so is the refusal; or an allocation failed
abbrev pub Gives : {X Y : Type 0} → (X → Y) → Result X Refusal → Result Y Refused → Type 0
Gives view (Ok x) defined = defined ≡ Ok (view x)
Gives view (Err e) defined = ¬ (e ≡ NoMemory) → defined ≡ Err (refused_of e)

-- the call passes and no refusal has a cause, or it is refused for one that has; or an allocation failed
abbrev pub RefusesBy : {X : Type 0} → (Refused → Type 0) → Result X Refusal → Type 0
RefusesBy Cause (Ok done) = (r : Refused) → ¬ Cause r
RefusesBy Cause (Err e) = (e ≢ NoMemory) → Cause (refused_of e)
