-- An image that a crash leaves while the store is written is a store of the state before or of the state after.
use Rattle.std.specs.Prelude.{◌⊎◌, ℕ, List}
use Rattle.std.proofs.Common.{inl, inr}
use Rattle.um_model.specs.Disk.{Image}
use Rattle.um_model.specs.InputSpellings.{input_spelling, FitInput}
use Rattle.um_model.specs.Machine.{State, Input, Reply, Step}
use Rattle.um_model.specs.Service.{Action}
use Rattle.um_model.specs.Stands.{IsStoreOf}
use Rattle.um_model.specs.Store.{body_limit}
use Rattle.um_model.specs.declared.layout.Layout.{Layout}
use Rattle.um_model.specs.declared.layout.Slot.{Slot}
use Rattle.um_laws.proofs.StandsLaws.{ComesTo, store_of, one_more}
use Rattle.um_log.specs.Appending.{EitherRecord}

-- ---- images that a crash leaves meanwhile

-- While a record is written the image is a store of the state before the step or of that after it.
pub either_state : {layout : Layout} {image : Image} {slot : Slot} {newest : ℕ} {body : List ℕ} {records : List (List ℕ)} {start : State} {inputs : List Input} {s t : State} {input : Input} {reply : Reply}
    {actions : List Action} → ComesTo (body_limit layout) body records start inputs s → FitInput input → Step (body_limit layout) s input reply actions t
    → EitherRecord layout slot newest body records (input_spelling input) image → IsStoreOf layout image s ⊎ IsStoreOf layout image t
either_state comes fit step (inl kept) = inl (store_of kept comes)
either_state comes fit step (inr done) = inr (one_more done comes fit step)
