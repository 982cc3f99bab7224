-- The action that a receipt hands out, as an action of the definitions.
-- No manual page has this: receipts are the project's own.
-- Receipts and the running manager stand on this file.
use Rattle.std.specs.Prelude.{◌≡◌, ◌∷◌, [], List, Option, Some, None}
use Rattle.um_model.specs.Children.{spawn_action}
use Rattle.um_model.specs.Service.{Action, SendSignal}
use Rattle.um_keeper.specs.declared.receipt.Handed.{Handed}
use Rattle.um_keeper.specs.declared.receipt.Handed.TheVariants as handed

-- an action as it is handed out
abbrev pub handed_of : Handed → Action
handed_of (handed.Spawn order) = spawn_action order
handed_of (handed.Signal number signal) = SendSignal number signal

-- the first action is handed out and the others are left; none only where there was none
abbrev pub Hands : List Action → Option Handed → List Action → Type 0
Hands old None new = (old ≡ []) × (new ≡ [])
Hands old (Some given) new = old ≡ handed_of given ∷ new
