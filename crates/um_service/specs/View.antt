-- The orders to a unit's processes, as those of the definitions.
use Rattle.std.specs.Prelude.{◌≡◌, ◌<◌}
use Rattle.um_model.specs.Moments.{process_limit}
use Rattle.um_model.specs.Service as service
use Rattle.um_model.specs.Transitions.{spawned}
use Rattle.um_model.specs.declared.transition.Around.{Around}
use Rattle.um_model.specs.declared.transition.Order.{Order}
use Rattle.um_service.specs.declared.actions.Action.{Action}
use Rattle.um_service.specs.declared.actions.Action.TheVariants as action

-- if the order starts a process, there is a number left
abbrev pub HasRoom : Around → Order → Type 0
HasRoom c o = spawned o ≡ 1 → c.next < process_limit

abbrev pub action_of : Action → service.Action
action_of (action.Spawn number start) = service.SpawnProcess number start.words start.environment
action_of (action.Signal number signal) = service.SendSignal number signal
