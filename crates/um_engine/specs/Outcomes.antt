-- The outcome of a command before any job begins: the state after it, the reply and the actions.
-- Follows no manual page: it is how the engine passes on a command's outcome.
-- Commands stand on this file.
use Rattle.std.specs.Prelude.{◌≡◌, ℕ, List, []}
use Rattle.um_model.specs.Machine as model
use Rattle.um_model.specs.Service.{Action}
use Rattle.um_state.specs.View.{state_of, reply_of}
use Rattle.um_engine.specs.Engine.{AreTrees}
use Rattle.um_engine.specs.Served.{ServedView, WorksOn}
use Rattle.um_engine.specs.declared.commands.Outcome.{Outcome}
use Rattle.um_engine.specs.declared.commands.Outcome.TheVariants.{Rows, Tables}

abbrev pub state_by : Outcome → model.State
state_by (Rows work) = state_of work.now
state_by (Tables served reply trees) = served.state

abbrev pub reply_by : Outcome → model.Reply
reply_by (Rows work) = model.Done
reply_by (Tables served reply trees) = reply_of reply

abbrev pub actions_by : Outcome → List Action
actions_by (Rows work) = work.actions
actions_by (Tables served reply trees) = []

-- work in rows goes over the served value, at the moment; with tables, the statement of `Trees` about the trees is true
abbrev pub IsBasedOn : ServedView → ℕ → Outcome → Type 0
IsBasedOn v t (Rows work) = WorksOn v work × (work.moment ≡ t)
IsBasedOn v t (Tables served reply trees) = AreTrees trees v.state served.state

-- the reply is Done, and there are no actions yet
pub record IsSilent (o : Outcome) : Type 0 where
  pub reply : reply_by o ≡ model.Done
  pub actions : actions_by o ≡ []
