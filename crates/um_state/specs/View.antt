-- Inputs, replies, actions and states of the code as those of the definitions.
use Rattle.std.specs.Prelude.{ℕ, map, string_bytes}
use Rattle.um_model.specs.Machine as model
use Rattle.um_model.specs.InputSpellings.{Timed}
use Rattle.um_model.specs.Standing.{Standing}
use Rattle.um_resolve.specs.View.{file_of}
use Rattle.um_unit.specs.View.{warnings_seen}
use Rattle.um_wire.specs.Refusal.{refused_of}
use Rattle.um_state.specs.declared.input.Command.{Command}
use Rattle.um_state.specs.declared.input.Command.TheVariants as command
use Rattle.um_state.specs.declared.input.Happening.{Happening}
use Rattle.um_state.specs.declared.input.Happening.TheVariants as happening
use Rattle.um_state.specs.declared.input.Event.{Event}
use Rattle.um_state.specs.declared.input.Event.TheVariants as event
use Rattle.um_state.specs.declared.input.Input.{Input}
use Rattle.um_state.specs.declared.input.Query.{Query}
use Rattle.um_state.specs.declared.input.Query.TheVariants as query
pub use Rattle.um_service.specs.View.{action_of}
pub use Rattle.um_state.specs.Shown.{job_of, listed_of}
use Rattle.um_state.specs.declared.reply.UnitShown.{UnitShown}
use Rattle.um_state.specs.declared.reply.Reply.{Reply}
use Rattle.um_state.specs.declared.reply.Reply.TheVariants as reply

abbrev pub command_of : Command → model.Command
command_of (command.PutFile path text) = model.PutFile (string_bytes path) (string_bytes text)
command_of (command.PutLink path target) = model.PutLink (string_bytes path) (string_bytes target)
command_of (command.Remove path) = model.Remove (string_bytes path)
command_of command.DaemonReload = model.DaemonReload
command_of (command.ForUnit verb unit mode) = model.ForUnit verb unit mode
command_of (command.Cancel unit) = model.Cancel unit
command_of (command.ResetFailed unit) = model.ResetFailed unit
command_of (command.Install verb unit) = model.Install verb unit

abbrev pub happening_of : Happening → model.Happening
happening_of (happening.ProcessEnded number end) = model.ProcessEnded number end
happening_of (happening.ProcessExecuted number) = model.ProcessExecuted number
happening_of happening.Tick = model.Tick
happening_of (happening.Booted boot) = model.Booted boot

abbrev pub event_of : Event → model.Event
event_of (event.Commanded command) = model.Commanded (command_of command)
event_of (event.Happened happening) = model.Happened (happening_of happening)

abbrev pub input_of : Input → model.Input
input_of i = record { profile = i.profile; moment = i.moment; event = event_of i.event }

-- a moment and the event at it
abbrev pub timed_of : ℕ × Event → Timed
timed_of t = (t.0, event_of t.1)

abbrev pub query_of : Query → model.Query
query_of (query.Show unit) = model.Show unit
query_of (query.IsActive unit) = model.IsActive unit
query_of (query.IsFailed unit) = model.IsFailed unit
query_of (query.Cat unit) = model.Cat unit
query_of (query.IsEnabled unit) = model.IsEnabled unit
query_of query.ListUnits = model.ListUnits
query_of query.ListJobs = model.ListJobs

abbrev pub shown_of : UnitShown → model.UnitShown
shown_of u = record {
  id = string_bytes u.id;
  load = u.load;
  description = string_bytes u.description;
  warnings = warnings_seen u.warnings.value.items;
  state = u.state;
}

abbrev pub reply_of : Reply → model.Reply
reply_of reply.Done = model.Done
reply_of (reply.Shown u) = model.Shown (shown_of u.value)
reply_of (reply.Activity state) = model.Activity state
reply_of (reply.Files files) = model.Files (map file_of files.items)
reply_of (reply.Relinked made removed) = model.Relinked (map string_bytes made.items) (map string_bytes removed.items)
reply_of (reply.EnabledAs answer) = model.EnabledAs answer
reply_of (reply.Listed units) = model.Listed (map listed_of units.items)
reply_of (reply.Jobs jobs) = model.Jobs (map job_of jobs.items)
reply_of (reply.Told actions) = model.Told (map action_of actions.items)
reply_of (reply.Refused r) = model.Refusal (refused_of r)

abbrev pub state_of : Standing → model.State
state_of s = s.state
