-- Requests of the code as the requests of the definitions.
use Rattle.std.specs.Prelude.{ℕ, List, Option, Some, None, Result, Ok, Err}
use Rattle.um_model.specs.Machine.{Happened, PutFile, PutLink, Remove, DaemonReload, ForUnit, Cancel, ResetFailed, Install, ProcessEnded, ProcessExecuted, Tick, Show, IsActive, IsFailed, IsEnabled, Cat, ListUnits, ListJobs}
use Rattle.um_model.specs.Refusals.{Refused, bad_request, unknown_verb}
use Rattle.um_model.specs.Requests as model
use Rattle.um_model.specs.Results.{result_map}
use Rattle.um_state.specs.View.{event_of, query_of}
use Rattle.um_proto.specs.declared.draft.Asking.{Asking}
use Rattle.um_proto.specs.declared.draft.Asking.TheVariants as asking
use Rattle.um_proto.specs.declared.draft.Cause.{Cause}
use Rattle.um_proto.specs.declared.draft.Cause.TheVariants.{BadRequest, UnknownVerb}
use Rattle.um_proto.specs.declared.draft.Draft.{Draft}
use Rattle.um_proto.specs.declared.request.Asked.{Asked}
use Rattle.um_proto.specs.declared.request.Asked.TheVariants as asked
use Rattle.um_proto.specs.declared.request.Request.{Request}

abbrev pub asked_of : Asked → model.Asked
asked_of (asked.Event event) = model.OfEvent (event_of event)
asked_of (asked.Query query) = model.OfQuery (query_of query)
asked_of asked.Actions = model.OfActions

abbrev pub request_of : Request → model.Request
request_of r = record { at = r.at; asked = asked_of r.asked }

-- this request, for the unit that a text names
abbrev pub of_named : (List ℕ → model.Asked) → List ℕ → Result model.Asked Refused
of_named ask unit = result_map ask (model.name_asked unit)

-- the request of the fields, as the texts in the frame have it
abbrev pub asking_of : Asking → Result model.Asked Refused
asking_of (asking.PutFile path text) = Ok (model.command (PutFile path.now text.now))
asking_of (asking.PutLink path target) = Ok (model.command (PutLink path.now target.now))
asking_of (asking.Remove path) = Ok (model.command (Remove path.now))
asking_of asking.DaemonReload = Ok (model.command DaemonReload)
asking_of (asking.ForUnit verb unit mode) = of_named (λ u. model.command (ForUnit verb u mode)) unit.now
asking_of (asking.Cancel unit) = of_named (λ u. model.command (Cancel u)) unit.now
asking_of (asking.ResetFailed None) = Ok (model.command (ResetFailed None))
asking_of (asking.ResetFailed (Some unit)) = of_named (λ u. model.command (ResetFailed (Some u))) unit.now
asking_of (asking.Install verb unit) = of_named (λ u. model.command (Install verb u)) unit.now
asking_of (asking.Show unit) = of_named (λ u. model.OfQuery (Show u)) unit.now
asking_of (asking.IsActive unit) = of_named (λ u. model.OfQuery (IsActive u)) unit.now
asking_of (asking.IsFailed unit) = of_named (λ u. model.OfQuery (IsFailed u)) unit.now
asking_of (asking.Cat unit) = of_named (λ u. model.OfQuery (Cat u)) unit.now
asking_of (asking.IsEnabled unit) = of_named (λ u. model.OfQuery (IsEnabled u)) unit.now
asking_of asking.ListUnits = Ok (model.OfQuery ListUnits)
asking_of asking.ListJobs = Ok (model.OfQuery ListJobs)
asking_of asking.Tick = Ok (model.OfEvent (Happened Tick))
asking_of (asking.ProcessEnded number end) = Ok (model.OfEvent (Happened (ProcessEnded number end)))
asking_of (asking.ProcessExecuted number) = Ok (model.OfEvent (Happened (ProcessExecuted number)))
asking_of asking.Actions = Ok model.OfActions

-- a request at that moment, if one is given
abbrev pub request_at : Option ℕ → model.Asked → model.Request
request_at at asked = record { at = at; asked = asked }

-- the request of a draft, once its unit is named
abbrev pub request_drafted : Draft → Result model.Request Refused
request_drafted draft = result_map (request_at draft.at) (asking_of draft.asking)

-- the refusal for a cause
abbrev pub refused_for : Cause → Refused
refused_for BadRequest = bad_request
refused_for (UnknownVerb text) = unknown_verb text.now

-- the request of a draft, or the refusal for the cause why there is none
abbrev pub leads_to : Result Draft Cause → Result model.Request Refused
leads_to (Ok draft) = request_drafted draft
leads_to (Err cause) = Err (refused_for cause)
