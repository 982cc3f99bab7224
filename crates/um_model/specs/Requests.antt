-- Which request the bytes of a frame are: a table with a row a verb, and how a request is read by its row.
-- No manual page has this: it is the project's own protocol (docs/FORMATS.md, "Requests"); the verbs are those of systemctl(1).
-- Frames and the program depend on this file.
use Rattle.std.specs.Prelude.{ℕ, List, [], ◌∷◌, ◌++◌, Bool, true, false, ◌&&◌, ◌||◌, ◌==◌, nat_le, Option, Some, None, is_some, option_map, option_and_then, if◌then◌else◌, codes, find, Result, Ok, Err}
use Rattle.std.specs.Option.{ok_or, option_map_or}
use Rattle.std.specs.List.{list_any, list_all}
use Rattle.std.specs.Str.{bytes_eq, is_utf8}
use Rattle.serde_json.specs.Data.{Data, Members, no_members, member}
use Rattle.serde_json.specs.Find.{get, as_str, as_bool, as_number, as_object, as_u64}
use Rattle.serde_json.specs.Read.{read}
use Rattle.um_model.specs.Results.{◌and_then◌, result_map}
use Rattle.um_model.specs.Refusals.{Refused, bad_request, unknown_verb, bad_name}
use Rattle.um_model.specs.Moments.{moment_limit, last_of_64_bits}
use Rattle.um_model.specs.Values.{code_limit, signal_limit}
use Rattle.um_model.specs.Names.{suffix_of, is_unit_name}
use Rattle.um_model.specs.Machine.{Event, Commanded, Happened, Happening, Command, PutFile, PutLink, Remove, DaemonReload, ForUnit, Cancel, ResetFailed, Install, ProcessEnded, ProcessExecuted, Tick, Query, Show, IsActive, IsFailed, IsEnabled, Cat, ListUnits, ListJobs}
use Rattle.um_model.specs.declared.commands.JobMode.{JobMode}
use Rattle.um_model.specs.declared.commands.JobMode.TheVariants.{Replace, Fail}
use Rattle.um_model.specs.declared.commands.UnitVerb.{UnitVerb}
use Rattle.um_model.specs.declared.commands.UnitVerb.TheVariants.{Start, Stop, Restart, TryRestart}
use Rattle.um_model.specs.declared.install.InstallVerb.{InstallVerb}
use Rattle.um_model.specs.declared.install.InstallVerb.TheVariants.{Enable, Disable, Mask, Unmask}
use Rattle.um_model.specs.declared.service.End.{End}
use Rattle.um_model.specs.declared.service.End.TheVariants.{Code, Signal, Lost}
use Rattle.um_model.specs.declared.requests.Verb.{Verb}
use Rattle.um_model.specs.declared.requests.Verb.TheVariants as verb
use Rattle.um_model.specs.declared.requests.Mode.{Mode}
use Rattle.um_model.specs.declared.requests.Mode.TheVariants.{Memory, Service}

-- the subject of a request: an event, a query, or the actions
pub data Asked : Type 0 where
  OfEvent : Event → Asked
  OfQuery : Query → Asked
  -- the actions since the last query for them
  OfActions : Asked

-- a request, with its moment if it gives one
pub record Request : Type 0 where
  pub at : Option ℕ
  pub asked : Asked

-- ---- the unit that a text names

-- a name without a suffix is that of a service
abbrev pub completed : List ℕ → List ℕ
completed text = if is_some (suffix_of text) then text else text ++ codes ".service"

-- the unit name that a text means; a text that means none is refused, and the refusal names the text as it was given
abbrev pub name_asked : List ℕ → Result (List ℕ) Refused
name_asked text = if is_unit_name (completed text) then Ok (completed text) else Err (bad_name text)

-- ---- the fields: the value of each, or nothing if it is missing or ill-typed

-- the text of a field, without U+0000, which no text of a request holds
unfoldable pub text_told : List ℕ → Data → Option (List ℕ)
text_told name d = option_and_then (λ text. if list_any (λ b. b == 0) text then None else Some text) (option_and_then as_str (get name d))

-- the whole number that a value is, of at most this size
abbrev pub number_in : ℕ → Data → Option ℕ
number_in limit d = option_and_then (λ n. if nat_le n limit then Some n else None) (option_and_then as_u64 (as_number d))

-- the moment that a request gives, if any: none without a field, and none over a socket
unfoldable pub moment_told : Mode → Data → Option (Option ℕ)
moment_told Memory d = option_map_or (λ at. option_map Some (number_in moment_limit at)) (get (codes "at") d) (Some None)
moment_told Service d = Some None

-- how a process ended, by exactly one of three fields: its exit code, the signal that ended it, or that its end is lost, by true alone
abbrev pub end_by : (code signal lost : Option Data) → Option End
end_by (Some code) None None = option_map Code (number_in code_limit code)
end_by None (Some signal) None = option_map Signal (number_in signal_limit signal)
end_by None None (Some lost) = option_and_then (λ is. if is then Some Lost else None) (as_bool lost)
end_by code signal lost = None

-- the same by the object's fields
unfoldable pub end_told : Data → Option End
end_told d = end_by (get (codes "code") d) (get (codes "signal") d) (get (codes "lost") d)

-- the mode for pending jobs in a command's way, by its word
abbrev pub job_mode_of : List ℕ → Option JobMode
job_mode_of text = if bytes_eq text (codes "replace") then Some Replace else if bytes_eq text (codes "fail") then Some Fail else None

-- the same by the object's field: without it, pending jobs in the way are dropped
unfoldable pub job_mode_told : Data → Option JobMode
job_mode_told d = option_map_or (λ mode. option_and_then job_mode_of (as_str mode)) (get (codes "mode") d) (Some Replace)

-- ---- the requests that they make

-- the request that an object's fields make: nothing if one is missing or ill-typed; a text that names no unit is refused
abbrev pub Asking : Type 0
Asking = Data → Option (Result Asked Refused)

-- this, whatever the fields
abbrev pub plainly : Asked → Asking
plainly asked d = Some (Ok asked)

-- a request for a command
abbrev pub command : Command → Asked
command c = OfEvent (Commanded c)

-- a report that something happened
abbrev pub happened : Happening → Asked
happened h = OfEvent (Happened h)

-- this with the text of a field
abbrev pub with_text : List ℕ → (List ℕ → Asking) → Asking
with_text name asking d = option_and_then (λ text. asking text d) (text_told name d)

-- this with the unit that the text of its field names
unfoldable pub of_unit : (List ℕ → Asked) → Asking
of_unit ask d = option_map (λ text. result_map ask (name_asked text)) (text_told (codes "unit") d)

-- a command for the unit
unfoldable pub for_unit : UnitVerb → Asking
for_unit verb d = option_and_then (λ mode. of_unit (λ unit. command (ForUnit verb unit mode)) d) (job_mode_told d)

-- enabling the unit, or its kin
abbrev pub install : InstallVerb → Asking
install verb = of_unit (λ unit. command (Install verb unit))

-- a query about the unit
abbrev pub about_unit : (List ℕ → Query) → Asking
about_unit query = of_unit (λ unit. OfQuery (query unit))

-- this with the process number in its field
unfoldable pub of_process : (ℕ → Asking) → Asking
of_process asking d = option_and_then (λ number. asking number d) (option_and_then (number_in last_of_64_bits) (get (codes "number") d))

-- ---- the table

-- a row of the table
pub record Row : Type 0 where
  pub text : List ℕ  -- the verb, as it is written
  pub required : List (List ℕ)  -- the fields that it must have
  pub optional : List (List ℕ)  -- those that it may have
  pub asks : Asking  -- the request that they make

-- a row by its columns
abbrev pub columns : List ℕ → (required optional : List (List ℕ)) → Asking → Row
columns text required optional asks = record { text = text; required = required; optional = optional; asks = asks }

-- the row of each verb
abbrev pub row_of : Verb → Row
row_of verb.PutFile = columns (codes "put-file") (codes "path" ∷ codes "text" ∷ []) []
    (with_text (codes "path") λ path. with_text (codes "text") λ text. plainly (command (PutFile path text)))
row_of verb.PutLink = columns (codes "put-link") (codes "path" ∷ codes "target" ∷ []) []
    (with_text (codes "path") λ path. with_text (codes "target") λ target. plainly (command (PutLink path target)))
row_of verb.Remove = columns (codes "remove") (codes "path" ∷ []) [] (with_text (codes "path") λ path. plainly (command (Remove path)))
row_of verb.DaemonReload = columns (codes "daemon-reload") [] [] (plainly (command DaemonReload))
row_of verb.Start = columns (codes "start") (codes "unit" ∷ []) (codes "mode" ∷ []) (for_unit Start)
row_of verb.Stop = columns (codes "stop") (codes "unit" ∷ []) (codes "mode" ∷ []) (for_unit Stop)
row_of verb.Restart = columns (codes "restart") (codes "unit" ∷ []) (codes "mode" ∷ []) (for_unit Restart)
row_of verb.TryRestart = columns (codes "try-restart") (codes "unit" ∷ []) (codes "mode" ∷ []) (for_unit TryRestart)
row_of verb.Cancel = columns (codes "cancel") (codes "unit" ∷ []) [] (of_unit (λ unit. command (Cancel unit)))
row_of verb.ResetFailed = columns (codes "reset-failed") [] (codes "unit" ∷ []) (λ d.
    if is_some (get (codes "unit") d) then of_unit (λ unit. command (ResetFailed (Some unit))) d else plainly (command (ResetFailed None)) d)
row_of verb.Enable = columns (codes "enable") (codes "unit" ∷ []) [] (install Enable)
row_of verb.Disable = columns (codes "disable") (codes "unit" ∷ []) [] (install Disable)
row_of verb.Mask = columns (codes "mask") (codes "unit" ∷ []) [] (install Mask)
row_of verb.Unmask = columns (codes "unmask") (codes "unit" ∷ []) [] (install Unmask)
row_of verb.Show = columns (codes "show") (codes "unit" ∷ []) [] (about_unit Show)
row_of verb.IsActive = columns (codes "is-active") (codes "unit" ∷ []) [] (about_unit IsActive)
row_of verb.IsFailed = columns (codes "is-failed") (codes "unit" ∷ []) [] (about_unit IsFailed)
row_of verb.IsEnabled = columns (codes "is-enabled") (codes "unit" ∷ []) [] (about_unit IsEnabled)
row_of verb.Cat = columns (codes "cat") (codes "unit" ∷ []) [] (about_unit Cat)
row_of verb.ListUnits = columns (codes "list-units") [] [] (plainly (OfQuery ListUnits))
row_of verb.ListJobs = columns (codes "list-jobs") [] [] (plainly (OfQuery ListJobs))
row_of verb.Tick = columns (codes "tick") [] [] (plainly (happened Tick))
row_of verb.End = columns (codes "end") (codes "number" ∷ []) (codes "code" ∷ codes "signal" ∷ codes "lost" ∷ [])
    (of_process λ number d. option_map (λ end. Ok (happened (ProcessEnded number end))) (end_told d))
row_of verb.Executed = columns (codes "executed") (codes "number" ∷ []) [] (of_process λ number. plainly (happened (ProcessExecuted number)))
row_of verb.Actions = columns (codes "actions") [] [] (plainly OfActions)

abbrev pub in_memory : Mode → Bool
in_memory Memory = true
in_memory Service = false

-- the verbs that are known: over standard input those as well by which the processes of units are played
abbrev pub verbs_in : Mode → List Verb
verbs_in mode =
    verb.PutFile ∷ verb.PutLink ∷ verb.Remove ∷ verb.DaemonReload ∷ verb.Start ∷ verb.Stop ∷ verb.Restart ∷ verb.TryRestart ∷ verb.Cancel
    ∷ verb.ResetFailed ∷ verb.Enable ∷ verb.Disable ∷ verb.Mask ∷ verb.Unmask ∷ verb.Show ∷ verb.IsActive ∷ verb.IsFailed ∷ verb.IsEnabled
    ∷ verb.Cat ∷ verb.ListUnits ∷ verb.ListJobs ∷ (if in_memory mode then verb.Tick ∷ verb.End ∷ verb.Executed ∷ verb.Actions ∷ [] else [])

-- ---- a request by its row

-- the verb of this text that is known there
unfoldable pub verb_in : Mode → List ℕ → Option Verb
verb_in mode text = find (λ v. bytes_eq text (row_of v).text) (verbs_in mode)

-- the keys of members, in their order
abbrev pub member_keys : Members → List (List ℕ)
member_keys no_members = []
member_keys (member key value members) = key ∷ member_keys members

-- the keys of an object; one that stands twice in the text counts once, with its last value
abbrev pub keys_at : Data → List (List ℕ)
keys_at d = option_map_or member_keys (as_object d) []

-- one of the texts is this one
abbrev pub is_among : List ℕ → List (List ℕ) → Bool
is_among text texts = list_any (bytes_eq text) texts

-- a request of this row may have this key; a moment is allowed over standard input alone
abbrev pub may_have : Mode → Row → List ℕ → Bool
may_have mode r key = bytes_eq key (codes "verb") || in_memory mode && bytes_eq key (codes "at") || is_among key r.required || is_among key r.optional

-- the object has each required field, and no other than these, the optional ones, the verb and the moment
unfoldable pub has_its_fields : Mode → Row → Data → Bool
has_its_fields mode r d = list_all (may_have mode r) (keys_at d) && list_all (λ name. is_some (get name d)) r.required

-- the request that an object is: its verb first, then its moment and its fields, and last the name of its unit
unfoldable pub request_of_data : Mode → Data → Result Request Refused
request_of_data mode d =
    ok_or (text_told (codes "verb") d) bad_request and_then λ text.
    ok_or (verb_in mode text) (unknown_verb text) and_then λ verb.
    ok_or (moment_told mode d) bad_request and_then λ at.
    ok_or (if has_its_fields mode (row_of verb) d then (row_of verb).asks d else None) bad_request and_then λ named.
    result_map (λ asked. record { at = at; asked = asked }) named

-- the request that the bytes of a frame are; bytes that are no JSON are none
unfoldable pub request_of : Mode → List ℕ → Result Request Refused
request_of mode bytes = ok_or (if is_utf8 bytes then read bytes else None) bad_request and_then request_of_data mode
