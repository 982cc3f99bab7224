-- The text of a reply: compact JSON with its keys in ascending order.
-- No manual page has this: it is the project's own protocol (docs/FORMATS.md, "Replies"); the properties in `show` have their names from systemctl(1).
-- Frames and the program depend on this file.
use Rattle.std.specs.Prelude.{ℕ, ◌^◌, Bool, List, [], ◌∷◌, true, false, nat_le, if◌then◌else◌, map, codes, length, unwrap_or}
use Rattle.serde_json.specs.Data.{Data, boolean, number, unsigned, string, array, object, member, no_members}
use Rattle.serde_json.specs.View.{items_of}
use Rattle.serde_json.specs.Written.{compact_text}
use Rattle.um_model.specs.Refusals.{Refused, too_large}
use Rattle.um_model.specs.Service.{sub_state_text, active_state_of, active_state_text, result_text, Action, SpawnProcess, SendSignal}
use Rattle.um_model.specs.declared.service.Signal.{Signal}
use Rattle.um_model.specs.declared.service.Signal.TheVariants.{Term, Kill}
use Rattle.um_model.specs.Syntax.{warning_number}
use Rattle.um_model.specs.Units.{Warning, load_state_text}
use Rattle.um_model.specs.Install.{enabling_text}
use Rattle.um_model.specs.Jobs.{job_kind_text, job_state_text}
use Rattle.um_model.specs.Machine.{Reply, Done, Shown, Activity, Files, Relinked, EnabledAs, Listed, Jobs, Told, Refusal, UnitShown}
use Rattle.um_model.specs.declared.refusals.Limit.TheVariants.{Reply as ReplyLimit}

abbrev pub number_data : ℕ → Data
number_data n = number (unsigned n)

-- a list, each of its values written so
abbrev pub list_data : {A : Type 0} → (A → Data) → List A → Data
list_data written values = array (items_of (map written values))

abbrev pub texts_data : List (List ℕ) → Data
texts_data = list_data string

-- a warning: its number, the path of its file and its line
abbrev pub warning_data : Warning → Data
warning_data w = array (items_of (number_data (warning_number w.kind) ∷ string w.path ∷ number_data w.line ∷ []))

-- the properties of a unit for `show`; the main number is 0 if there is no main process
abbrev pub shown_data : UnitShown → Data
shown_data u =
    object (member (codes "ActiveState") (string (active_state_text (active_state_of u.state.sub)))
    (member (codes "Description") (string u.description)
    (member (codes "Id") (string u.id)
    (member (codes "LoadState") (string (load_state_text u.load))
    (member (codes "MainNumber") (number_data (unwrap_or u.state.main 0))
    (member (codes "Result") (string (result_text u.state.result))
    (member (codes "SubState") (string (sub_state_text u.state.sub))
    (member (codes "Warnings") (list_data warning_data u.warnings) no_members))))))))

abbrev pub signal_text : Signal → List ℕ
signal_text Term = codes "TERM"
signal_text Kill = codes "KILL"

-- an action: a start with its words, or a signal
abbrev pub action_data : Action → Data
action_data (SpawnProcess n words environment) = array (items_of (string (codes "spawn") ∷ number_data n ∷ texts_data words ∷ []))
action_data (SendSignal n signal) = array (items_of (string (codes "signal") ∷ number_data n ∷ string (signal_text signal) ∷ []))

-- a reply with a value
abbrev pub valued : Data → Data
valued value = object (member (codes "ok") (boolean true) (member (codes "value") value no_members))

abbrev pub refused_data : Refused → Data
refused_data r =
    object (member (codes "detail") (texts_data r.detail) (member (codes "error") (number_data r.number) (member (codes "ok") (boolean false) no_members)))

-- a file is shown by path and text, a unit by name, active state and sub state, a job by its unit, what it does and how far it is
abbrev pub reply_data : Reply → Data
reply_data Done = object (member (codes "ok") (boolean true) no_members)
reply_data (Shown u) = valued (shown_data u)
reply_data (Activity state) = valued (string (active_state_text state))
reply_data (Files files) = valued (list_data (λ f. texts_data (f.path ∷ f.text ∷ [])) files)
reply_data (Relinked made removed) = valued (object (member (codes "made") (texts_data made) (member (codes "removed") (texts_data removed) no_members)))
reply_data (EnabledAs answer) = valued (string (enabling_text answer))
reply_data (Listed units) = valued (list_data (λ u. texts_data (u.unit ∷ active_state_text (active_state_of u.sub) ∷ sub_state_text u.sub ∷ [])) units)
reply_data (Jobs jobs) = valued (list_data (λ j. texts_data (j.unit ∷ job_kind_text j.kind ∷ job_state_text j.state ∷ [])) jobs)
reply_data (Told actions) = valued (list_data action_data actions)
reply_data (Refusal r) = refused_data r

-- the longest text of a reply, in bytes
abbrev pub reply_limit : ℕ
reply_limit = 2 ^ 24

-- the reply is given in full: its text isn't too long
unfoldable pub is_told_whole : Reply → Bool
is_told_whole reply = nat_le (length (compact_text (reply_data reply))) reply_limit

-- the text of a reply; one that would be too long is refused instead
unfoldable pub reply_text : Reply → List ℕ
unfolding is_told_whole
reply_text reply = compact_text (if is_told_whole reply then reply_data reply else refused_data (too_large ReplyLimit))
