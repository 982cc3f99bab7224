-- The values of a file, a unit, a job and the paths of an install, each by itself, and the text of warnings.
-- Follows the definition of a reply's text, which has them in place.
-- Writing replies stands on this file.
use Rattle.std.specs.Prelude.{◌≡◌, ℕ, List, [], ◌∷◌, ◌++◌, Option, Some, None, false, Vec, codes, decimal}
use Rattle.std.specs.declared.alloc.Global.{Global}
use Rattle.std.specs.List.{flat_map}
use Rattle.serde_json.specs.Data.{Data, object, member, no_members}
use Rattle.serde_json.specs.Written.{compact_text}
use Rattle.um_model.specs.Jobs.{JobShown, job_kind_text, job_state_text}
use Rattle.um_model.specs.Machine.{Reply, Shown, UnitListed, UnitShown}
use Rattle.um_model.specs.Replies.{texts_data, warning_data, reply_data, is_told_whole}
use Rattle.um_model.specs.Resolution.{UnitFile}
use Rattle.um_model.specs.Syntax.{warning_number}
use Rattle.um_model.specs.Units as model
use Rattle.um_model.specs.Service.{Action, SpawnProcess, SendSignal, active_state_of, active_state_text, sub_state_text}
use Rattle.um_unit.specs.declared.warnings.Warning.{Warning}

-- a file: its path and its text
abbrev pub file_data : UnitFile → Data
file_data file = texts_data (file.path ∷ file.text ∷ [])

-- the paths that were made and removed
abbrev pub relinked_data : (made removed : List (List ℕ)) → Data
relinked_data made removed = object (member (codes "made") (texts_data made) (member (codes "removed") (texts_data removed) no_members))

-- a known unit: its name, its active state and its sub state
abbrev pub unit_data : UnitListed → Data
unit_data u = texts_data (u.unit ∷ active_state_text (active_state_of u.sub) ∷ sub_state_text u.sub ∷ [])

-- a pending job: its unit, its action, and its progress
abbrev pub job_data : JobShown → Data
job_data j = texts_data (j.unit ∷ job_kind_text j.kind ∷ job_state_text j.state ∷ [])

-- the words of an action
abbrev pub words_told : Action → List (List ℕ)
words_told (SpawnProcess number words environment) = words
words_told (SendSignal number signal) = []

-- a shown unit without its warnings
abbrev pub without_warnings : UnitShown → UnitShown
without_warnings u = record u { warnings = [] }

-- a reply without the warnings of the unit that it shows
abbrev pub unwarned : Reply → Reply
unwarned (Shown u) = Shown (without_warnings u)
unwarned reply = reply

-- a warning of the code as text, and a comma, given the JSON text of its path; 91, 44 and 93 are the bytes of [ , ]
abbrev pub warning_behind : List ℕ → Warning → List ℕ
warning_behind path w = 91 ∷ (decimal (warning_number w.kind) ++ 44 ∷ (path ++ 44 ∷ (decimal w.line ++ 93 ∷ 44 ∷ [])))

-- these warnings as text, a comma after each
abbrev pub warnings_text : List model.Warning → List ℕ
warnings_text = flat_map (λ w. compact_text (warning_data w) ++ 44 ∷ [])

-- the reply's own text; `None` only if that is too long
abbrev pub IsOwnText : Reply → Option (Vec ℕ Global) → Type 0
IsOwnText reply None = is_told_whole reply ≡ false
IsOwnText reply (Some text) = text.items ≡ compact_text (reply_data reply)
