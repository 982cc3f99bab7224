-- The state of a unit, as a person reads it: from replies, a pid, and the line that records the last process's end.
-- No manual page has this: it is the project's own (docs/FORMATS.md, "The program").
-- The text that `umd status` prints, and the standing that `umd ctl --wait` waits for, stand on this file.
use Rattle.std.specs.Prelude.{◌≡◌, ◌≢◌, ◌<◌, ◌⊎◌, ℕ, ◌-◌, ◌*◌, ◌/◌, ◌^◌, List, [], ◌∷◌, ◌++◌, Bool, false, ◌&&◌, ◌||◌, not, max, ◌==◌}
use Rattle.std.specs.Prelude.{Option, Some, None, codes, decimal, find, flat_map, fold, if◌then◌else◌, length, option_and_then, replicate, pos}
use Rattle.std.specs.List.{list_any}
use Rattle.std.specs.Option.{option_map_or}
use Rattle.std.specs.Str.{bytes_eq}
use Rattle.jiff.specs.Words.{IsTimestampNanos, civil_nanos, iso_datetime_text}
use Rattle.jiff.specs.Types.{DateTime}
use Rattle.serde_json.specs.Data.{Data}
use Rattle.serde_json.specs.Find.{as_number, as_str, as_u64, at, get}
use Rattle.um_model.specs.Bytes.{◌>>=◌}
use Rattle.um_model.specs.Requests.{is_among}
use Rattle.um_model.specs.Syntax.{warning_number}
use Rattle.um_model.specs.Text.{is_empty}
use Rattle.um_model.specs.declared.warnings.WarningKind.{WarningKind}
use Rattle.um_model.specs.declared.warnings.WarningKind.TheVariants as warning
use Rattle.um_sentences.specs.Sentences.{warning_sentence}
use Rattle.um_status.specs.declared.ends.LastEnd.{LastEnd}
use Rattle.um_status.specs.declared.standing.Goal.{Goal}
use Rattle.um_status.specs.declared.standing.Goal.TheVariants.{Up, Down}
use Rattle.um_status.specs.declared.standing.Standing.{Standing}
use Rattle.um_status.specs.declared.standing.Standing.TheVariants.{Moving, Runs, Reached, Missed}

-- ---- the reply to `show`

-- the unit in the reply: its own name, whether it is loaded, its two states, its result and its main process's number
pub record UnitShown : Type 0 where
  pub id : List ℕ
  pub loaded : List ℕ
  pub active : List ℕ
  pub sub : List ℕ
  pub result : List ℕ
  pub number : ℕ

-- the text of a field
abbrev pub text_at : List ℕ → Data → Option (List ℕ)
text_at key d = option_and_then as_str (get key d)

-- the number of a field
abbrev pub number_at : List ℕ → Data → Option ℕ
number_at key d = option_and_then as_u64 (option_and_then as_number (get key d))

-- the unit of the value; none if it is no unit's
unfoldable pub unit_shown : Data → Option UnitShown
unit_shown d = do
  id ← text_at (codes "Id") d
  loaded ← text_at (codes "LoadState") d
  active ← text_at (codes "ActiveState") d
  sub ← text_at (codes "SubState") d
  result ← text_at (codes "Result") d
  number ← number_at (codes "MainNumber") d
  Some (record { id = id; loaded = loaded; active = active; sub = sub; result = result; number = number })

-- ---- the reply to `list-jobs`

-- the text at a place of a list
abbrev pub text_in : ℕ → Data → Option (List ℕ)
text_in place d = option_and_then as_str (at place d)

-- the job is one of the unit of this name
abbrev pub is_job_of : List ℕ → Data → Bool
is_job_of id d = option_map_or (λ unit. bytes_eq unit id) (text_in 0 d) false

-- a job in words, as `start running`
unfoldable pub job_words : Data → Option (List ℕ)
job_words d = do
  kind ← text_in 1 d
  state ← text_in 2 d
  Some (kind ++ (codes " " ++ state))

-- jobs in words, with one more
abbrev pub with_words : List ℕ → Option (List ℕ) → List ℕ
with_words text None = text
with_words text (Some words) = if is_empty text then words else text ++ (codes ", " ++ words)

-- jobs in words, with one more job if it is the unit's
abbrev pub with_job : List ℕ → List ℕ → Data → List ℕ
with_job id text d = if is_job_of id d then with_words text (job_words d) else text

-- the unit's jobs in words
abbrev pub jobs_words : List ℕ → List Data → List ℕ
jobs_words id jobs = fold (with_job id) [] jobs

-- a job of the unit is pending
abbrev pub has_job : List ℕ → List Data → Bool
has_job id jobs = list_any (is_job_of id) jobs

-- ---- the standing that is waited for

-- in these sub states a unit starts or stops
abbrev pub moving_states : List (List ℕ)
moving_states = codes "start" ∷ codes "start-pre" ∷ codes "stop" ∷ codes "stop-sigterm" ∷ codes "stop-sigkill" ∷ []

-- a unit that is to be up is active, or it has ended with success
abbrev pub standing_up : UnitShown → Standing
standing_up s =
    if bytes_eq s.active (codes "active") then (if bytes_eq s.sub (codes "running") then Runs s.number else Reached)
    else (if bytes_eq s.sub (codes "dead") && bytes_eq s.result (codes "success") then Reached else Missed)

-- a unit that is to be down is inactive or failed, and its result isn't `timeout`
abbrev pub standing_down : UnitShown → Standing
standing_down s =
    if (bytes_eq s.active (codes "inactive") || bytes_eq s.active (codes "failed")) && not (bytes_eq s.result (codes "timeout")) then Reached else Missed

abbrev pub standing_for : Goal → UnitShown → Standing
standing_for Up s = standing_up s
standing_for Down s = standing_down s

-- a unit's standing for a goal: on its way if a job of it is pending or it starts or stops, otherwise by its states
abbrev pub standing_of : Goal → UnitShown → List Data → Standing
standing_of goal s jobs = if has_job s.id jobs || is_among s.sub moving_states then Moving else standing_for goal s

-- the standing of a unit, in a line: `x.service is failed: exit-code`
abbrev pub standing_line : UnitShown → List ℕ
standing_line s = s.id ++ (codes " is " ++ (s.sub ++ (codes ": " ++ s.result)))

-- ---- rows

-- a row of the table, and the lines after it
pub record Row : Type 0 where
  pub unit : List ℕ
  pub loaded : List ℕ
  pub state : List ℕ
  pub result : List ℕ
  pub pid : List ℕ
  pub job : List ℕ
  pub details : List ℕ

-- a text, or `-` if it is empty
abbrev pub or_dash : List ℕ → List ℕ
or_dash text = if is_empty text then codes "-" else text

-- the text of a pid
abbrev pub pid_text : Option ℕ → List ℕ
pid_text None = codes "-"
pid_text (Some pid) = decimal pid

-- the row of a unit, with these lines after it
abbrev pub row_of : UnitShown → List Data → Option ℕ → List ℕ → Row
row_of s jobs pid details = record {
  unit = s.id;
  loaded = s.loaded;
  state = s.active ++ (codes "/" ++ s.sub);
  result = s.result;
  pid = pid_text pid;
  job = or_dash (jobs_words s.id jobs);
  details = details;
}

-- the row of the names of the columns
abbrev pub header : Row
header = record {
  unit = codes "UNIT";
  loaded = codes "LOADED";
  state = codes "STATE";
  result = codes "RESULT";
  pid = codes "PID";
  job = codes "JOB";
  details = [];
}

-- the widths of the columns
pub record Widths : Type 0 where
  pub unit : ℕ
  pub loaded : ℕ
  pub state : ℕ
  pub result : ℕ
  pub pid : ℕ

-- wide enough for one more row
abbrev pub wider : Widths → Row → Widths
wider w r = record {
  unit = max w.unit (length r.unit);
  loaded = max w.loaded (length r.loaded);
  state = max w.state (length r.state);
  result = max w.result (length r.result);
  pid = max w.pid (length r.pid);
}

abbrev pub no_width : Widths
no_width = record { unit = 0; loaded = 0; state = 0; result = 0; pid = 0 }

-- each column is as wide as its longest
abbrev pub widths_of : List Row → Widths
widths_of rows = fold wider (wider no_width header) rows

-- a cell followed by spaces, up to the column's width and two more
abbrev pub cell_text : ℕ → List ℕ → List ℕ
cell_text width cell = cell ++ (replicate (width - length cell) 32 ++ codes "  ")

-- the line of a row, and those after it
abbrev pub row_text : Widths → Row → List ℕ
row_text w r =
    cell_text w.unit r.unit ++ (cell_text w.loaded r.loaded ++ (cell_text w.state r.state ++ (cell_text w.result r.result
    ++ (cell_text w.pid r.pid ++ (r.job ++ (codes "\n" ++ r.details))))))

-- the names of the columns, and the rows
abbrev pub table_text : List Row → List ℕ
table_text rows = row_text (widths_of rows) header ++ flat_map (row_text (widths_of rows)) rows

-- ---- the lines after a row

-- a line after a row
abbrev pub detail_line : List ℕ → List ℕ
detail_line text = codes "  " ++ (text ++ codes "\n")

-- the parts of the line that records the end of a process: its number, the moment in microseconds, and how it ended
abbrev pub end_text : (number moment : ℕ) → List ℕ → List ℕ
end_text number moment how = decimal number ++ (codes " " ++ (decimal moment ++ (codes " " ++ how)))

-- no number, moment and end have this line
abbrev pub IsNoEnd : List ℕ → Type 0
IsNoEnd line = (number moment : ℕ) (how : List ℕ) → number < 2 ^ 64 → moment < 2 ^ 64 → line ≢ end_text number moment how

-- how a process ended, for a person: code 203 is a command that can't be executed
abbrev pub how_told : List ℕ → List ℕ
how_told how = if bytes_eq how (codes "code 203") then codes "can't be executed" else how

-- the nanoseconds from the beginning of 1970 to the second of a moment in microseconds
abbrev pub nanos_at : ℕ → ℕ
nanos_at moment = moment / 10 ^ 6 * 10 ^ 9

-- the time of a moment in UTC, as `2026-11-29T19:44:45Z`
abbrev pub IsTimeOf : ℕ → List ℕ → Type 0
IsTimeOf moment text = (t : DateTime) × (civil_nanos t ≡ pos (nanos_at moment)) × (text ≡ iso_datetime_text t ++ codes "Z")

-- the text about the end of a process, at this time
abbrev pub process_text : ℕ → List ℕ → List ℕ → List ℕ
process_text number how time = codes "process " ++ (decimal number ++ (codes ": " ++ (how_told how ++ (codes ", " ++ time))))

-- the moment has a date: jiff knows those of the years -9999 to 9999
abbrev pub HasDate : ℕ → Type 0
HasDate moment = IsTimestampNanos (pos (nanos_at moment))

-- this is the text about the end of a process
abbrev pub IsProcessText : (number moment : ℕ) → List ℕ → List ℕ → Type 0
IsProcessText number moment how text = (time : List ℕ) × IsTimeOf moment time × (text ≡ process_text number how time)

-- all kinds of warnings
abbrev pub all_kinds : List WarningKind
all_kinds =
    warning.BeforeAnySection ∷ warning.NoEqualsSign ∷ warning.UnknownSection ∷ warning.UnknownKey ∷ warning.UnreadableValue
    ∷ warning.UnreadableSpecifier ∷ []

-- the kind of a warning by its number
abbrev pub warning_kind : ℕ → Option WarningKind
warning_kind number = find (λ kind. warning_number kind == number) all_kinds

-- the number at a place of a list
abbrev pub number_in : ℕ → Data → Option ℕ
number_in place d = option_and_then as_u64 (option_and_then as_number (at place d))

-- the text of a warning: `lib/y.service:4: unknown key, no effect`
abbrev pub warning_text : WarningKind → (path : List ℕ) → (line : ℕ) → List ℕ
warning_text kind path line = path ++ (codes ":" ++ (decimal line ++ (codes ": " ++ warning_sentence kind)))

-- the text of a warning as `show` has it
unfoldable pub warning_of : Data → Option (List ℕ)
warning_of d = do
  n ← number_in 0 d
  kind ← warning_kind n
  path ← text_in 1 d
  line ← number_in 2 d
  Some (warning_text kind path line)

-- a line for a warning, if the value is one
abbrev pub warning_line : Data → List ℕ
warning_line d = option_map_or detail_line (warning_of d) []

-- a line for each warning
abbrev pub warning_lines : List Data → List ℕ
warning_lines ds = flat_map warning_line ds

-- ---- all lines after a row

-- the line about the end of the last process, if that is recorded and its time has a date
abbrev pub IsEndLine : Option LastEnd → List ℕ → Type 0
IsEndLine None line = line ≡ []
IsEndLine (Some end) line =
    ((¬ HasDate end.moment) × (line ≡ []))
    ⊎ ((text : List ℕ) × IsProcessText end.number end.moment end.how.now text × (line ≡ detail_line text))

-- the lines after a row: the end of the last process, the warnings of `show`, and the reports on the unit's files
abbrev pub AreDetails : Option LastEnd → List Data → List (List ℕ) → List ℕ → Type 0
AreDetails end warnings told text = (line : List ℕ) × IsEndLine end line × (text ≡ line ++ (warning_lines warnings ++ flat_map detail_line told))

-- ---- files

-- the path and the text of a file as `cat` gives it
abbrev pub files_at : Option (List ℕ) → Option (List ℕ) → List (List ℕ × List ℕ)
files_at (Some path) (Some text) = (path, text) ∷ []
files_at path text = []

abbrev pub file_given : Data → List (List ℕ × List ℕ)
file_given d = files_at (text_in 0 d) (text_in 1 d)
