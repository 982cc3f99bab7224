-- Canonical bytes of the state of one unit: choices, ends, moments, process numbers, names, start windows, and the unit.
-- No manual page has this: it is the project's own format (docs/FORMATS.md, "Canonical bytes").
-- The bytes of states and inputs, and the code that reads and writes them depend on this file.
use Rattle.std.specs.Prelude.{◌≡◌, ℕ, ◌-◌, ◌<◌, ◌^◌, ⊤, Bool, true, ◌==◌, List, [], ◌∷◌, ◌++◌, Option, Some, None, IfSome, if◌then◌else◌}
use Rattle.byteorder.specs.Endian.{big_bytes}
use Rattle.um_model.specs.Bytes.{Spelling, Decoder, byte_at, number_at, between_at, FitBetween, pair_at, as_at, only_at, choice_at, tag_at, table_at, tagged, truth_tag, truths}
use Rattle.um_model.specs.Bytes.{arm_in, just_at}
use Rattle.um_model.specs.Bytes.{option_spelling, option_at, FitText, text_at}
use Rattle.um_model.specs.Names.{is_unit_name}
use Rattle.um_model.specs.Moments.{moment_limit, deadline_limit, process_limit}
use Rattle.um_model.specs.declared.jobs.JobKind.{JobKind}
use Rattle.um_model.specs.declared.jobs.JobKind.TheVariants as kind
use Rattle.um_model.specs.declared.jobs.JobState.{JobState}
use Rattle.um_model.specs.declared.jobs.JobState.TheVariants.{Waiting, Running}
use Rattle.um_model.specs.declared.limit.Counted.{Counted}
use Rattle.um_model.specs.declared.profile.Profile.{Profile}
use Rattle.um_model.specs.declared.profile.Profile.TheVariants.{One, Two}
use Rattle.um_model.specs.declared.service.End.{End}
use Rattle.um_model.specs.declared.service.End.TheVariants as end
use Rattle.um_model.specs.declared.service.SubState.{SubState}
use Rattle.um_model.specs.declared.service.SubState.TheVariants as sub
use Rattle.um_model.specs.declared.service.UnitResult.{UnitResult}
use Rattle.um_model.specs.declared.service.UnitResult.TheVariants as result
use Rattle.um_model.specs.declared.service.UnitState.{UnitState}

-- ---- choices without fields: each is its tag, by which it stands in a table

-- the tag of a sub state
abbrev pub sub_tag : SubState → ℕ
sub_tag sub.Dead = 0
sub_tag sub.Start = 1
sub_tag sub.Running = 2
sub_tag sub.Exited = 3
sub_tag sub.Stop = 4
sub_tag sub.StopSigterm = 5
sub_tag sub.StopSigkill = 6
sub_tag sub.Failed = 7
sub_tag sub.AutoRestart = 8
sub_tag sub.Active = 9
sub_tag sub.StartPre = 10

-- the sub states by their tags
abbrev pub sub_states : List SubState
sub_states =
    sub.Dead ∷ sub.Start ∷ sub.Running ∷ sub.Exited ∷ sub.Stop ∷ sub.StopSigterm ∷ sub.StopSigkill ∷ sub.Failed ∷ sub.AutoRestart ∷ sub.Active
    ∷ sub.StartPre ∷ []

-- the tag of a result
abbrev pub result_tag : UnitResult → ℕ
result_tag result.Success = 0
result_tag result.ExitCode = 1
result_tag result.Signal = 2
result_tag result.Timeout = 3
result_tag result.Lost = 4
result_tag result.StartLimitHit = 5
result_tag result.Dependency = 6
result_tag result.NotLoaded = 7
result_tag result.Resources = 8

-- the results by their tags
abbrev pub results : List UnitResult
results =
    result.Success ∷ result.ExitCode ∷ result.Signal ∷ result.Timeout ∷ result.Lost ∷ result.StartLimitHit ∷ result.Dependency ∷ result.NotLoaded
    ∷ result.Resources ∷ []

-- the tag of a job's kind
abbrev pub kind_tag : JobKind → ℕ
kind_tag kind.Stop = 0
kind_tag kind.Start = 1

-- the kinds of jobs by their tags
abbrev pub kinds : List JobKind
kinds = kind.Stop ∷ kind.Start ∷ []

-- the tag of how far a job is
abbrev pub job_state_tag : JobState → ℕ
job_state_tag Waiting = 0
job_state_tag Running = 1

-- how far jobs are, by their tags
abbrev pub job_states : List JobState
job_states = Waiting ∷ Running ∷ []

-- the tag of a profile, which is the first byte of a state and of an input
abbrev pub profile_tag : Profile → ℕ
profile_tag One = 1
profile_tag Two = 2

-- the profile of a tag; no other tag has one
abbrev pub profile_of : ℕ → Option Profile
profile_of tag = if tag == 1 then Some One else (if tag == 2 then Some Two else None)

-- a first byte that names a profile
abbrev pub profile_at : Decoder Profile
profile_at = tag_at profile_of

-- ---- an end: its tag, and the code or signal, which is any byte

-- the tag of an end
abbrev pub end_tag : End → ℕ
end_tag (end.Code code) = 0
end_tag (end.Signal number) = 1
end_tag end.Lost = 2

-- the code or signal after the tag, if any
abbrev pub end_fields : Spelling End
end_fields (end.Code code) = code ∷ []
end_fields (end.Signal number) = number ∷ []
end_fields end.Lost = []

-- the tag, and the code or signal after it
abbrev pub end_spelling : Spelling End
end_spelling e = end_tag e ∷ end_fields e

-- the ends by their tags: a code, a signal, or neither
abbrev pub end_arms : List (Decoder End)
end_arms = as_at end.Code byte_at ∷ as_at end.Signal byte_at ∷ just_at end.Lost ∷ []

-- a tag, and the code or signal after it
abbrev pub end_at : Decoder End
end_at = choice_at (arm_in end_arms)

-- the code or signal is a byte
abbrev pub FitEnd : End → Type 0
FitEnd (end.Code code) = code < 2 ^ 8
FitEnd (end.Signal number) = number < 2 ^ 8
FitEnd end.Lost = ⊤

-- ---- moments and process numbers: eight bytes, within their bounds

-- a moment is at most its limit
abbrev pub moment_at : Decoder ℕ
moment_at = between_at 0 moment_limit

-- the same as a statement
abbrev pub FitMoment : ℕ → Type 0
FitMoment = FitBetween 0 moment_limit

-- a deadline is at most its limit
abbrev pub deadline_at : Decoder ℕ
deadline_at = between_at 0 deadline_limit

-- the same as a statement
abbrev pub FitDeadline : ℕ → Type 0
FitDeadline = FitBetween 0 deadline_limit

-- a process has one of the numbers from 1 to below the limit
abbrev pub process_at : Decoder ℕ
process_at = between_at 1 (process_limit - 1)

-- the same as a statement
abbrev pub FitProcess : ℕ → Type 0
FitProcess = FitBetween 1 (process_limit - 1)

-- the next number may be the limit, at which no process is left to start
abbrev pub next_at : Decoder ℕ
next_at = between_at 1 process_limit

-- the same as a statement
abbrev pub FitNext : ℕ → Type 0
FitNext = FitBetween 1 process_limit

-- ---- the name of a unit

-- a text that is a unit name
abbrev pub unit_name_at : Decoder (List ℕ)
unit_name_at = only_at is_unit_name text_at

-- the same as a statement
abbrev pub FitUnitName : List ℕ → Type 0
FitUnitName name = FitText name × (is_unit_name name ≡ true)

-- ---- the starts that a window counted: the moment of the first one, and how many

-- the moment in eight bytes, the count in four
abbrev pub counted_spelling : Spelling Counted
counted_spelling c = big_bytes 8 c.began ++ big_bytes 4 c.count

-- the window of its two fields
abbrev pub counted_of : ℕ × ℕ → Counted
counted_of (began, count) = record { began = began; count = count }

-- a moment, and a count
abbrev pub counted_at : Decoder Counted
counted_at = as_at counted_of (pair_at moment_at (number_at 4))

-- a window that has bytes: its moment has some, and so has its count
abbrev pub FitCounted : Counted → Type 0
FitCounted c = FitMoment c.began × (c.count < 2 ^ 32)

-- ---- a unit: its fields in order

-- each field after the one before
abbrev pub unit_spelling : Spelling UnitState
unit_spelling u =
    tagged sub_tag u.sub ++ (tagged result_tag u.result ++ (option_spelling (big_bytes 8) u.main ++ (option_spelling (big_bytes 8) u.control
    ++ (big_bytes 4 u.index ++ (option_spelling (big_bytes 8) u.deadline ++ (option_spelling counted_spelling u.window
    ++ (tagged truth_tag u.stop_asked ++ option_spelling end_spelling u.last)))))))

-- the fields alone
abbrev pub UnitFields : Type 0
UnitFields = SubState × (UnitResult × (Option ℕ × (Option ℕ × (ℕ × (Option ℕ × (Option Counted × (Bool × Option End)))))))

-- the unit of its fields
abbrev pub unit_of : UnitFields → UnitState
unit_of (sub, (result, (main, (control, (index, (deadline, (window, (asked, last)))))))) =
    record { sub = sub; result = result; main = main; control = control; index = index; deadline = deadline; window = window; stop_asked = asked; last = last }

-- each field after the one before
abbrev pub unit_at : Decoder UnitState
unit_at =
    as_at unit_of (pair_at (table_at sub_states) (pair_at (table_at results) (pair_at (option_at process_at) (pair_at (option_at process_at)
    (pair_at (number_at 4) (pair_at (option_at deadline_at) (pair_at (option_at counted_at) (pair_at (table_at truths) (option_at end_at)))))))))

-- a unit that has bytes: each of its fields has some
pub record FitUnit (u : UnitState) : Type 0 where
  pub main : IfSome u.main FitProcess
  pub control : IfSome u.control FitProcess
  pub index : u.index < 2 ^ 32
  pub deadline : IfSome u.deadline FitDeadline
  pub window : IfSome u.window FitCounted
  pub last : IfSome u.last FitEnd
