-- Parts of definitions, by names that the laws of them use.
use Rattle.std.specs.Prelude.{◌+◌, ◌-◌, Bool, true, nat_le, nat_eq, length, take, List, [], ◌∷◌, ℕ, Option, Some, None, if◌then◌else◌, ◌==◌}
use Rattle.std.specs.List.{ends_with, slice_get, list_all}
use Rattle.std.specs.Str.{is_utf8}
use Rattle.std.specs.Option.{option_map_or, option_and_then, option_to_list}
use Rattle.um_model.specs.Names.{suffix_text, is_instance_byte, byte_escape, escape_of}
use Rattle.um_model.specs.Pieces.{Front, Gives}
use Rattle.um_model.specs.Resolution.{UnitFile, is_of_same_type}
use Rattle.um_model.specs.Substitution.{Variable, value_of}
use Rattle.um_model.specs.Tree.{Entry, File, Link, PathParts, is_fit_place, is_fit_entry}
use Rattle.um_model.specs.Units.{LoadedUnit, Loading, Found, BadSetting}
use Rattle.um_model.specs.declared.names.Suffix.{Suffix}
use Rattle.um_model.specs.Sessions.{Asked}
use Rattle.um_model.specs.declared.jobs.JobKind.{JobKind}
use Rattle.um_model.specs.declared.jobs.UnitJobs.{UnitJobs}
use Rattle.um_model.specs.declared.jobs.JobState.TheVariants.{Running}
use Rattle.um_model.specs.declared.limit.Counted.{Counted}
use Rattle.um_model.specs.Jobs.{JobShown, with_job}
use Rattle.um_model.specs.Spellings.{FitUnitName}
use Rattle.um_model.specs.Refusals.{Refused}
use Rattle.um_model.specs.StateSpellings.{is_job_before}
use Rattle.um_model.specs.Bytes.{Spelling, text_spelling}
use Rattle.um_model.specs.Weight.{text_of_entry}

-- a unit is found, unless there is a reason why it can't be loaded
abbrev pub found_unless : Option (List ℕ) → LoadedUnit → Loading
found_unless reason u = option_map_or (BadSetting u.name) reason (Found u)

-- the meaning of a `$` before a name in braces, if there is one
abbrev pub variable_front : List Variable → Option (List ℕ) → Front ℕ
variable_front environment name = option_map_or (λ n. Gives (value_of environment n) (length n + 3)) name (Gives (36 ∷ []) 1)

-- the bytes, if they are a text
abbrev pub as_text : Option (List ℕ) → Option (List ℕ)
as_text bytes = option_and_then (λ text. if is_utf8 text then Some text else None) bytes

-- the other name, if it is of the unit's type
abbrev pub of_same_type : List ℕ → Option (List ℕ) → Option (List ℕ)
of_same_type unit other = option_and_then (λ o. if is_of_same_type unit o then Some o else None) other

-- the drop-in that an entry is, if it has a name in the folder
abbrev pub drop_in_named : Option (List ℕ) → List ℕ × Entry → List (List ℕ × UnitFile)
drop_in_named file (path, File text) = option_map_or (λ name. (name, record { path = path; text = text }) ∷ []) file []
drop_in_named file (path, Link target) = []

-- the parts, if they are fit
abbrev pub where_fit : PathParts → Option PathParts
where_fit p = if is_fit_place p.unit p.place then Some p else None

-- the entry at the path, if any, may stand there
abbrev pub is_fit_at : List ℕ → Option Entry → Bool
is_fit_at path entry = option_map_or (is_fit_entry path) entry true

-- the text ends in the suffix
abbrev pub ends_in : List ℕ → Suffix → Bool
ends_in text s = ends_with nat_eq text (suffix_text s)

-- the text before that suffix, or all
abbrev pub stem_before : List ℕ → Option Suffix → List ℕ
stem_before text suffix = option_map_or (λ s. take (length text - length (suffix_text s)) text) suffix text

-- the next reading, as a list
abbrev pub asked_in : Option Asked → List Asked
asked_in asked = option_to_list asked

-- the number, as a list
abbrev pub numbers : Option ℕ → List ℕ
numbers number = option_to_list number

-- with a job of this kind running
abbrev pub with_running : JobKind → UnitJobs → UnitJobs
with_running kind j = with_job kind Running j

-- a window has begun by then
abbrev pub has_begun : ℕ → Option Counted → Bool
has_begun clock window = option_map_or (λ c. nat_le c.began clock) window true

-- the unit of a job has a name
abbrev pub FitJob : JobShown → Type 0
FitJob j = FitUnitName j.unit

-- a cause of refusal: that refusal, if the test holds
abbrev pub cause : Bool → Refused → Option Refused
cause b r = if b then Some r else None

-- the job comes before the next one, if there is one
abbrev pub is_before_next : JobShown → List JobShown → Bool
is_before_next j more = option_map_or (is_job_before j) (slice_get more 0) true

-- the fields after the tag of an entry
abbrev pub entry_fields : Spelling Entry
entry_fields e = text_spelling (text_of_entry e)

-- an instance with the `@` before it
abbrev pub instance_text : Option (List ℕ) → List ℕ
instance_text instance = option_map_or (λ text. 64 ∷ text) instance []

-- if there is an instance, it has its bytes alone
abbrev pub is_fit_instance : Option (List ℕ) → Bool
is_fit_instance instance = option_map_or (list_all is_instance_byte) instance true

-- how the first byte of a text is escaped
abbrev pub first_escape_of : ℕ → List ℕ
first_escape_of b = if b == 46 then byte_escape b else escape_of b
