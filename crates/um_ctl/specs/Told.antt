-- The text that is printed for a reply, and the exit status of the program.
-- No manual page has this: texts and statuses are the project's own (docs/FORMATS.md, "The program").
-- The client stands on this file.
use Rattle.std.specs.Prelude.{ℕ, List, [], ◌∷◌, ◌++◌, Bool, true, false, not, ◌==◌, Option, Some, None, is_some, option_map, option_and_then, find, flat_map, codes, decimal, if◌then◌else◌}
use Rattle.std.specs.List.{list_all}
use Rattle.serde_json.specs.Data.{Data, Items, no_items, item}
use Rattle.serde_json.specs.Find.{get, as_bool, as_str, as_number, as_u64, as_array}
use Rattle.serde_json.specs.Written.{compact_text, has_float}
use Rattle.um_model.specs.Bytes.{◌>>=◌}
use Rattle.um_model.specs.Refusals.{Refused, refused, bad_request, unknown_verb, bad_name, not_found, masked, bad_setting, not_loaded, clash, ordering_cycle, job_conflict, exists_at, bad_path, too_large, no_room, no_memory, device, reopen, damaged, not_formatted, generations_spent, no_such_job, other_layout}
use Rattle.um_model.specs.Requests.{is_among}
use Rattle.um_model.specs.declared.refusals.Limit.TheVariants.{Text}
use Rattle.um_model.specs.declared.requests.Verb.{Verb}
use Rattle.um_model.specs.declared.requests.Verb.TheVariants as verb
use Rattle.um_ctl.specs.Shown.{shown}

-- the text for standard output, the text for standard error, and the exit status
pub record Told : Type 0 where
  pub output : List ℕ
  pub error : List ℕ
  pub status : ℕ

-- done, with this text
abbrev pub done : List ℕ → ℕ → Told
done text status = record { output = text; error = []; status = status }

-- a text and a line feed
abbrev pub line : List ℕ → List ℕ
line text = text ++ 10 ∷ []

-- a detail after a space
abbrev pub spaced : List ℕ → List ℕ
spaced text = 32 ∷ text

-- how a refusal prints: `E4 NotFound b.service`
abbrev pub refusal_text : Refused → List ℕ
refusal_text r = codes "E" ++ (decimal r.number ++ (spaced r.name ++ flat_map spaced r.detail))

-- a refusal on standard error, one line whatever its details
abbrev pub refused_told : Refused → Told
refused_told r = record { output = []; error = line (shown (refusal_text r)); status = 1 }

-- a refusal of each number; their details don't matter
abbrev pub all_refused : List Refused
all_refused =
    bad_request ∷ unknown_verb [] ∷ bad_name [] ∷ not_found [] ∷ masked [] ∷ bad_setting [] [] ∷ not_loaded [] ∷ clash [] ∷ ordering_cycle []
    ∷ job_conflict [] ∷ exists_at [] ∷ bad_path [] ∷ too_large Text ∷ no_room ∷ no_memory ∷ device ∷ reopen ∷ damaged 0 ∷ not_formatted
    ∷ generations_spent ∷ no_such_job [] ∷ other_layout ∷ []

-- the name of the refusal of this number
abbrev pub name_of : ℕ → Option (List ℕ)
name_of n = option_map (λ r. r.name) (find (λ r. r.number == n) all_refused)

-- the items of a list
abbrev pub data_in : Items → List Data
data_in no_items = []
data_in (item d ds) = d ∷ data_in ds

-- the text, if the value is one
abbrev pub text_in : Option (List ℕ) → List (List ℕ)
text_in None = []
text_in (Some text) = text ∷ []

abbrev pub is_text : Data → Bool
is_text d = is_some (as_str d)

-- the texts among values
abbrev pub texts_in : List Data → List (List ℕ)
texts_in ds = flat_map (λ d. text_in (as_str d)) ds

-- the details of a refusal
abbrev pub details_in : Data → Option (List Data)
details_in d = option_map data_in (option_and_then as_array (get (codes "detail") d))

abbrev pub number_in : Data → Option ℕ
number_in d = option_and_then as_u64 (option_and_then as_number (get (codes "error") d))

-- the refusal in a reply: each of its details has to be a text
unfoldable pub refused_in : Data → Option Refused
refused_in d = do
  n ← number_in d
  name ← name_of n
  details ← details_in d
  if list_all is_text details then Some (refused n name (texts_in details)) else None

-- whether a value is one of the words
abbrev pub is_word : List (List ℕ) → Option (List ℕ) → Bool
is_word words None = false
is_word words (Some word) = is_among word words

-- the states of a unit that count as not enabled
abbrev pub not_enabled : List (List ℕ)
not_enabled = codes "not-found" ∷ codes "masked" ∷ codes "disabled" ∷ []

-- the answers of `is-active`, `is-failed` and `is-enabled` are also shown by the exit status
abbrev pub status_of : Verb → Data → ℕ
status_of verb.IsActive value = if is_word (codes "active" ∷ []) (as_str value) then 0 else 3
status_of verb.IsFailed value = if is_word (codes "failed" ∷ []) (as_str value) then 0 else 3
status_of verb.IsEnabled value = if is_word not_enabled (as_str value) then 3 else 0
status_of v value = 0

-- a value is printed as compact JSON; without a value nothing is printed
abbrev pub done_told : Verb → Option Data → Told
done_told v None = done [] 0
done_told v (Some value) = done (line (compact_text value)) (status_of v value)

abbrev pub told_by : Verb → Data → Option Bool → Option Told
told_by v d None = None
told_by v d (Some true) = Some (done_told v (get (codes "value") d))
told_by v d (Some false) = option_map refused_told (refused_in d)

-- the report of a reply to the verb; none if it is no reply
abbrev pub told_of : Verb → Data → Option Told
told_of v d = told_by v d (option_and_then as_bool (get (codes "ok") d))

-- the value has no float; no reply of a manager has one
abbrev pub is_plain : Option Data → Bool
is_plain None = true
is_plain (Some d) = not (has_float d)
