-- A refusal: its number, its name and its details; and which of two causes it names.
-- No manual page has this: it is the project's own protocol (docs/FORMATS.md, "Refusals").
-- Every definition of a call that can refuse depends on this file.
use Rattle.std.specs.Prelude.{ℕ, List, [], ◌∷◌, Option, Some, None, Result, Ok, Err, codes, decimal}
use Rattle.um_model.specs.declared.refusals.Limit.{Limit}
use Rattle.um_model.specs.declared.refusals.Limit.TheVariants.{Frame, Text, Entries, Units, Reply}

-- a refusal as its reply gives it
pub record Refused : Type 0 where
  pub number : ℕ
  pub name : List ℕ
  pub detail : List (List ℕ)

abbrev pub refused : ℕ → List ℕ → List (List ℕ) → Refused
refused number name detail = record { number = number; name = name; detail = detail }

-- the word of a limit that was passed
abbrev pub limit_word : Limit → List ℕ
limit_word Frame = codes "frame"
limit_word Text = codes "text"
limit_word Entries = codes "entries"
limit_word Units = codes "units"
limit_word Reply = codes "reply"

-- not one JSON object; a missing, unknown or ill-typed field; a text with U+0000; a boot id past 64 bytes; a moment past 2^62
abbrev pub bad_request : Refused
bad_request = refused 1 (codes "BadRequest") []

-- no such verb in this mode
abbrev pub unknown_verb : List ℕ → Refused
unknown_verb verb = refused 2 (codes "UnknownVerb") (verb ∷ [])

-- not a unit name
abbrev pub bad_name : List ℕ → Refused
bad_name text = refused 3 (codes "BadName") (text ∷ [])

-- a unit to be started or enabled, or named to cat, isn't found
abbrev pub not_found : List ℕ → Refused
not_found unit = refused 4 (codes "NotFound") (unit ∷ [])

-- the unit is masked
abbrev pub masked : List ℕ → Refused
masked unit = refused 5 (codes "Masked") (unit ∷ [])

-- the unit has a refused setting, or is a template
abbrev pub bad_setting : List ℕ → List ℕ → Refused
bad_setting unit reason = refused 6 (codes "BadSetting") (unit ∷ reason ∷ [])

-- stop, try-restart, cancel or reset-failed of a unit that is neither in the loaded tree nor in the state
abbrev pub not_loaded : List ℕ → Refused
not_loaded unit = refused 7 (codes "NotLoaded") (unit ∷ [])

-- start and stop demanded of one unit
abbrev pub clash : List ℕ → Refused
clash unit = refused 8 (codes "Clash") (unit ∷ [])

-- the pending jobs would have a cycle: its units, the least first
abbrev pub ordering_cycle : List (List ℕ) → Refused
ordering_cycle units = refused 9 (codes "OrderingCycle") units

-- mode fail would drop a pending job
abbrev pub job_conflict : List ℕ → Refused
job_conflict unit = refused 10 (codes "JobConflict") (unit ∷ [])

-- something else stands at the path
abbrev pub exists_at : List ℕ → Refused
exists_at path = refused 11 (codes "Exists") (path ∷ [])

-- the path has no served form, the target is unfit, or there is nothing to remove
abbrev pub bad_path : List ℕ → Refused
bad_path path = refused 12 (codes "BadPath") (path ∷ [])

-- that limit is passed
abbrev pub too_large : Limit → Refused
too_large limit = refused 13 (codes "TooLarge") (limit_word limit ∷ [])

-- the weight would exceed the store's size
abbrev pub no_room : Refused
no_room = refused 14 (codes "NoRoom") []

-- a growth of memory was refused
abbrev pub no_memory : Refused
no_memory = refused 15 (codes "NoMemory") []

-- the disk or the children failed in that call
abbrev pub device : Refused
device = refused 16 (codes "Device") []

-- an earlier call of that keeper failed on its device
abbrev pub reopen : Refused
reopen = refused 17 (codes "Reopen") []

-- the image has no reading at the sector
abbrev pub damaged : ℕ → Refused
damaged sector = refused 18 (codes "Damaged") (decimal sector ∷ [])

-- there is no sector 0, or it doesn't begin as a store does
abbrev pub not_formatted : Refused
not_formatted = refused 19 (codes "NotFormatted") []

-- the generation is the last there is
abbrev pub generations_spent : Refused
generations_spent = refused 20 (codes "GenerationsSpent") []

-- cancel finds no waiting job
abbrev pub no_such_job : List ℕ → Refused
no_such_job unit = refused 21 (codes "NoSuchJob") (unit ∷ [])

-- a store of another layout
abbrev pub other_layout : Refused
other_layout = refused 22 (codes "OtherLayout") []

-- the refusal of the first of two causes that holds
pub data FirstCause (First Second : Refused → Type 0) (r : Refused) : Type 0 where
  at_first : First r → FirstCause First Second r
  at_second : ((other : Refused) → ¬ First other) → Second r → FirstCause First Second r

-- the value, unless a cause of refusal holds
abbrev pub unless_refused : {A : Type 0} → Option Refused → A → Result A Refused
unless_refused None a = Ok a
unless_refused (Some r) a = Err r
