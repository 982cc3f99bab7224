-- The refusal of the code as the refusal of the definitions.
use Rattle.std.specs.Prelude.{map, string_bytes}
use Rattle.um_model.specs.Refusals as told
use Rattle.um_wire.specs.declared.refusal.Refusal.{Refusal}
use Rattle.um_wire.specs.declared.refusal.Refusal.TheVariants as refusal

abbrev pub refused_of : Refusal → told.Refused
refused_of refusal.BadRequest = told.bad_request
refused_of (refusal.UnknownVerb verb) = told.unknown_verb (string_bytes verb)
refused_of (refusal.BadName text) = told.bad_name (string_bytes text)
refused_of (refusal.NotFound unit) = told.not_found (string_bytes unit)
refused_of (refusal.Masked unit) = told.masked (string_bytes unit)
refused_of (refusal.BadSetting unit reason) = told.bad_setting (string_bytes unit) (string_bytes reason)
refused_of (refusal.NotLoaded unit) = told.not_loaded (string_bytes unit)
refused_of (refusal.Clash unit) = told.clash (string_bytes unit)
refused_of (refusal.OrderingCycle units) = told.ordering_cycle (map string_bytes units.items.items)
refused_of (refusal.JobConflict unit) = told.job_conflict (string_bytes unit)
refused_of (refusal.Exists path) = told.exists_at (string_bytes path)
refused_of (refusal.BadPath path) = told.bad_path (string_bytes path)
refused_of (refusal.TooLarge limit) = told.too_large limit
refused_of refusal.NoRoom = told.no_room
refused_of refusal.NoMemory = told.no_memory
refused_of refusal.Device = told.device
refused_of refusal.Reopen = told.reopen
refused_of (refusal.Damaged sector) = told.damaged sector
refused_of refusal.NotFormatted = told.not_formatted
refused_of refusal.GenerationsSpent = told.generations_spent
refused_of (refusal.NoSuchJob unit) = told.no_such_job (string_bytes unit)
refused_of refusal.OtherLayout = told.other_layout
